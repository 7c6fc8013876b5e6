-- The entries of a table are packable.
-- Assumes nothing.
use mathlib.Core.Path.{◌≡◌}
use mathlib.Core.List.{List}
use mathlib.Core.Logic.{◌⊎◌, inl, inr}
use Prim.Native.Nat.{ℕ, ◌≤◌, ◌<◌}
use native.Mathlib.Omega.{arith}
use lib.ListN.{length}
use Rattle.theory_lists.proofs.ListsLaws.{Every}
use Rattle.theory_lists.proofs.EveryLaws.{every-imp}
use Rattle.theory_orthtree.specs.Entries.{empty_mark}
use Rattle.spec_charts.specs.Table.{table_of, max_triangles}
use Rattle.spec_charts.specs.Cells.{entries_of}
use Rattle.laws_charts.proofs.ChainOfTable.{entries-bounds}
use Rattle.laws_charts.proofs.TableLaws.{table_of-length}
use Rattle.base_entries.specs.Packed.{level_weight}
use Rattle.base_entries.proofs.PackLaws.{Packable}

small-item : (count i : ℕ) → count ≤ max_triangles → (i < count) ⊎ (i ≡ empty_mark) → i < level_weight
unfolding empty_mark
small-item count i h (inl l) = omega arith
small-item count i h (inr e) = omega arith

pub entries-packable : (ns : List ℕ) (n : ℕ) → n ≤ max_triangles → Every (λ e. Packable e) (entries_of (table_of ns n))
entries-packable ns n h =
    let few : length (table_of ns n) ≤ max_triangles = rw (table_of-length ns n) h in
    every-imp
    (λ e b. record { level = omega (arith, b.level); item = small-item (length (table_of ns n)) e.item few b.item })
    (entries-bounds (table_of ns n))
