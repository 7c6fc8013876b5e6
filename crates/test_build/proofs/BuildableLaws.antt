-- What fitting lengths say of each list, and when a table can be indexed, from the two tests that the code makes.
-- Assumes nothing.
use mathlib.Core.Path.{◌≡◌, sym, ◌∙◌, subst}
use mathlib.Core.Bool.{Bool, true, false, and-false}
use mathlib.Core.List.{List}
use Prim.Native.Nat.{ℕ, ◌/◌, ◌%◌, ◌≤◌}
use lib.Dec.{T}
use lib.ListN.{length}
use Rattle.theory_lists.specs.Lists.{all}
use Rattle.theory_lists.proofs.Reflects.{reflects-and, reflects-leb, reflects-eqb}
use Rattle.spec_plane.specs.Triangle.{proper}
use Rattle.spec_charts.specs.Table.{table_of, table_length, numbers_per_triangle}
use Rattle.spec_charts.specs.Cells.{max_entries}
use Rattle.spec_calls.specs.Buffers.{Roomy}
use Rattle.test_build.specs.Buildable.{lengths_fit, buildable}

-- the lengths of a table and three lists that fit
pub record Lengths (table keys levels items : List ℕ) : Type 0 where
  pub numbers : length table ≤ table_length
  pub lists : Roomy max_entries keys levels items

module _ (table keys levels items : List ℕ) where
  pub lengths-fit : {fit : Bool} → fit ≡ lengths_fit table keys levels items → fit ≡ true → Lengths table keys levels items
  unfolding lengths_fit
  lengths-fit e y =
      let whole = reflects-eqb (length table % numbers_per_triangle) 0 in
      let few = reflects-leb (length table) table_length in
      let k = reflects-leb max_entries (length keys) in
      let l = reflects-leb max_entries (length levels) in
      let i = reflects-leb max_entries (length items) in
      let h = (reflects-and (reflects-and (reflects-and (reflects-and whole few) k) l) i).to (subst T (sym (sym e ∙ y)) tt) in
      record { numbers = h.0.0.0.1; lists = record { for_keys = h.0.0.1; for_levels = h.0.1; for_items = h.1 } }

  pub buildable-both : {fit turned : Bool} → fit ≡ lengths_fit table keys levels items → fit ≡ true
      → turned ≡ all (λ t. proper t) (table_of table (length table / numbers_per_triangle)) → turned ≡ true
      → buildable table keys levels items ≡ true
  unfolding buildable
  buildable-both e y p z = rw (← e, y, ← p, z)

  pub buildable-lengths : {fit : Bool} → fit ≡ lengths_fit table keys levels items → fit ≡ false
      → buildable table keys levels items ≡ false
  unfolding buildable
  buildable-lengths e n = rw (← e, n)

  pub buildable-proper : {turned : Bool} → turned ≡ all (λ t. proper t) (table_of table (length table / numbers_per_triangle)) → turned ≡ false
      → buildable table keys levels items ≡ false
  unfolding buildable
  buildable-proper p n = rw (← p, n) (and-false (lengths_fit table keys levels items))
