-- The doubled area of a table, one triangle after another.
-- Assumes nothing.
use mathlib.Core.Path.{◌≡◌, refl, ◌∙◌, ap}
use mathlib.Core.List.{List, [], ◌∷◌}
use Prim.Native.Nat.{ℕ, ◌+◌}
use native.Mathlib.Nat.{add-zero}
use native.Mathlib.Numerals.{add-one}
use Rattle.theory_lists.specs.Lists.{sum_of, up_to, count_from}
use Rattle.theory_lists.proofs.SumLaws.{sum-append}
use Rattle.spec_plane.specs.Triangle.{doubled_area}
use Rattle.spec_charts.specs.Table.{triangle_at, table_of}
use Rattle.spec_charts.specs.Reading.{total_area}
use Rattle.laws_charts.proofs.TableLaws.{table_of-suc}

-- the area of no triangle
pub total_area-none : (ns : List ℕ) → 0 ≡ total_area (table_of ns 0)
unfolding total_area sum_of table_of up_to count_from
total_area-none ns = refl

-- the area with one triangle more
pub total_area-more : (ns : List ℕ) (i : ℕ) → total_area (table_of ns (i + 1)) ≡ total_area (table_of ns i) + doubled_area (triangle_at ns i)
unfolding total_area sum_of
total_area-more ns i =
    rw (add-one i, table_of-suc ns i)
    (sum-append (λ t. doubled_area t) (table_of ns i) (triangle_at ns i ∷ [])
    ∙ ap (λ n. total_area (table_of ns i) + n) (add-zero (doubled_area (triangle_at ns i))))
