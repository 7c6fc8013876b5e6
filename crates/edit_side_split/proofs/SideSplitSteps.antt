-- What a side split comes to, by its tests; and the table that its rows make.
-- Assumes nothing.
use mathlib.Core.Path.{◌≡◌, ◌∙◌, ap, ap₂}
use mathlib.Core.List.{List, [], ◌∷◌, ◌++◌}
use mathlib.Core.Option.{none, some}
use Prim.Native.Nat.{ℕ, ◌+◌, ◌*◌, ◌≤◌, ◌<◌}
use native.Mathlib.Numerals.{add-one}
use native.Mathlib.Omega.{arith}
use lib.ListN.{length, set}
use Rattle.spec_plane.specs.declared.Point.{Point}
use Rattle.spec_plane.specs.Triangle.{Triangle}
use Rattle.spec_charts.specs.Table.{numbers_per_triangle, max_triangles, Table, table_of}
use Rattle.spec_charts.specs.declared.Refusal.TheVariants.{TableFull}
use Rattle.spec_charts.specs.Refusals.{refused, done}
use Rattle.spec_charts.specs.Edits.{Neighbour, neighbour_from, side_split_at, side_split_both, within_table, side_split_row}
use Rattle.laws_charts.proofs.TableLaws.{table_of-length}
use Rattle.laws_charts.proofs.EditLaws.{within-full, within-fits}
use Rattle.laws_charts.proofs.NeighbourLaws.{neighbour-found}
use Rattle.laws_charts.proofs.SideSplitLaws.{side_split_at-length}
use Rattle.edit_rows.proofs.RowLaws.{with_row, with_row-length, rows_append, rows-set}

-- ---- the rows

-- a triangle in row i, and one behind the rows
pub row-split : (o : List ℕ) {o₁ o₂ : List ℕ} (n i : ℕ) (x y : Triangle) → i < n → numbers_per_triangle * (n + 1) ≤ length o → o₁ ≡ with_row o i x
    → o₂ ≡ with_row o₁ n y → table_of o₂ (n + 1) ≡ set (table_of o n) i x ++ (y ∷ [])
row-split o {o₁} n i x y h room e₁ e₂ =
    let l : length o₁ ≡ length o = ap length e₁ ∙ with_row-length o i x in
    ap₂ table_of e₂ (add-one n) ∙ rows_append o₁ n y (omega arith)
    ∙ ap (λ l. l ++ (y ∷ [])) (ap (λ l. table_of l n) e₁ ∙ rows-set o i n x h (omega arith))

-- the same after it, of a table made so
pub row-split-next : (o₁ o₂ : List ℕ) (n : ℕ) {half : Table} (j : ℕ) (u : Triangle) (p : Point) → table_of o₁ (n + 1) ≡ half
    → table_of o₂ (n + 1 + 1) ≡ side_split_at (table_of o₁ (n + 1)) j u p → table_of o₂ (n + 2) ≡ side_split_at half j u p
row-split-next o₁ o₂ n j u p e₁ e₂ =
    let m : n + 2 ≡ n + 1 + 1 = omega arith in
    ap (table_of o₂) m ∙ e₂ ∙ ap (λ l. side_split_at l j u p) e₁

-- ---- the triangle, and the one on the other side

module _ (ns : List ℕ) (n i : ℕ) (t : Triangle) (p : Point) where
  -- the table with the triangle split
  abbrev pub half : Table
  half = side_split_at (table_of ns n) i t p

  half_length : length half ≡ n + 1
  half_length = side_split_at-length (table_of ns n) i t p ∙ ap (λ m. m + 1) (table_of-length ns n)

  module _ (e : neighbour_from t 0 (table_of ns n) ≡ none) where
    alone : side_split_row i t p (table_of ns n) ≡ within_table half
    unfolding side_split_row side_split_both
    alone = ap (λ o. within_table (side_split_both (table_of ns n) i t p o)) e

    -- refusal 10: "511 alone" is accepted, 512 is not
    pub alone-full : max_triangles < n + 1 → side_split_row i t p (table_of ns n) ≡ refused TableFull
    alone-full h = alone ∙ within-full half (omega (arith, half_length))

    -- done
    pub alone-made : n + 1 ≤ max_triangles → side_split_row i t p (table_of ns n) ≡ done half
    alone-made h = alone ∙ within-fits half (omega (arith, half_length))

  module _ {u : Neighbour} (e : neighbour_from t 0 (table_of ns n) ≡ some u) where
    -- it is in the table
    pub neighbour-below : u.number < n
    neighbour-below = omega (arith, (neighbour-found t (table_of ns n) e).below, table_of-length ns n)

    -- the table with both split
    abbrev whole : Table
    whole = side_split_at half u.number u.rotation p

    whole_length : length whole ≡ n + 2
    whole_length = omega (arith, side_split_at-length half u.number u.rotation p, half_length)

    both : side_split_row i t p (table_of ns n) ≡ within_table whole
    unfolding side_split_row side_split_both
    both = ap (λ o. within_table (side_split_both (table_of ns n) i t p o)) e

    -- refusal 10: 511 and more are not accepted
    pub both-full : max_triangles < n + 2 → side_split_row i t p (table_of ns n) ≡ refused TableFull
    both-full h = both ∙ within-full whole (omega (arith, whole_length))

    -- done
    pub both-made : n + 2 ≤ max_triangles → side_split_row i t p (table_of ns n) ≡ done (side_split_at half u.number u.rotation p)
    both-made h = both ∙ within-fits whole (omega (arith, whole_length))
