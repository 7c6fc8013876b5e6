-- What a split comes to, by how many triangles there are; and the table that its rows make.
-- Assumes nothing.
use mathlib.Core.Path.{◌≡◌, ◌∙◌, ap, ap₂}
use mathlib.Core.List.{List, [], ◌∷◌, ◌++◌, append_assoc}
use Prim.Native.Nat.{ℕ, suc, ◌+◌, ◌*◌, ◌≤◌, ◌<◌}
use native.Mathlib.Numerals.{add-one}
use native.Mathlib.Omega.{arith}
use lib.ListN.{length}
use Rattle.spec_plane.specs.declared.Point.{Point}
use Rattle.spec_plane.specs.Triangle.{Triangle}
use Rattle.spec_charts.specs.Table.{numbers_per_triangle, max_triangles, Table, table_of}
use Rattle.spec_charts.specs.declared.Refusal.TheVariants.{TableFull}
use Rattle.spec_charts.specs.Refusals.{refused, done}
use Rattle.spec_charts.specs.Edits.{split_at, split_row}
use Rattle.laws_charts.proofs.TableLaws.{table_of-length}
use Rattle.laws_charts.proofs.EditLaws.{within-full, within-fits, split_at-length}
use Rattle.edit_rows.proofs.RowLaws.{with_row, with_row-length, rows_append}

module _ (ns : List ℕ) (n i : ℕ) (t : Triangle) (p : Point) where
  -- the table made
  abbrev made : Table
  made = split_at (table_of ns n) i t p

  made-length : length made ≡ n + 2
  made-length = split_at-length (table_of ns n) i t p ∙ ap (λ m. m + 2) (table_of-length ns n)

  -- refusal 10
  pub split-full : max_triangles < n + 2 → split_row i t p (table_of ns n) ≡ refused TableFull
  unfolding split_row
  split-full h = within-full made (omega (arith, made-length))

  -- done
  pub split-made : n + 2 ≤ max_triangles → split_row i t p (table_of ns n) ≡ done (split_at (table_of ns n) i t p)
  unfolding split_row
  split-made h = within-fits made (omega (arith, made-length))

-- two triangles behind the rows of a table
pub two-appended : (o₁ : List ℕ) {o₂ o₃ : List ℕ} (n : ℕ) {t : Table} (y z : Triangle) → numbers_per_triangle * (n + 2) ≤ length o₁ → table_of o₁ n ≡ t
    → o₂ ≡ with_row o₁ n y → o₃ ≡ with_row o₂ (n + 1) z → table_of o₃ (n + 2) ≡ t ++ (y ∷ z ∷ [])
two-appended o₁ {o₂} {o₃} n {t} y z room e₁ e₂ e₃ =
    let l₂ : length o₂ ≡ length o₁ = ap length e₂ ∙ with_row-length o₁ n y in
    let k : n + 2 ≡ suc (n + 1) = omega arith in
    ap₂ table_of e₃ k ∙ rows_append o₂ (n + 1) z (omega arith)
    ∙ ap (λ l. l ++ (z ∷ [])) (ap₂ table_of e₂ (add-one n) ∙ rows_append o₁ n y (omega arith) ∙ ap (λ l. l ++ (y ∷ [])) e₁)
    ∙ append_assoc t (y ∷ []) (z ∷ [])
