-- What a take-out comes to, by the triangles around the point.
-- Assumes nothing.
use mathlib.Core.Path.{◌≡◌, refl, sym, ◌∙◌, ap}
use mathlib.Core.List.{List, [], ◌∷◌}
use Prim.Native.Nat.{ℕ, ◌<◌}
use Rattle.spec_plane.specs.declared.Point.{Point}
use Rattle.spec_plane.specs.Triangle.{Triangle}
use Rattle.spec_charts.specs.Table.{Table, triangle_at, table_of, numbered}
use Rattle.spec_charts.specs.declared.Refusal.TheVariants.{NotThreeAround}
use Rattle.spec_charts.specs.Refusals.{refused}
use Rattle.spec_charts.specs.Edits.{ending_in, merge_three, take_out_three, take_out_table}
use Rattle.laws_charts.proofs.TableLaws.{numbered-at}
use Rattle.edit_star.specs.Star.{around_from}

module _ (p : Point) (table : Table) where
  -- refusal 8: not three
  pub around-refused : ((i j k : ℕ) → around_from p table 0 ≡ i ∷ j ∷ k ∷ [] → ⊥) → take_out_table p table ≡ refused NotThreeAround
  unfolding take_out_table take_out_three
  around-refused none = go (around_from p table 0) none
    where
      go : (l : List ℕ) → ((i j k : ℕ) → l ≡ i ∷ j ∷ k ∷ [] → ⊥) → take_out_three p table l ≡ refused NotThreeAround
      go [] f = refl
      go (i ∷ []) f = refl
      go (i ∷ j ∷ []) f = refl
      go (i ∷ j ∷ k ∷ []) f = absurd (f i j k refl)
      go (i ∷ j ∷ k ∷ l ∷ ls) f = refl

  -- three
  pub around-three : {i j k : ℕ} → around_from p table 0 ≡ i ∷ j ∷ k ∷ [] → take_out_table p table
      ≡ merge_three table i j k (ending_in p (numbered table i)) (ending_in p (numbered table j)) (ending_in p (numbered table k))
  unfolding take_out_table take_out_three
  around-three e = ap (take_out_three p table) e

-- triangle i rotated, as code reads it from its row
pub row-ending : (ns : List ℕ) (n i : ℕ) (p : Point) {s : Triangle} → i < n → s ≡ ending_in p (triangle_at ns i) → s ≡ ending_in p (numbered (table_of ns n) i)
row-ending ns n i p h e = e ∙ ap (ending_in p) (sym (numbered-at ns n i h))
