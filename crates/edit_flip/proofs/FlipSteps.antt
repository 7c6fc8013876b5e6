-- What a flip comes to, by its tests; and the table that its rows make.
-- Assumes nothing.
use mathlib.Core.Path.{◌≡◌, sym, ◌∙◌, ap, ap₂}
use mathlib.Core.Bool.{true, false, ◌&&◌, ◌||◌}
use mathlib.Core.List.{List, ◌∷◌}
use mathlib.Core.Logic.{inl, inr}
use mathlib.Core.Option.{none, some}
use Prim.Native.Nat.{ℕ, ◌+◌, ◌*◌, ◌≤◌, ◌<◌}
use native.Mathlib.Omega.{arith}
use lib.Dec.{T, leb}
use lib.ListN.{length, set, drop}
use Rattle.theory_lists.proofs.Reflects.{reflects-or, reflects-leb}
use Rattle.spec_plane.specs.declared.Point.{Point}
use Rattle.spec_plane.specs.Triangle.{Triangle, triangle_of, corners, rotated, proper}
use Rattle.spec_charts.specs.Table.{numbers_per_triangle, Table, triangle_at, table_of}
use Rattle.spec_charts.specs.declared.Refusal.TheVariants.{NoSuchTriangle, NoFlip}
use Rattle.spec_charts.specs.Refusals.{refused, done, refuse_if}
use Rattle.spec_charts.specs.Edits.{triangle, rotations, flip_as, flip_with, flip_among, flip_table}
use Rattle.laws_charts.proofs.TableLaws.{table_of-length, numbered-at}
use Rattle.edit_rows.proofs.RowLaws.{with_row, rows-set}
use Rattle.edit_rows.proofs.CopyLaws.{triangle-read}
use Rattle.edit_flip.specs.Places.{BothBelow}
use Rattle.edit_sides.specs.Sharing.{first_sharing}
use Rattle.edit_sides.proofs.RotationSteps.{RotationsSkipped, skipped-here, skipped-next, skipped-all}

-- ---- a search for the rotations that share a side

module _ (table : Table) (i j : ℕ) (us : List Triangle) where
  -- rotation x shares one
  among-shared : (x u : Triangle) (l : List Triangle) → first_sharing x us ≡ some u
      → flip_among table i j us (x ∷ l) ≡ flip_as table i j x u
  unfolding flip_among flip_with
  among-shared x u l e = rw e

  -- rotation x shares none
  among-unshared : (x : Triangle) → first_sharing x us ≡ none → (l : List Triangle)
      → flip_among table i j us (x ∷ l) ≡ flip_among table i j us l
  unfolding flip_among flip_with
  among-unshared x e l = rw e

  module _ (t : List Point) {k : ℕ} (s : RotationsSkipped (flip_among table i j us) t k) where
    -- rotation k shares one
    pub tried-hit : (u : Triangle) → k < 3 → first_sharing (triangle_of (rotated t k)) us ≡ some u
        → flip_among table i j us (rotations (triangle_of t)) ≡ flip_as table i j (triangle_of (rotated t k)) u
    tried-hit u h e =
        skipped-here (flip_among table i j us) t s h
        ∙ among-shared (triangle_of (rotated t k)) u (drop (k + 1) (rotations (triangle_of t))) e

    -- rotation k shares none
    pub tried-next : k < 3 → first_sharing (triangle_of (rotated t k)) us ≡ none → RotationsSkipped (flip_among table i j us) t (k + 1)
    tried-next h e = skipped-next (flip_among table i j us) t s h (among-unshared (triangle_of (rotated t k)) e)

    -- no rotation does
    pub tried-end : 3 ≤ k → k ≤ 3 → flip_among table i j us (rotations (triangle_of t)) ≡ refused NoFlip
    unfolding flip_among
    tried-end h b = skipped-all (flip_among table i j us) t s h b

-- ---- flip

-- both triangles are there
pub neither-over : (n i j : ℕ) → leb n i || leb n j ≡ false → BothBelow i j n
neither-over n i j e =
    let b = reflects-or (reflects-leb n i) (reflects-leb n j) in
    let none : T (leb n i || leb n j) → ⊥ = λ t. rw e at t in
    let bi : n ≤ i → ⊥ = λ h. none (b.from (inl h)) in
    let bj : n ≤ j → ⊥ = λ h. none (b.from (inr h)) in
    record { below_i = omega arith; below_j = omega arith }

module _ (ns : List ℕ) (n i j : ℕ) where
  -- refusal 6
  pub flip-beyond : leb n i || leb n j ≡ true → flip_table i j (table_of ns n) ≡ refused NoSuchTriangle
  unfolding flip_table refuse_if
  flip-beyond e = rw (table_of-length ns n, e)

  -- the triangles by their rotations
  pub flip-within : leb n i || leb n j ≡ false
      → flip_table i j (table_of ns n) ≡ flip_among (table_of ns n) i j (rotations (triangle_at ns j)) (rotations (triangle_at ns i))
  unfolding flip_table refuse_if
  flip-within e =
      let b = neither-over n i j e in rw (table_of-length ns n, e, numbered-at ns n i b.below_i, numbered-at ns n j b.below_j)

-- the same, of the arrays of corners that code reads
pub flip-begun : (ns : List ℕ) (n i j : ℕ) {s u : List Point} → s ≡ corners (triangle_at ns i) → u ≡ corners (triangle_at ns j)
    → leb n i || leb n j ≡ false
    → flip_table i j (table_of ns n) ≡ flip_among (table_of ns n) i j (rotations (triangle_of u)) (rotations (triangle_of s))
flip-begun ns n i j es eu e =
    flip-within ns n i j e
    ∙ ap₂ (λ v t. flip_among (table_of ns n) i j (rotations v) (rotations t)) (sym (triangle-read (triangle_at ns j) eu))
    (sym (triangle-read (triangle_at ns i) es))

-- refusal 9, at a shared side
pub as-refused : (table : Table) (i j : ℕ) (t u : Triangle)
    → proper (triangle t.a u.c t.c) && proper (triangle u.c t.b t.c) ≡ false → flip_as table i j t u ≡ refused NoFlip
unfolding flip_as refuse_if
as-refused table i j t u e = rw e

-- done
pub as-made : (table : Table) (i j : ℕ) (t u : Triangle)
    → proper (triangle t.a u.c t.c) && proper (triangle u.c t.b t.c) ≡ true
    → flip_as table i j t u ≡ done (set (set table i (triangle t.a u.c t.c)) j (triangle u.c t.b t.c))
unfolding flip_as refuse_if
as-made table i j t u e = rw e

-- the second row of a flip
pub second-row : (o₁ : List ℕ) {o₂ : List ℕ} (n j : ℕ) {t : Table} (y : Triangle) → j < n → numbers_per_triangle * n ≤ length o₁ → table_of o₁ n ≡ t
    → o₂ ≡ with_row o₁ j y → table_of o₂ n ≡ set t j y
second-row o₁ n j y h room e₁ e₂ = ap (λ l. table_of l n) e₂ ∙ rows-set o₁ j n y h room ∙ ap (λ l. set l j y) e₁
