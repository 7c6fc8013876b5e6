-- The rotations of a triangle, one after another, until one decides.
-- The idea: what a search makes of a list does not change when rotations that it passes over are left out.
-- Assumes nothing.
use mathlib.Core.Path.{◌≡◌, refl, ◌∙◌, ap}
use mathlib.Core.Bool.{true, false}
use mathlib.Core.List.{List, [], ◌∷◌}
use mathlib.Core.Option.{none, some}
use Prim.Native.Nat.{ℕ, zero, suc, ◌+◌, ◌≤◌, ◌<◌}
use native.Mathlib.Omega.{arith}
use lib.ListN.{drop}
use Rattle.theory_lists.specs.Lists.{first}
use Rattle.spec_plane.specs.declared.Point.{Point}
use Rattle.spec_plane.specs.Triangle.{Triangle, triangle_of, corner_at, rotated}
use Rattle.spec_charts.specs.Edits.{triangle, rotations, shares_side}
use Rattle.edit_sides.specs.Sharing.{first_sharing}

-- the rotations of a triangle from number k on: rotation k, and the rest
rotation-cons : (t : List Point) (k : ℕ) → k < 3
    → drop k (rotations (triangle_of t)) ≡ triangle_of (rotated t k) ∷ drop (k + 1) (rotations (triangle_of t))
unfolding rotations triangle triangle_of rotated corner_at
rotation-cons t zero h = refl
rotation-cons t (suc zero) h = refl
rotation-cons t (suc (suc zero)) h = refl
rotation-cons t (suc (suc (suc k))) h = absurd (omega arith)

-- there are three
rotations-end : (t : Triangle) (k : ℕ) → 3 ≤ k → k ≤ 3 → drop k (rotations t) ≡ []
unfolding rotations
rotations-end t k h b = let e : k ≡ 3 = omega arith in ap (λ m. drop m (rotations t)) e

-- a search passes over the rotations before number k
pub record RotationsSkipped {A : Type 0} (f : List Triangle → A) (t : List Point) (k : ℕ) : Type 0 where
  pub same : f (rotations (triangle_of t)) ≡ f (drop k (rotations (triangle_of t)))

module _ {A : Type 0} (f : List Triangle → A) (t : List Point) where
  -- none is tried yet
  pub skipped-start : RotationsSkipped f t 0
  skipped-start = record { same = refl }

  module _ {k : ℕ} (s : RotationsSkipped f t k) where
    -- rotation k is next
    pub skipped-here : k < 3 → f (rotations (triangle_of t)) ≡ f (triangle_of (rotated t k) ∷ drop (k + 1) (rotations (triangle_of t)))
    skipped-here h = s.same ∙ ap f (rotation-cons t k h)

    -- it is passed over too
    pub skipped-next : k < 3 → ((l : List Triangle) → f (triangle_of (rotated t k) ∷ l) ≡ f l) → RotationsSkipped f t (k + 1)
    skipped-next h over =
        record { same = skipped-here h ∙ over (drop (k + 1) (rotations (triangle_of t))) }

    -- all are passed over
    pub skipped-all : 3 ≤ k → k ≤ 3 → f (rotations (triangle_of t)) ≡ f []
    skipped-all h b = s.same ∙ ap f (rotations-end (triangle_of t) k h b)

-- ---- the first rotation that shares a side

module _ (x : Triangle) where
  -- the first element shares the side
  sharing-hit : (y : Triangle) (l : List Triangle) → shares_side x y ≡ true → first_sharing x (y ∷ l) ≡ some y
  unfolding first
  sharing-hit y l e = rw (e, first)

  -- it does not
  pub sharing-miss : (y : Triangle) → shares_side x y ≡ false → (l : List Triangle) → first_sharing x (y ∷ l) ≡ first_sharing x l
  unfolding first
  sharing-miss y e l = rw (e, first)

  module _ (u : List Point) {k : ℕ} (s : RotationsSkipped (first_sharing x) u k) where
    -- rotation k does
    pub sharing-found : k < 3 → shares_side x (triangle_of (rotated u k)) ≡ true
        → first_sharing x (rotations (triangle_of u)) ≡ some (triangle_of (rotated u k))
    sharing-found h e =
        skipped-here (first_sharing x) u s h ∙ sharing-hit (triangle_of (rotated u k)) (drop (k + 1) (rotations (triangle_of u))) e

    -- no rotation does
    pub sharing-absent : 3 ≤ k → k ≤ 3 → first_sharing x (rotations (triangle_of u)) ≡ none
    unfolding first
    sharing-absent h b = skipped-all (first_sharing x) u s h b
