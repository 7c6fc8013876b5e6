-- What the stopping rule means, and what rotations are.
-- Assumes nothing.
use mathlib.Core.Path.{◌≡◌, refl, subst}
use mathlib.Core.List.Memᴰ
use mathlib.Core.List.{List, [], ◌∷◌, map}
use mathlib.Core.Logic.{◌⊎◌, inl, inr}
use Rattle.theory_lists.specs.Lists.{all}
use Rattle.theory_lists.proofs.Reflects.{Reflects, reflects-or, reflects-iff}
use Rattle.theory_lists.proofs.ListsLaws.{Every, every-cons, every-uncons, all-reflects}
use Rattle.spec_plane.specs.declared.Point.{Point}
use Rattle.spec_plane.specs.Triangle.{Triangle, Side, corners, corner_at, rotated, triangle_of}
use Rattle.spec_plane.proofs.PointLaws.{same_point-reflects}
use Rattle.spec_charts.specs.Cells.{is_end, common_end}
use Rattle.spec_charts.specs.Edits.{triangle, rotations}

-- p is one of the two end points
pub is_end-reflects : (p : Point) (d : Side) → Reflects (is_end p d) ((p ≡ d.start) ⊎ (p ≡ d.end))
unfolding is_end
is_end-reflects p d = reflects-or (same_point-reflects p d.start) (same_point-reflects p d.end)

-- "some point is an end of every side"
pub record CommonEnd (ds : List Side) : Type 0 where
  pub point : Point
  pub ends : Every (λ d. (point ≡ d.start) ⊎ (point ≡ d.end)) ds

all-ends : (p : Point) (ds : List Side) → Reflects (all (λ e. is_end p e) ds) (Every (λ d. (p ≡ d.start) ⊎ (p ≡ d.end)) ds)
all-ends p ds = all-reflects (λ e. is_end p e) (is_end-reflects p) ds

-- a common point is an end of the first side, so it is one of its two ends
module _ (d : Side) (ds : List Side) where
  common-to : Every (λ e. (d.start ≡ e.start) ⊎ (d.start ≡ e.end)) ds ⊎ Every (λ e. (d.end ≡ e.start) ⊎ (d.end ≡ e.end)) ds
      → CommonEnd (d ∷ ds)
  common-to (inl h) = record { point = d.start; ends = every-cons (inl refl, h) }
  common-to (inr h) = record { point = d.end; ends = every-cons (inr refl, h) }

  common-from : CommonEnd (d ∷ ds)
      → Every (λ e. (d.start ≡ e.start) ⊎ (d.start ≡ e.end)) ds ⊎ Every (λ e. (d.end ≡ e.start) ⊎ (d.end ≡ e.end)) ds
  common-from c =
      let h = every-uncons c.ends in
      let at : (p : Point) → c.point ≡ p → Every (λ e. (p ≡ e.start) ⊎ (p ≡ e.end)) ds =
      λ p q. subst (λ (r : Point). Every (λ e. (r ≡ e.start) ⊎ (r ≡ e.end)) ds) q h.1
      in
      elim h.0 [ inl q ↦ inl (at d.start q) | inr q ↦ inr (at d.end q) ]

-- the test of the stopping rule is the rule
pub common_end-reflects : (ds : List Side) → Reflects (common_end ds) (CommonEnd ds)
unfolding common_end
common_end-reflects [] = record {
  to = λ t. record { point = record { x = 0; y = 0 }; ends = λ d m. absurd (Memᴰ.not-nil m) };
  from = λ c. tt;
}
common_end-reflects (d ∷ ds) =
    reflects-iff (common-to d ds) (common-from d ds) (reflects-or (all-ends d.start ds) (all-ends d.end ds))

-- Rotations

-- the three rotations are those that index the array of corners modulo 3
pub rotations-rotated : (t : Triangle) → rotations t ≡ map (λ k. triangle_of (rotated (corners t) k)) (0 ∷ 1 ∷ 2 ∷ [])
unfolding rotations triangle triangle_of rotated corner_at
rotations-rotated t = refl
