-- The rotation of a triangle with a point on its side ab: what the search for it finds, and what it means that it finds none.
-- Assumes nothing.
use mathlib.Core.Path.{◌≡◌, refl, sym, subst}
use mathlib.Core.Bool.{false, true≢false}
use mathlib.Core.List.{Memᴰ}
use mathlib.Core.Option.{none, some}
use mathlib.Core.Logic.{◌⊎◌, inl, inr}
use lib.Dec.{T}
use Rattle.theory_lists.proofs.Reflects.{Reflects, reflects-or}
use Rattle.spec_plane.specs.declared.Point.{Point}
use Rattle.spec_plane.specs.declared.Position.{Position}
use Rattle.spec_plane.specs.declared.Position.TheVariants.{Inside, OnAb, OnBc, OnCa, AtA, AtB, AtC, Outside}
use Rattle.spec_plane.specs.Triangle.{Triangle, proper, holds}
use Rattle.spec_plane.specs.Position.{position, is_inside, OnSide, Means}
use Rattle.spec_plane.proofs.PointLaws.{same_point-reflects}
use Rattle.laws_separation.proofs.PositionMeaning.{position-means}
use Rattle.spec_charts.specs.Edits.{triangle, rotations, has_corner, side_first}
use Rattle.theory_lists.proofs.EditedLists.{none-some, some_same}

-- a corner is one of three points
pub has_corner-reflects : (p : Point) (t : Triangle) → Reflects (has_corner p t) (((p ≡ t.a) ⊎ (p ≡ t.b)) ⊎ (p ≡ t.c))
unfolding has_corner
has_corner-reflects p t =
    reflects-or (reflects-or (same_point-reflects p t.a) (same_point-reflects p t.b)) (same_point-reflects p t.c)

-- r is a rotation of t, and p is on its side ab and not at its ends
pub record SideFirst (t : Triangle) (p : Point) (r : Triangle) : Type 0 where
  pub rotation : Memᴰ r (rotations t)
  pub on : OnSide r.a r.b p

module _ (t : Triangle) (p : Point) (d : T (proper t)) where
  -- what is found is one
  pub side-found : {r : Triangle} → side_first (position t p) t ≡ some r → SideFirst t p r
  unfolding side_first rotations triangle
  side-found {r} f = go (position t p) refl f
    where
      go : (w : Position) → position t p ≡ w → side_first w t ≡ some r → SideFirst t p r
      go Inside e f = absurd (none-some f)
      go OnAb e f = subst (SideFirst t p) (some_same f) (record { rotation = Memᴰ.head refl; on = (position-means t p d OnAb).0 e })
      go OnBc e f = subst (SideFirst t p) (some_same f) (record { rotation = Memᴰ.tail (Memᴰ.head refl); on = (position-means t p d OnBc).0 e })
      go OnCa e f =
          subst (SideFirst t p) (some_same f) (record { rotation = Memᴰ.tail (Memᴰ.tail (Memᴰ.head refl)); on = (position-means t p d OnCa).0 e })
      go AtA e f = absurd (none-some f)
      go AtB e f = absurd (none-some f)
      go AtC e f = absurd (none-some f)
      go Outside e f = absurd (none-some f)

  -- where none is found, of a triangle that holds p and does not have it inside, p is a corner: refusal 14
  pub side-missed : T (holds t p) → is_inside (position t p) ≡ false → side_first (position t p) t ≡ none → T (has_corner p t)
  unfolding side_first
  side-missed h i f = go (position t p) ((position-means t p d (position t p)).0 refl) i f
    where
      go : (w : Position) → Means t p w → is_inside w ≡ false → side_first w t ≡ none → T (has_corner p t)
      go Inside m i f = absurd (true≢false i)
      go OnAb m i f = absurd (none-some (sym f))
      go OnBc m i f = absurd (none-some (sym f))
      go OnCa m i f = absurd (none-some (sym f))
      go AtA m i f = (has_corner-reflects p t).from (inl (inl m))
      go AtB m i f = (has_corner-reflects p t).from (inl (inr m))
      go AtC m i f = (has_corner-reflects p t).from (inr m)
      go Outside m i f = absurd (m h)
