-- The separation theorem: two proper triangles have a point strictly inside both exactly where no side of either separates
-- them, that is, where for every side of each some corner of the other lies on its inner side.
-- A common point gives such corners: it is an average of the corners of t, and lies on the inner side of every side of s,
-- so some corner of t does. The other way, each side of s has a point of the inside of t on its inner side, near that
-- corner, and so with the triangles exchanged; so the two families of three open half-planes meet, by Helly's theorem.
-- Assumes nothing.
use mathlib.Core.Logic.{◌↔◌}
use mathlib.Core.List.{[], ◌∷◌}
use native.Mathlib.Omega.{arith}
use lib.Dec.{T}
use Rattle.spec_plane.specs.Triangle.{Triangle, proper}
use Rattle.spec_plane.specs.Interior.{CommonInterior, no_side_separates, interiors_meet}
use Rattle.theory_lists.proofs.Reflects.{Reflects, reflects-and, reflects-and₃}
use Rattle.laws_separation.proofs.Cone.{Cone, Inhabited, inhabited-more, ◌∩◌, half}
use Rattle.laws_separation.proofs.Helly.{families-meet}
use Rattle.laws_separation.proofs.Sides.{side, fraction, inside, inside-reflects, Proper, proper-reflects, SomeCorner, some_corner-reflects}
use Rattle.laws_separation.proofs.Near.{some-inside, near-corner}
use Rattle.laws_separation.proofs.Weights.{weights, inside-held}
use Rattle.laws_separation.proofs.Averages.{some-corner}

-- for every side of s some corner of t lies on its inner side
abbrev NoSide : Triangle → Triangle → Type 0
NoSide s t =
    SomeCorner (half (side s.a s.b)) t
    × (SomeCorner (half (side s.b s.c)) t × SomeCorner (half (side s.c s.a)) t)

no_side-reflects : (s t : Triangle) → Reflects (no_side_separates s t) (NoSide s t)
unfolding no_side_separates
no_side-reflects s t = reflects-and₃ (some_corner-reflects _ _ t) (some_corner-reflects _ _ t) (some_corner-reflects _ _ t)

pub common_interior-sym : {s t : Triangle} → CommonInterior s t → CommonInterior t s
common_interior-sym c = record { point = c.point; above = c.above; first = c.second; second = c.first }

-- ---- a common point shows that no side separates

shows : (s t : Triangle) → T (proper t) → CommonInterior s t → NoSide s t
shows s t d c =
    let v = weights t c.point d c.above (inside-held t c.point c.second) in
    let h = (inside-reflects s v.point).to (rw v.is at c.first) in
    let corner = some-corner 1 (omega arith) v in
    (corner _ h.0, (corner _ h.1.0, corner _ h.1.1))

-- ---- no side separates, so there is a common point

swapped : (c d : Cone) → Inhabited (c ∩ d) → Inhabited (d ∩ c)
swapped c d = inhabited-more _ _ (λ t h. (h.1, h.0))

meets : (s t : Triangle) → Proper s → Proper t → NoSide s t → NoSide t s → Inhabited (inside s ∩ inside t)
meets s t hs ht h k =
    families-meet (half (side s.a s.b)) (half (side s.b s.c)) (half (side s.c s.a))
    (half (side t.a t.b)) (half (side t.b t.c) ∷ half (side t.c t.a) ∷ [])
    (some-inside s hs)
    (near-corner s _ hs k.0, (near-corner s _ hs k.1.0, near-corner s _ hs k.1.1))
    (swapped _ _ (near-corner t _ ht h.0))
    (swapped _ _ (near-corner t _ ht h.1.0))
    (swapped _ _ (near-corner t _ ht h.1.1))

common : (s t : Triangle) → Inhabited (inside s ∩ inside t) → CommonInterior s t
common s t z = record {
  point = fraction z.point;
  above = z.above;
  first = (inside-reflects s z.point).from z.has.0;
  second = (inside-reflects t z.point).from z.has.1;
}

separation : (s t : Triangle) → T (proper s) → T (proper t) → Reflects (interiors_meet s t) (CommonInterior s t)
unfolding interiors_meet
separation s t ds dt =
    let r = reflects-and (no_side-reflects s t) (no_side-reflects t s) in
    record {
      to = λ m.
          let h = r.to m in
          common s t (meets s t ((proper-reflects s).to ds) ((proper-reflects t).to dt) h.0 h.1);
      from = λ c. r.from (shows s t dt c, shows t s ds (common_interior-sym c));
    }

-- Two triangles with D > 0 have a point, which may be fractional, strictly inside both, exactly where the test
-- `interiors_meet` passes: for every side of each of the two some corner of the other has D > 0.
pub interiors-meet-iff : (s t : Triangle) → T (proper s) → T (proper t) → CommonInterior s t ↔ T (interiors_meet s t)
interiors-meet-iff s t ds dt = let r = separation s t ds dt in (r.from, r.to)
