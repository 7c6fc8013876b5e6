-- Helly's theorem in the plane: four cones have a common point if each three of them have one. Take a point for each
-- three; Radon's theorem gives a point that is an average of some of the four points and also of the others. A cone has all
-- of the four points but one, so it has all points of one of the two averages, and with them the average.
-- From it, a theorem on two families of cones, the first of three: where the whole of each family meets each cone of the
-- other, the two families meet. Two triangles are such families of open half-planes, and a triangle and a rectangle are
-- such families of closed ones.
-- Assumes nothing.
use mathlib.Core.Path.{◌≡◌, ap}
use mathlib.Core.List.{List, [], ◌∷◌}
use mathlib.Core.Logic.{◌⊎◌, inl, inr}
use Prim.Native.Nat.{◌*◌}
use native.Mathlib.Omega.{arith}
use Rattle.laws_separation.proofs.Dependency.{Four}
use Rattle.laws_separation.proofs.Radon.{Triple, Blend, radon}
use Rattle.laws_separation.proofs.Cone.{Cone, Mixed, Inhabited, inhabited-more, ◌∩◌, intersection}

-- the first weight is zero: the other three points will do
skip : (c : Cone) {u : Four} {p q r s z : Triple} → Blend u p q r s z → u.a ≡ 0
    → c.Has q → c.Has r → c.Has s → c.Has z
skip c {u} {p} {q} {r} {s} {z} b e =
    let m : Mixed u.b u.c u.d q r s z =
    omega (arith, ap (λ k. k * p.x) e, ap (λ k. k * p.y) e, ap (λ k. k * p.w) e)
    in
    c.mix m

either : (c : Cone) {u v : Four} {p q r s z : Triple} → Blend u p q r s z → Blend v p q r s z → (u.a ≡ 0) ⊎ (v.a ≡ 0)
    → c.Has q → c.Has r → c.Has s → c.Has z
either c b d (inl e) = skip c b e
either c b d (inr e) = skip c d e

-- the same with the second point first
abbrev turned : Four → Four
turned u = record { a = u.b; b = u.c; c = u.d; d = u.a }

turn : {u : Four} {p q r s z : Triple} → Blend u p q r s z → Blend (turned u) q r s p z
turn b = omega arith

-- four cones, of which each three have a common point
pub helly : (c d e f : Cone) → Inhabited (d ∩ e ∩ f) → Inhabited (c ∩ e ∩ f) → Inhabited (c ∩ d ∩ f) → Inhabited (c ∩ d ∩ e)
    → Inhabited (c ∩ d ∩ e ∩ f)
helly c d e f p q r s =
    let m = radon p.point q.point r.point s.point p.above q.above r.above s.above in
    let u = m.first in
    let v = m.second in
    record {
      point = m.point;
      above = m.above;
      has = (
        either c u v m.at_p q.has.0 r.has.0 s.has.0,
        (
          either d (turn u) (turn v) m.at-q r.has.1.0 s.has.1.0 p.has.0,
          (
            either e (turn (turn u)) (turn (turn v)) m.at-r s.has.1.1 p.has.1.0 q.has.1.0,
            either f (turn (turn (turn u))) (turn (turn (turn v))) m.at-s p.has.1.1 q.has.1.1 r.has.1.1,
          ),
        ),
      );
    }

-- ---- two families

-- a claim holds of each of one or more cones
abbrev pub Each : (Cone → Type 0) → Cone → List Cone → Type 0
Each P c [] = P c
Each P c (d ∷ ds) = P c × Each P d ds

each_more : (P Q : Cone → Type 0) → ((c : Cone) → P c → Q c) → (c : Cone) (ds : List Cone) → Each P c ds → Each Q c ds
each_more P Q f c [] h = f c h
each_more P Q f c (d ∷ ds) h = (f c h.0, each_more P Q f d ds h.1)

-- two cones and a family: each of the two meets the whole family, and both together meet each cone of it
pair-family : (c d k : Cone) (ks : List Cone) → Inhabited (c ∩ intersection k ks) → Inhabited (d ∩ intersection k ks)
    → Each (λ e. Inhabited (c ∩ d ∩ e)) k ks → Inhabited (c ∩ d ∩ intersection k ks)
pair-family c d k [] p q h = h
pair-family c d k (m ∷ ks) p q h =
    helly c d k (intersection m ks) q p
    (pair-family c d m ks (inhabited-more _ _ (λ t x. (x.0, x.1.1)) p) (inhabited-more _ _ (λ t x. (x.0, x.1.1)) q) h.1)
    h.0

-- three cones and a family: the three together meet each cone of it, and each of the three meets the whole family
pub families-meet : (c d e k : Cone) (ks : List Cone) → Inhabited (c ∩ d ∩ e) → Each (λ m. Inhabited ((c ∩ d ∩ e) ∩ m)) k ks
    → Inhabited (c ∩ intersection k ks) → Inhabited (d ∩ intersection k ks) → Inhabited (e ∩ intersection k ks) → Inhabited ((c ∩ d ∩ e) ∩ intersection k ks)
families-meet c d e k ks s h p q r =
    inhabited-more (c ∩ d ∩ e ∩ intersection k ks) _ (λ t x. ((x.0, (x.1.0, x.1.1.0)), x.1.1.1))
    (helly c d e (intersection k ks)
    (pair-family d e k ks q r (each_more _ _ (λ m. inhabited-more _ _ (λ t x. (x.0.1.0, (x.0.1.1, x.1)))) k ks h))
    (pair-family c e k ks p r (each_more _ _ (λ m. inhabited-more _ _ (λ t x. (x.0.0, (x.0.1.1, x.1)))) k ks h))
    (pair-family c d k ks p q (each_more _ _ (λ m. inhabited-more _ _ (λ t x. (x.0.0, (x.0.1.0, x.1)))) k ks h))
    s)
