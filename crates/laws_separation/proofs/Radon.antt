-- Radon's theorem for four points of the plane, each a triple (x, y, w) of naturals with w > 0 that means (x/w, y/w):
-- some point is a weighted average of some of the four and also of the others. Weights are naturals.
-- The four triples are dependent: two different choices of weights have the same sum. Taking off each weight what the two
-- choices share leaves the two averages.
-- Assumes nothing.
use mathlib.Core.Path.{◌≡◌, refl, ◌∙◌, sym, ap}
use mathlib.Core.Logic.{◌⊎◌, inl, inr}
use Prim.Native.Nat.{ℕ, ◌+◌, ◌*◌, ◌-◌, ◌≤◌, ◌<◌}
use native.Mathlib.Decide.{dec_le}
use native.Mathlib.Nat.{add-mul, eq-zero-or-pos, le-mul_of_pos_right, le_trans}
use native.Mathlib.Omega.{arith}
use Rattle.laws_separation.proofs.Dependency.{Four, total, dot, collide}

-- a point of the plane, (x/w, y/w)
pub record Triple : Type 0 where
  pub x : ℕ
  pub y : ℕ
  pub w : ℕ

-- one coordinate of each of four triples
abbrev pub column : (Triple → ℕ) → Triple → Triple → Triple → Triple → Four
column f p q r s = record { a = f p; b = f q; c = f r; d = f s }

-- z is p, q, r and s, mixed with the weights u
pub record Blend (u : Four) (p q r s z : Triple) : Type 0 where
  pub x : z.x ≡ dot u (column (λ t. t.x) p q r s)
  pub y : z.y ≡ dot u (column (λ t. t.y) p q r s)
  pub w : z.w ≡ dot u (column (λ t. t.w) p q r s)
  pub some : 0 < total u

-- a point that two choices of weights make, of which no point has a weight in both
pub record Radon (p q r s : Triple) : Type 0 where
  pub point : Triple
  pub above : 0 < point.w
  pub u : Four
  pub v : Four
  pub first : Blend u p q r s point
  pub second : Blend v p q r s point
  pub at_p : (u.a ≡ 0) ⊎ (v.a ≡ 0)
  pub at-q : (u.b ≡ 0) ⊎ (v.b ≡ 0)
  pub at-r : (u.c ≡ 0) ⊎ (v.c ≡ 0)
  pub at-s : (u.d ≡ 0) ⊎ (v.d ≡ 0)

-- what one choice of weights has and the other has not
abbrev minus : Four → Four → Four
minus u v = record { a = u.a - v.a; b = u.b - v.b; c = u.c - v.c; d = u.d - v.d }

one-zero : (m n : ℕ) → (m - n ≡ 0) ⊎ (n - m ≡ 0)
one-zero m n = elim (dec_le m n) [ yes h ↦ inl (omega arith) | no h ↦ inr (omega arith) ]

part : (m n x : ℕ) → m * x + (n - m) * x ≡ n * x + (m - n) * x
part m n x = sym (add-mul m (n - m) x) ∙ ap (λ k. k * x) (omega arith) ∙ add-mul n (m - n) x

cancel : (u v x : Four) → dot u x ≡ dot v x → dot (minus u v) x ≡ dot (minus v u) x
cancel u v x e =
    let a = part u.a v.a x.a in
    let b = part u.b v.b x.b in
    let c = part u.c v.c x.c in
    let d = part u.d v.d x.d in
    omega arith

record Positive (u : Four) : Type 0 where
  a : 0 < u.a
  b : 0 < u.b
  c : 0 < u.c
  d : 0 < u.d

dot-le : (u w : Four) → dot u w ≤ total u * total w
dot-le u w = omega arith

total-le : (v w : Four) → Positive w → total v ≤ dot v w
total-le v w h =
    let a = le-mul_of_pos_right v.a h.a in
    let b = le-mul_of_pos_right v.b h.b in
    let c = le-mul_of_pos_right v.c h.c in
    let d = le-mul_of_pos_right v.d h.d in
    omega arith

-- of two weightings of positive numbers with one sum neither is zero, unless both are
both_some : (u v w : Four) → Positive w → dot u w ≡ dot v w → 0 < total u + total v → 0 < total u
both_some u v w h e k = elim (eq-zero-or-pos (total u)) [
  | inl z ↦ absurd (omega (arith, dot-le u w, total-le v w h, ap (λ n. n * total w) z))
  | inr p ↦ p
]

equal : (m n : ℕ) → (m - n ≤ 0) × (n - m ≤ 0) → m ≡ n
equal m n h = omega arith

differ-some : (u v : Four) → (u.a ≡ v.a → u.b ≡ v.b → u.c ≡ v.c → u.d ≡ v.d → ⊥)
    → 0 < total (minus u v) + total (minus v u)
differ-some u v f = elim (eq-zero-or-pos (total (minus u v) + total (minus v u))) [
  | inl z ↦
      absurd (f (equal _ _ (omega arith)) (equal _ _ (omega arith)) (equal _ _ (omega arith)) (equal _ _ (omega arith)))
  | inr p ↦ p
]

pub radon : (p q r s : Triple) → 0 < p.w → 0 < q.w → 0 < r.w → 0 < s.w → Radon p q r s
radon p q r s hp hq hr hs =
    let xs = column (λ t. t.x) p q r s in
    let ys = column (λ t. t.y) p q r s in
    let ws = column (λ t. t.w) p q r s in
    let c = collide xs ys ws in
    let u = minus c.u c.v in
    let v = minus c.v c.u in
    let e = cancel c.u c.v ws c.w in
    let above : Positive ws = record { a = hp; b = hq; c = hr; d = hs } in
    let k = differ-some c.u c.v c.differ in
    let some = both_some u v ws above e k in
    record {
      point = record { x = dot u xs; y = dot u ys; w = dot u ws };
      above = le_trans some (total-le u ws above);
      u = u;
      v = v;
      first = record { x = refl; y = refl; w = refl; some = some };
      second = record {
        x = cancel c.u c.v xs c.x;
        y = cancel c.u c.v ys c.y;
        w = e;
        some = both_some v u ws above (sym e) (omega (arith, k));
      };
      at_p = one-zero c.u.a c.v.a;
      at-q = one-zero c.u.b c.v.b;
      at-r = one-zero c.u.c c.v.c;
      at-s = one-zero c.u.d c.v.d;
    }
