-- Four triples of naturals are linearly dependent, with weights that are naturals: two different choices of four weights
-- give the same three sums. It is shown by counting. There are B⁴ choices of weights below B, and the sums have fewer than
-- B³ M³ values, where M exceeds all the numbers together; so with B > M³ two choices agree.
-- Assumes nothing.
use mathlib.Core.Path.{◌≡◌, refl, ◌∙◌, sym, ap, ap₂}
use Prim.Native.Nat.{ℕ, suc, ◌+◌, ◌*◌, ◌/◌, ◌%◌, ◌≤◌, ◌<◌}
use native.Mathlib.Nat.{mod-lt, div-add-mod', div-lt_iff_lt-mul, mul-le-mul_left, mul-le-mul_right, mul-pos}
use native.Mathlib.Omega.{arith}
use lib.Arith.{digits_lt, digits_div, digits_mod}
use Rattle.laws_separation.proofs.Pigeonhole.{Clash, pigeonhole}

-- four numbers: the weights of four triples, or one coordinate of each
pub record Four : Type 0 where
  pub a : ℕ
  pub b : ℕ
  pub c : ℕ
  pub d : ℕ

abbrev pub total : Four → ℕ
total u = u.a + u.b + u.c + u.d

abbrev pub dot : Four → Four → ℕ
dot u v = u.a * v.a + u.b * v.b + u.c * v.c + u.d * v.d

-- the four digits of i to the base B, of which the last may be large, and i from its digits
abbrev digits : ℕ → ℕ → Four
digits B i = record { a = i % B; b = i / B % B; c = i / B / B % B; d = i / B / B / B }

digit : (B i j : ℕ) → i / B ≡ j / B → i % B ≡ j % B → i ≡ j
digit B i j e f = sym (div-add-mod' i B) ∙ ap₂ (λ q r. q * B + r) e f ∙ div-add-mod' j B

record Below (B : ℕ) (u : Four) : Type 0 where
  a : u.a < B
  b : u.b < B
  c : u.c < B
  d : u.d < B

digits-below : (B i : ℕ) → 0 < B → i < B * B * B * B → Below B (digits B i)
digits-below B i h k = record {
  a = mod-lt i h;
  b = mod-lt (i / B) h;
  c = mod-lt (i / B / B) h;
  d = (div-lt_iff_lt-mul h).1 ((div-lt_iff_lt-mul h).1 ((div-lt_iff_lt-mul h).1 k));
}

dot-below : (B M : ℕ) (u v : Four) → Below B u → total v < M → dot u v < B * M
dot-below B M u v h k =
    let a = mul-le-mul_right v.a h.a in
    let b = mul-le-mul_right v.b h.b in
    let c = mul-le-mul_right v.c h.c in
    let d = mul-le-mul_right v.d h.d in
    omega (arith, mul-le-mul_left B k, h.a)

-- two numbers below S as one below S * S, and back
unpaired : (S : ℕ) {q r q' r' : ℕ} → r < S → r' < S → q * S + r ≡ q' * S + r' → (q ≡ q') × (r ≡ r')
unpaired S {q} {r} {q'} {r'} h k e = (
  sym (digits_div q h) ∙ ap (λ n. n / S) e ∙ digits_div q' k,
  sym (digits_mod q h) ∙ ap (λ n. n % S) e ∙ digits_mod q' k,
)

-- the base is large enough
room : (M B : ℕ) → B ≡ suc (M * M * M) → B * M * (B * M) * (B * M) < B * B * B * B
room M B e =
    let pos : 0 < B = omega arith in
    omega (arith, mul-pos (mul-pos pos pos) pos, ap (λ n. B * B * B * n) e)

-- two different choices of weights with the same three sums
pub record Collision (xs ys ws : Four) : Type 0 where
  pub u : Four
  pub v : Four
  pub x : dot u xs ≡ dot v xs
  pub y : dot u ys ≡ dot v ys
  pub w : dot u ws ≡ dot v ws
  pub differ : u.a ≡ v.a → u.b ≡ v.b → u.c ≡ v.c → u.d ≡ v.d → ⊥

-- M, B and the bound S of a sum; the three sums for the weights that the digits of i are, as one number below S³
module _ (xs ys ws : Four) where
  M : ℕ
  M = suc (total xs + total ys + total ws)

  B : ℕ
  B = suc (M * M * M)

  S : ℕ
  S = B * M

  key : ℕ → ℕ
  key i = (dot (digits B i) ws * S + dot (digits B i) ys) * S + dot (digits B i) xs

  sum_below : (v : Four) → total v < M → (i : ℕ) → i ≤ S * S * S → dot (digits B i) v < S
  unfolding B S
  sum_below v h i k = dot-below B M (digits B i) v (digits-below B i (omega arith) (omega (arith, room M B refl))) h

  sums-below : (i : ℕ) → i ≤ S * S * S
      → (dot (digits B i) ws < S) × (dot (digits B i) ys < S) × (dot (digits B i) xs < S)
  unfolding M
  sums-below i k = (sum_below ws (omega arith) i k, sum_below ys (omega arith) i k, sum_below xs (omega arith) i k)

  clash : Clash key (S * S * S)
  unfolding key
  clash = pigeonhole (S * S * S) key (λ i k. let h = sums-below i k in digits_lt (digits_lt h.0 h.1) h.2)

  pub collide : Collision xs ys ws
  unfolding key
  collide =
      let i = clash.i in
      let j = clash.j in
      let h = sums-below i (omega (arith, clash)) in
      let k = sums-below j clash.within in
      let e = unpaired S h.2 k.2 clash.same in
      let f = unpaired S h.1 k.1 e.0 in
      record {
        u = digits B i;
        v = digits B j;
        x = e.1;
        y = f.1;
        w = f.0;
        differ = λ ea eb ec ed.
            let q = digit B i j (digit B (i / B) (j / B) (digit B (i / B / B) (j / B / B) ed ec) eb) ea in
            omega (arith, clash.before);
      }
