-- The pigeonhole principle: of n + 1 numbers below n two are equal. By induction on n: look for the last number among the
-- others. If it is there, that is the pair. If it is not, take its value out: the numbers above it become one less, and
-- the others are n numbers below n − 1.
-- Assumes nothing.
use mathlib.Core.Path.{◌≡◌, ◌∙◌, sym, ap}
use mathlib.Core.Logic.{◌≢◌, ◌⊎◌, inl, inr}
use Prim.Native.Nat.{ℕ, zero, suc, ◌+◌, ◌-◌, ◌≤◌, ◌<◌, min}
use native.Mathlib.Decide.{ℕ_discrete, dec_lt}
use native.Mathlib.Omega.{arith}

-- two places up to n that hold one number
pub record Clash (f : ℕ → ℕ) (n : ℕ) : Type 0 where
  pub i : ℕ
  pub j : ℕ
  pub before : i < j
  pub within : j ≤ n
  pub same : f i ≡ f j

-- v stands at a place below n, or at none
abbrev Sought : (ℕ → ℕ) → ℕ → ℕ → Type 0
Sought f v n = ((i : ℕ) × (i < n) × (f i ≡ v)) ⊎ ((i : ℕ) → i < n → f i ≢ v)

seek : (f : ℕ → ℕ) (v n : ℕ) → Sought f v n
seek f v zero = inr (λ i h. absurd (omega arith))
seek f v (suc n) = go (ℕ_discrete (f n) v) (seek f v n)
  where
    go : Dec (f n ≡ v) → Sought f v n → Sought f v (suc n)
    go (yes e) s = inl (n, omega arith, e)
    go (no d) (inl c) = inl (c.0, omega arith, c.2)
    go (no d) (inr c) = inr λ i h e. elim (dec_lt i n) [
      | yes k ↦ c i k e
      | no k ↦ let q : i ≡ n = omega arith in d (rw q at e)
    ]

-- take the value v out, and put it back
abbrev without : ℕ → ℕ → ℕ
without v a = a - min 1 (a - v)

abbrev back : ℕ → ℕ → ℕ
back v a = a + min 1 (suc a - v)

without-below : (v a n : ℕ) → a ≢ v → v < suc n → a < suc n → without v a < n
without-below v a n d h k = omega arith

back-without : (v a : ℕ) → a ≢ v → back v (without v a) ≡ a
back-without v a d = omega arith

-- two places whose numbers are equal without the last number's value, which neither holds
restored : (f : ℕ → ℕ) (v n : ℕ) → ((i : ℕ) → i < suc n → f i ≢ v) → Clash (λ i. without v (f i)) n → Clash f (suc n)
restored f v n none c = record {
  i = c.i;
  j = c.j;
  before = c.before;
  within = omega arith;
  same =
      sym (back-without v (f c.i) (none c.i (omega arith)))
      ∙ ap (back v) c.same
      ∙ back-without v (f c.j) (none c.j (omega arith));
}

pub pigeonhole : (n : ℕ) (f : ℕ → ℕ) → ((i : ℕ) → i ≤ n → f i < n) → Clash f n
pigeonhole zero f h = absurd (let k = h 0 (omega arith) in omega arith)
pigeonhole (suc n) f h = elim (seek f (f (suc n)) (suc n)) [
  | inl c ↦ record { i = c.0; j = suc n; before = c.1; within = omega arith; same = c.2 }
  | inr none ↦
      restored f (f (suc n)) n none
      (pigeonhole n (λ i. without (f (suc n)) (f i))
      (λ i k. without-below _ (f i) n (none i (omega arith)) (h (suc n) (omega arith)) (h i (omega arith))))
]
