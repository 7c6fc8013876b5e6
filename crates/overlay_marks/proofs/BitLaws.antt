-- Bits of words: of an empty word, of two words joined by "or", and of words that are set one after the other.
-- The idea: "or" joins word by word and, within a word, digit by digit.
-- Assumes nothing.
use mathlib.Core.Path.{◌≡◌, refl, sym, ◌∙◌, ap, ap₂}
use mathlib.Core.Bool.{Bool, true, false, ◌&&◌, ◌||◌}
use mathlib.Core.List.{List}
use Prim.Native.Nat.{ℕ, zero, suc, ◌+◌, ◌*◌, ◌-◌, ◌/◌, ◌%◌, ◌^◌, ◌<◌, max}
use native.Mathlib.Nat.{zero-div, mul-add-mod_self_right, mod-eq_of_lt, div-eq_of_lt, pow-suc}
use native.Mathlib.Omega.{arith}
use native.Mathlib.Decide.{dec_le, dec_lt, ℕ_discrete}
use borrow.Author.Tests.{eq-eqb, ne_eqb, lt-ltb, le-ltb, le-leb, lt-leb}
use lib.Bits.{bit_or, or_shr, or_step}
use lib.Pow.{pow-add, pow-lt, shl-shr, shl_exact}
use lib.Dec.{leb, ltb, eqb}
use lib.ListN.{length, get_or, set, take, replicate, length-set, length-replicate, get_or-replicate, get_or-eq_default}
use lib.Seq.{get_or-set_same, get_or-set_other, get_or-take}
use Rattle.overlay_marks.specs.Bits.{word_bit, has_bit, Inserted, Joined}

-- a word that is 0 has no bit
pub word-empty : (b : ℕ) → word_bit 0 b ≡ false
unfolding word_bit
word-empty b = rw (zero-div (2 ^ b))

-- nothing is added
pub or-false : (b : Bool) → b || false ≡ b
or-false true = refl
or-false false = refl

-- two digits of which one is 1
one_of_two : (p q : ℕ) → p < 2 → q < 2 → eqb (max p q) 1 ≡ eqb p 1 || eqb q 1
one_of_two zero zero hp hq = refl
one_of_two zero (suc zero) hp hq = refl
one_of_two (suc zero) zero hp hq = refl
one_of_two (suc zero) (suc zero) hp hq = refl
one_of_two zero (suc (suc q)) hp hq = absurd (omega arith)
one_of_two (suc zero) (suc (suc q)) hp hq = absurd (omega arith)
one_of_two (suc (suc p)) q hp hq = absurd (omega arith)

or-odd : (x y : ℕ) → bit_or x y % 2 ≡ max (x % 2) (y % 2)
or-odd x y = ap (λ z. z % 2) (or_step x y) ∙ mul-add-mod_self_right (bit_or (x / 2) (y / 2)) 2 (max (x % 2) (y % 2)) ∙ mod-eq_of_lt (omega arith)

-- two words joined have the bits of both
pub word-or : (v w b : ℕ) → word_bit (bit_or v w) b ≡ word_bit v b || word_bit w b
unfolding word_bit
word-or v w b =
    ap (λ z. eqb (z % 2) 1) (or_shr v w b) ∙ ap (λ z. eqb z 1) (or-odd (v / 2 ^ b) (w / 2 ^ b))
    ∙ one_of_two (v / 2 ^ b % 2) (w / 2 ^ b % 2) (omega arith) (omega arith)

-- a power of two has one bit
word_at : (c : ℕ) → word_bit (1 * 2 ^ c) c ≡ true
unfolding word_bit
word_at c = rw (shl-shr 1 c)

word_below : (c d : ℕ) → word_bit (1 * 2 ^ (suc d + c)) c ≡ false
unfolding word_bit
word_below c d =
    ap (λ z. eqb (z / 2 ^ c % 2) 1) (omega (arith, pow-add 2 (suc d) c))
    ∙ ap (λ z. eqb (z % 2) 1) (shl-shr (2 ^ suc d) c)
    ∙ ap (λ z. eqb z 1) (even (2 ^ d) (2 ^ suc d) (omega (arith, pow-suc 2 d)))
  where
    even : (x y : ℕ) → y ≡ 2 * x → y % 2 ≡ 0
    even x y e = omega arith

word-above : (b c : ℕ) → b < c → word_bit (1 * 2 ^ b) c ≡ false
unfolding word_bit
word-above b c h =
    let small : 1 * 2 ^ b < 2 ^ c = omega (arith, pow-lt h) in
    ap (λ z. eqb (z % 2) 1) (div-eq_of_lt small)

pub word-one : (b c : ℕ) → word_bit (1 * 2 ^ b) c ≡ eqb c b
word-one b c =
    elim (dec_lt b c) [
      | yes h ↦ word-above b c h ∙ sym (ne_eqb c b (omega arith))
      | no h ↦ elim (dec_lt c b) [
        | yes k ↦ ap (λ x. word_bit (1 * 2 ^ x) c) (omega arith) ∙ word_below c (b - suc c) ∙ sym (ne_eqb c b (omega arith))
        | no k ↦ ap (λ x. word_bit (1 * 2 ^ x) c) (omega arith) ∙ word_at c ∙ sym (eq-eqb c b (omega arith))
      ]
    ]

-- equalities that hold together
eqb-iff : (a b c d : ℕ) → (a ≡ b → c ≡ d) → (c ≡ d → a ≡ b) → eqb a b ≡ eqb c d
eqb-iff a b c d to from =
    elim (ℕ_discrete a b) [
      | yes e ↦ eq-eqb a b e ∙ sym (eq-eqb c d (to e))
      | no n ↦ ne_eqb a b n ∙ sym (ne_eqb c d (λ e. n (from e)))
    ]

-- words with one of them changed
module _ (ws : List ℕ) (i w : ℕ) (h : i < length ws) where
  bit-here : (m : ℕ) → m / 64 ≡ i → has_bit (set ws i w) m ≡ word_bit w (m % 64)
  unfolding has_bit
  bit-here m e = ap (λ x. word_bit (get_or (set ws i w) x 0) (m % 64)) e ∙ ap (λ x. word_bit x (m % 64)) (get_or-set_same ws i w 0 h)

  bit-elsewhere : (m : ℕ) → (m / 64 ≡ i → ⊥) → has_bit (set ws i w) m ≡ has_bit ws m
  unfolding has_bit
  bit-elsewhere m n = ap (λ x. word_bit x (m % 64)) (get_or-set_other ws i (m / 64) w 0 n)

-- a bit that is set in its word
module _ (ws : List ℕ) (k : ℕ) (h : k / 64 < length ws) where
  abbrev marked : ℕ
  marked = bit_or (get_or ws (k / 64) 0) ((1 * 2 ^ (k % 64)) % 2 ^ 64)

  marked-bit : (b : ℕ) → word_bit marked b ≡ word_bit (get_or ws (k / 64) 0) b || eqb b (k % 64)
  marked-bit b =
      ap (λ v. word_bit (bit_or (get_or ws (k / 64) 0) v) b) (shl_exact 1 (k % 64) 64 (omega arith) (omega arith))
      ∙ word-or (get_or ws (k / 64) 0) (1 * 2 ^ (k % 64)) b
      ∙ ap (λ x. word_bit (get_or ws (k / 64) 0) b || x) (word-one (k % 64) b)

  inserted-bits : (m : ℕ) → has_bit (set ws (k / 64) marked) m ≡ has_bit ws m || eqb m k
  unfolding has_bit
  inserted-bits m =
      elim (ℕ_discrete (m / 64) (k / 64)) [
        | yes e ↦
            bit-here ws (k / 64) marked h m e ∙ marked-bit (m % 64)
            ∙ ap₂ ◌||◌ (ap (λ x. word_bit (get_or ws x 0) (m % 64)) (sym e)) (eqb-iff (m % 64) (k % 64) m k (λ d. omega arith) (λ d. omega arith))
        | no n ↦ bit-elsewhere ws (k / 64) marked h m n ∙ sym (or-false (has_bit ws m)) ∙ ap (λ x. has_bit ws m || x) (sym (ne_eqb m k (λ d. n (omega arith))))
      ]

  pub inserted : Inserted ws k (set ws (k / 64) marked)
  inserted = record { bits = inserted-bits; kept = length-set ws (k / 64) marked }

-- nothing joined yet
pub joined-none : (ws : List ℕ) (at : ℕ) (s : List ℕ) → Joined ws at s 0 ws
joined-none ws at s =
    record {
      bits = λ m. sym (or-false (has_bit ws m)) ∙ ap (λ x. has_bit ws m || x) (sym (none m));
      kept = refl;
    }
  where
    none : (m : ℕ) → leb (64 * at) m && ltb m (64 * (at + 0)) && has_bit s (m - 64 * at) ≡ false
    none m =
        elim (dec_le (64 * at) m) [
          | yes h ↦ rw (le-leb (64 * at) m h, le-ltb m (64 * (at + 0)) (omega arith))
          | no h ↦ rw (lt-leb (64 * at) m (omega arith))
        ]

-- one more word joined
module _ {ws : List ℕ} {at : ℕ} {s : List ℕ} {i : ℕ} {vs : List ℕ} (j : Joined ws at s i vs) (h : at + i < length ws) where
  abbrev more : ℕ
  more = bit_or (get_or vs (at + i) 0) (get_or s i 0)

  before_here : (m : ℕ) → m / 64 ≡ at + i → word_bit (get_or vs (at + i) 0) (m % 64) ≡ has_bit ws m
  unfolding has_bit
  before_here m e =
      ap (λ x. word_bit (get_or vs x 0) (m % 64)) (sym e) ∙ j.bits m
      ∙ rw (le-leb (64 * at) m (omega arith), le-ltb m (64 * (at + i)) (omega arith)) (or-false (has_bit ws m))

  set_here : (m : ℕ) → m / 64 ≡ at + i → has_bit s (m - 64 * at) ≡ word_bit (get_or s i 0) (m % 64)
  unfolding has_bit
  set_here m e = ap₂ (λ x y. word_bit (get_or s x 0) y) (omega arith) (omega arith)

  here : (m : ℕ) → m / 64 ≡ at + i
      → word_bit (get_or vs (at + i) 0) (m % 64) || word_bit (get_or s i 0) (m % 64)
      ≡ has_bit ws m || leb (64 * at) m && ltb m (64 * (at + (i + 1))) && has_bit s (m - 64 * at)
  here m e =
      rw (before_here m e, le-leb (64 * at) m (omega arith), lt-ltb m (64 * (at + (i + 1))) (omega arith), set_here m e)

  elsewhere : (m : ℕ) → (m / 64 ≡ at + i → ⊥) → leb (64 * at) m && ltb m (64 * (at + i)) ≡ leb (64 * at) m && ltb m (64 * (at + (i + 1)))
  elsewhere m n =
      elim (dec_lt m (64 * (at + i))) [
        | yes k ↦ rw (lt-ltb m (64 * (at + i)) k, lt-ltb m (64 * (at + (i + 1))) (omega arith))
        | no k ↦ elim (dec_lt m (64 * (at + (i + 1)))) [
          | yes l ↦ absurd (n (omega arith))
          | no l ↦ rw (le-ltb m (64 * (at + i)) (omega arith), le-ltb m (64 * (at + (i + 1))) (omega arith))
        ]
      ]

  pub joined-more : Joined ws at s (i + 1) (set vs (at + i) more)
  joined-more = record { bits = bits; kept = length-set vs (at + i) more ∙ j.kept }
    where
      room : at + i < length vs
      room = omega (arith, j.kept)

      bits : (m : ℕ) → has_bit (set vs (at + i) more) m ≡ has_bit ws m || leb (64 * at) m && ltb m (64 * (at + (i + 1))) && has_bit s (m - 64 * at)
      bits m =
          elim (ℕ_discrete (m / 64) (at + i)) [
            | yes e ↦ bit-here vs (at + i) more room m e ∙ word-or (get_or vs (at + i) 0) (get_or s i 0) (m % 64) ∙ here m e
            | no n ↦
                bit-elsewhere vs (at + i) more room m n ∙ j.bits m
                ∙ ap (λ x. has_bit ws m || x && has_bit s (m - 64 * at)) (elsewhere m n)
          ]

-- no bit lies in a word that is 0
pub empty-word : (ws : List ℕ) (w m : ℕ) → get_or ws w 0 ≡ 0 → m / 64 ≡ w → has_bit ws m ≡ false
unfolding has_bit
empty-word ws w m z e = ap (λ x. word_bit (get_or ws x 0) (m % 64)) e ∙ ap (λ x. word_bit x (m % 64)) z ∙ word-empty (m % 64)

-- words that are all 0 have no bit
pub zeros-empty : (n m : ℕ) → has_bit (replicate n 0) m ≡ false
zeros-empty n m = empty-word (replicate n 0) (m / 64) m zero-there refl
  where
    zero-there : get_or {A = ℕ} (replicate n 0) (m / 64) 0 ≡ 0
    zero-there =
        elim (dec_lt (m / 64) n) [
          | yes h ↦ get_or-replicate n (m / 64) 0 0 h
          | no h ↦ get_or-eq_default (replicate n 0) 0 (omega (arith, length-replicate {A = ℕ} n 0))
        ]

-- a bit of the first n words
pub bit-taken : (ws : List ℕ) (n m : ℕ) → m < 64 * n → has_bit (take n ws) m ≡ has_bit ws m
unfolding has_bit
bit-taken ws n m h = ap (λ w. word_bit w (m % 64)) (get_or-take n ws (m / 64) 0 (omega arith))
