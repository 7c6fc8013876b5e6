-- What the tests on lists mean, by membership.
-- Assumes nothing.
use mathlib.Core.Path.{◌≡◌, refl, sym, subst, ap, ◌∙◌}
use mathlib.Core.Bool.{Bool}
use mathlib.Core.List.Memᴰ
use mathlib.Core.List.{List, [], ◌∷◌, ◌++◌, flat_map, Memᴰ}
use mathlib.Core.Logic.{◌⊎◌, inl, inr}
use Prim.Native.Nat.{ℕ, zero, suc, ◌+◌, ◌*◌, ◌≤◌, ◌<◌}
use native.Mathlib.Decide.{dec_le}
use native.Mathlib.Omega.{arith}
use native.Mathlib.Nat.{mul-zero, zero-add, add-zero}
use lib.ListN.{length, get_or, set, get_or-append}
use lib.Seq.{get_or-append-add, sets, length-sets}
use Rattle.theory_lists.specs.Lists.{all, any, count_from, up_to}
use Rattle.theory_lists.proofs.Reflects.{Reflects, reflects-then, reflects-else, reflects-iff}

-- every element of the list has P
abbrev pub Every : {A : Type 0} → (A → Type 0) → List A → Type 0
Every {A} P l = (x : A) → Memᴰ x l → P x

-- some element of the list has P
pub record Some {A : Type 0} (P : A → Type 0) (l : List A) : Type 0 where
  pub value : A
  pub member : Memᴰ value l
  pub has : P value

-- of a list with one more element in front
pub every-cons : {A : Type 0} {P : A → Type 0} {y : A} {ys : List A} → P y × Every P ys → Every P (y ∷ ys)
every-cons {P = P} h x m = elim (Memᴰ.cases_cons m) [ inl e ↦ subst P (sym e) h.0 | inr n ↦ h.1 x n ]

pub every-uncons : {A : Type 0} {P : A → Type 0} {y : A} {ys : List A} → Every P (y ∷ ys) → P y × Every P ys
every-uncons {y = y} h = (h y (Memᴰ.head refl), λ x m. h x (Memᴰ.tail m))

pub some-cons : {A : Type 0} {P : A → Type 0} {y : A} {ys : List A} → P y ⊎ Some P ys → Some P (y ∷ ys)
some-cons {y = y} (inl h) = record { value = y; member = Memᴰ.head refl; has = h }
some-cons (inr s) = record { value = s.value; member = Memᴰ.tail s.member; has = s.has }

pub some-uncons : {A : Type 0} {P : A → Type 0} {y : A} {ys : List A} → Some P (y ∷ ys) → P y ⊎ Some P ys
some-uncons {P = P} s =
    elim (Memᴰ.cases_cons s.member) [
      | inl e ↦ inl (subst P e s.has)
      | inr n ↦ inr (record { value = s.value; member = n; has = s.has })
    ]

module _ {A : Type 0} {P : A → Type 0} (f : A → Bool) (r : (x : A) → Reflects (f x) (P x)) where
  -- `all` is the claim that every element has what the test decides
  pub all-reflects : (l : List A) → Reflects (all f l) (Every P l)
  unfolding all
  all-reflects [] = record { to = λ t x m. absurd (Memᴰ.not-nil m); from = λ h. tt }
  all-reflects (y ∷ ys) = reflects-iff every-cons every-uncons (reflects-then (f y) (r y) (all-reflects ys))

  -- `any` is the claim that some element has it
  pub any-reflects : (l : List A) → Reflects (any f l) (Some P l)
  unfolding any
  any-reflects [] = record { to = λ t. absurd t; from = λ s. absurd (Memᴰ.not-nil s.member) }
  any-reflects (y ∷ ys) = reflects-iff some-cons some-uncons (reflects-else (f y) (r y) (any-reflects ys))

-- the numbers of `up_to n` are those below n
count_from-to : (k n : ℕ) {i : ℕ} → Memᴰ i (count_from k n) → (k ≤ i) × (i < k + n)
unfolding count_from
count_from-to k zero m = absurd (Memᴰ.not-nil m)
count_from-to k (suc n) {i} m = go (λ h. count_from-to (suc k) n h) (Memᴰ.cases_cons m)
  where
    go : (Memᴰ i (count_from (suc k) n) → (suc k ≤ i) × (i < suc k + n)) → (i ≡ k) ⊎ Memᴰ i (count_from (suc k) n)
        → (k ≤ i) × (i < k + suc n)
    go below (inl e) = omega arith
    go below (inr h) = let b = below h in omega arith

count_from-from : (k n i : ℕ) → k ≤ i → i < k + n → Memᴰ i (count_from k n)
unfolding count_from
count_from-from k zero i h l = absurd (omega arith)
count_from-from k (suc n) i h l = elim (dec_le (suc k) i) [
  | yes s ↦ Memᴰ.tail (count_from-from (suc k) n i s (omega arith))
  | no s ↦ let e : i ≡ k = omega arith in Memᴰ.head e
]

pub up_to-to : {n i : ℕ} → Memᴰ i (up_to n) → i < n
unfolding up_to
up_to-to {n} {i} m = let h = count_from-to 0 n m in omega arith

pub up_to-from : {n i : ℕ} → i < n → Memᴰ i (up_to n)
unfolding up_to
up_to-from {n} {i} h = count_from-from 0 n i (omega arith) (omega arith)

-- what stands at a place of a list is in it
pub get_or-member : {A : Type 0} (l : List A) (i : ℕ) (d : A) → i < length l → Memᴰ (get_or l i d) l
get_or-member [] i d h = absurd (omega arith)
get_or-member (x ∷ xs) zero d h = Memᴰ.head refl
get_or-member (x ∷ xs) (suc i) d h = Memᴰ.tail (get_or-member xs i d (omega arith))

-- what holds at each place of a list holds of every element
pub every-places : {A : Type 0} (P : A → Type 0) (l : List A) (d : A) → ((i : ℕ) → i < length l → P (get_or l i d)) → Every P l
every-places P [] d h = λ x m. absurd (Memᴰ.not-nil m)
every-places P (y ∷ ys) d h = every-cons (h 0 (omega arith), every-places P ys d (λ i l. h (suc i) (omega arith)))

-- lists of one length each, one after another: what stands at place m of the i-th
pub get_or-stride : {A : Type 0} (f : A → List ℕ) (c : ℕ) → ((x : A) → length (f x) ≡ c)
    → (l : List A) (i m : ℕ) (d : A) → i < length l → m < c → get_or (flat_map f l) (c * i + m) 0 ≡ get_or (f (get_or l i d)) m 0
unfolding flat_map
get_or-stride f c e [] i m d h k = absurd (omega arith)
get_or-stride f c e (x ∷ xs) zero m d h k =
    rw (mul-zero c, zero-add m) (get_or-append (f x) (flat_map f xs) 0 m (rw (e x) k))
get_or-stride f c e (x ∷ xs) (suc i) m d h k =
    let p : c * suc i + m ≡ length (f x) + (c * i + m) = rw (e x) (omega arith) in
    rw (p, get_or-append-add (f x) (flat_map f xs) (c * i + m) 0) (get_or-stride f c e xs i m d (omega arith) k)

-- two runs of stores, one where the other ends, are one run
pub sets-join : {A : Type 0} (l : List A) (i j : ℕ) (u v : List A) → j ≡ i + length u → sets (sets l i u) j v ≡ sets l i (u ++ v)
sets-join l i j [] v e = ap (λ k. sets l k v) (e ∙ add-zero i)
sets-join l i j (x ∷ u) v e = sets-join (set l i x) (suc i) j u v (omega arith)

-- a run of stores keeps the length
pub sets-length : {A : Type 0} {l' : List A} (l : List A) (i : ℕ) (v : List A) → l' ≡ sets l i v → length l' ≡ length l
sets-length l i v e = ap length e ∙ length-sets l i v
