-- Tests at every place of a list, and at every number below a bound: what a loop that counts up has tested so far.
-- Assumes nothing.
use mathlib.Core.Path.{◌≡◌, refl, sym, ap, ap₂, ◌∙◌}
use mathlib.Core.Bool.{Bool, true, false, ◌&&◌}
use mathlib.Core.List.{List, [], ◌∷◌, ◌++◌, map}
use Prim.Native.Nat.{ℕ, zero, suc, ◌+◌, ◌≤◌, ◌<◌}
use native.Mathlib.Nat.{add-zero, add-suc, suc-add, zero-add, lt_of_lt_of_le}
use native.Mathlib.Numerals.{add-one}
use lib.Dec.{T}
use lib.ListN.{length}
use Rattle.theory_lists.specs.Lists.{all, count_from, up_to}
use Rattle.theory_lists.proofs.Reflects.{Reflects, reflects-test, reflects-iff, test-false}
use Rattle.theory_lists.proofs.ListsLaws.{Every, all-reflects, up_to-to, up_to-from}

-- two tests that decide the same claim are equal
pub reflects-same : {a b : Bool} {P : Type 0} → Reflects a P → Reflects b P → a ≡ b
reflects-same {a = true} {b = true} p q = refl
reflects-same {a = true} {b = false} p q = absurd (q.from (p.to tt))
reflects-same {a = false} {b = true} p q = absurd (p.from (q.to tt))
reflects-same {a = false} {b = false} p q = refl

-- the second test is made only if the first passes: "and"
then-and : (a b : Bool) → elim a [ true ↦ b | false ↦ false ] ≡ a && b
then-and true b = refl
then-and false b = refl

and_assoc : (a b c : Bool) → a && (b && c) ≡ a && b && c
and_assoc true b c = refl
and_assoc false b c = refl

and-true : (a : Bool) → a && true ≡ a
and-true true = refl
and-true false = refl

module _ {A : Type 0} (f : A → Bool) where
  pub all_cons : (x : A) (xs : List A) → all f (x ∷ xs) ≡ f x && all f xs
  unfolding all
  all_cons x xs = then-and (f x) (all f xs)

  pub all_append : (xs ys : List A) → all f (xs ++ ys) ≡ all f xs && all f ys
  unfolding all
  all_append [] ys = refl
  all_append (x ∷ xs) ys =
      all_cons x (xs ++ ys) ∙ ap (λ b. f x && b) (all_append xs ys) ∙ and_assoc (f x) (all f xs) (all f ys)
      ∙ ap (λ b. b && all f ys) (sym (all_cons x xs))

pub all_map : {A B : Type 0} (f : B → Bool) (g : A → B) (xs : List A) → all f (map g xs) ≡ all (λ x. f (g x)) xs
unfolding all
all_map f g [] = refl
all_map f g (x ∷ xs) = all_cons f (g x) (map g xs) ∙ ap (λ b. f (g x) && b) (all_map f g xs) ∙ sym (all_cons (λ y. f (g y)) x xs)

-- one number more, at the end
count_from-suc : (k n : ℕ) → count_from k (suc n) ≡ count_from k n ++ ((k + n) ∷ [])
unfolding count_from
count_from-suc k zero = ap (λ m. m ∷ []) (sym (add-zero k))
count_from-suc k (suc n) =
    ap (λ l. k ∷ l) (count_from-suc (suc k) n ∙ ap (λ m. count_from (suc k) n ++ (m ∷ [])) (suc-add k n ∙ sym (add-suc k n)))

pub up_to-suc : (n : ℕ) → up_to (suc n) ≡ up_to n ++ (n ∷ [])
unfolding up_to
up_to-suc n = count_from-suc 0 n ∙ ap (λ m. count_from 0 n ++ (m ∷ [])) (zero-add n)

count_from-length : (k n : ℕ) → length (count_from k n) ≡ n
unfolding count_from
count_from-length k zero = refl
count_from-length k (suc n) = ap suc (count_from-length (suc k) n)

-- as many numbers as the bound
pub up_to-length : (n : ℕ) → length (up_to n) ≡ n
unfolding up_to
up_to-length n = count_from-length 0 n

-- a test at every number below 0, and below one number more
pub all-below-none : (f : ℕ → Bool) → all f (up_to 0) ≡ true
unfolding all up_to count_from
all-below-none f = refl

all_one : (f : ℕ → Bool) (n : ℕ) → all f (n ∷ []) ≡ f n
unfolding all
all_one f n = then-and (f n) true ∙ and-true (f n)

pub all-below-more : (f : ℕ → Bool) (n : ℕ) → all f (up_to (suc n)) ≡ all f (up_to n) && f n
all-below-more f n =
    ap (all f) (up_to-suc n) ∙ all_append f (up_to n) (n ∷ []) ∙ ap (λ b. all f (up_to n) && b) (all_one f n)

-- one turn of a loop that joins its tests by "and"
pub all-below-step : (f : ℕ → Bool) (i : ℕ) {a b : Bool} → a ≡ all f (up_to i) → b ≡ f i → a && b ≡ all f (up_to (i + 1))
all-below-step f i p q = ap₂ ◌&&◌ p q ∙ sym (all-below-more f i) ∙ ap (λ n. all f (up_to n)) (sym (add-one i))

-- it is the claim that the test passes at every number below the bound
pub all-below-reflects : (f : ℕ → Bool) (n : ℕ) → Reflects (all f (up_to n)) ((i : ℕ) → i < n → T (f i))
all-below-reflects f n =
    reflects-iff {P = Every (λ i. T (f i)) (up_to n)} (λ h i l. h i (up_to-from l)) (λ h i m. h i (up_to-to m))
    (all-reflects f (λ i. reflects-test (f i)) (up_to n))

pub all-below-at : (f : ℕ → Bool) {n : ℕ} → all f (up_to n) ≡ true → {i : ℕ} → i < n → T (f i)
all-below-at f {n} e {i} l = (all-below-reflects f n).to (rw e tt) i l

-- a lower bound asks less
pub all-below-fewer : (f : ℕ → Bool) {m n : ℕ} → m ≤ n → all f (up_to n) ≡ true → all f (up_to m) ≡ true
all-below-fewer f {m} {n} h e =
    reflects-same (all-below-reflects f m)
    (record { to = λ t i l. all-below-at f e (lt_of_lt_of_le l h); from = λ g. tt })

-- one test that fails below the bound
pub all-below-fails : (f : ℕ → Bool) (n i : ℕ) → i < n → f i ≡ false → false ≡ all f (up_to n)
all-below-fails f n i l e = sym (test-false λ h. rw e at ((all-below-reflects f n).to h i l))

-- one more test that passes
pub all-below-passes : (f : ℕ → Bool) (i : ℕ) → all f (up_to i) ≡ true → f i ≡ true → all f (up_to (i + 1)) ≡ true
all-below-passes f i h e = sym (all-below-step f i (sym h) (sym e))
