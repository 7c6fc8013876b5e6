-- Lists in which each element stands in a relation to every later one, and strictly ascending lists of numbers.
-- Assumes nothing.
use mathlib.Core.Path.{◌≡◌, refl, sym, ◌∙◌}
use mathlib.Core.Bool.{Bool, true, false}
use mathlib.Core.List.Memᴰ
use mathlib.Core.List.{List, [], ◌∷◌, map, Memᴰ}
use mathlib.Core.Logic.{◌⊎◌, inl, inr}
use Prim.Native.Nat.{ℕ, zero, suc, ◌+◌, ◌≤◌, ◌<◌}
use native.Mathlib.Nat.{le_refl, le_trans, le-suc}
use native.Mathlib.Omega.{arith}
use lib.Dec.{T}
use lib.ListN.{length, get_or}
use Rattle.theory_lists.specs.Lists.{filter, places_from}
use Rattle.theory_lists.proofs.ListsLaws.{Every, every-cons, every-uncons, get_or-member, every-places}
use Rattle.theory_lists.proofs.EveryLaws.{every-nil, every-imp, every_map}
use Rattle.theory_lists.proofs.FilterLaws.{every-filter}

-- each element stands in the relation to every later one
pub data Ordered {A : Type 0} (R : A → A → Type 0) : List A → Type 0 where
  ordered-none : Ordered R []
  ordered-more : {x : A} {xs : List A} → Every (λ y. R x y) xs → Ordered R xs → Ordered R (x ∷ xs)

-- the first element and the rest
pub ordered-uncons : {A : Type 0} {R : A → A → Type 0} {x : A} {xs : List A} → Ordered R (x ∷ xs)
    → Every (λ y. R x y) xs × Ordered R xs
ordered-uncons (ordered-more r o) = (r, o)

-- by places
pub ordered_at : {A : Type 0} {R : A → A → Type 0} {l : List A} (i j : ℕ) (d : A) → Ordered R l → i < j → j < length l
    → R (get_or l i d) (get_or l j d)
ordered_at i j d ordered-none h l = absurd (omega arith)
ordered_at i zero d (ordered-more r o) h l = absurd (omega arith)
ordered_at zero (suc j) d (ordered-more {xs = xs} r o) h l = r (get_or xs j d) (get_or-member xs j d (omega arith))
ordered_at (suc i) (suc j) d (ordered-more r o) h l = ordered_at i j d o (omega arith) (omega arith)

-- and back
pub ordered-places : {A : Type 0} {R : A → A → Type 0} (l : List A) (d : A)
    → ((i j : ℕ) → i < j → j < length l → R (get_or l i d) (get_or l j d)) → Ordered R l
ordered-places [] d h = ordered-none
ordered-places {R = R} (x ∷ xs) d h =
    ordered-more (every-places (λ y. R x y) xs d (λ j l. h 0 (suc j) (omega arith) (omega arith)))
    (ordered-places xs d (λ i j b l. h (suc i) (suc j) (omega arith) (omega arith)))

-- of two elements either they are the same, or one stands before the other
pub ordered-pair : {A : Type 0} {R : A → A → Type 0} {l : List A} {x y : A} → Ordered R l → Memᴰ x l → Memᴰ y l
    → (x ≡ y) ⊎ (R x y ⊎ R y x)
ordered-pair ordered-none m n = absurd (Memᴰ.not-nil m)
ordered-pair {R = R} {x = x} {y = y} (ordered-more {x = z} {xs = zs} r o) m n =
    go (λ a b. ordered-pair o a b) (Memᴰ.cases_cons m) (Memᴰ.cases_cons n)
  where
    go : (Memᴰ x zs → Memᴰ y zs → (x ≡ y) ⊎ (R x y ⊎ R y x)) → (x ≡ z) ⊎ Memᴰ x zs → (y ≡ z) ⊎ Memᴰ y zs
        → (x ≡ y) ⊎ (R x y ⊎ R y x)
    go rec (inl e) (inl f) = inl (e ∙ sym f)
    go rec (inl e) (inr b) = inr (inl (rw e (r y b)))
    go rec (inr a) (inl f) = inr (inr (rw f (r x a)))
    go rec (inr a) (inr b) = rec a b

-- a relation that follows from another
pub ordered-imp : {A : Type 0} {R S : A → A → Type 0} {l : List A} → ((x y : A) → R x y → S x y) → Ordered R l → Ordered S l
ordered-imp f ordered-none = ordered-none
ordered-imp f (ordered-more {x = x} r o) = ordered-more (every-imp (f x) r) (ordered-imp f o)

-- of the images: what the elements stand in by their images
pub ordered-map : {A B : Type 0} {R : B → B → Type 0} (g : A → B) {l : List A} → Ordered (λ x y. R (g x) (g y)) l → Ordered R (map g l)
ordered-map g ordered-none = ordered-none
ordered-map {R = R} g (ordered-more {x = x} {xs = xs} r o) = ordered-more (every_map (λ b. R (g x) b) g xs r) (ordered-map g o)

-- of the elements that pass a test, which both pass it
pub ordered-filter : {A : Type 0} {R : A → A → Type 0} (f : A → Bool) {l : List A} → Ordered R l
    → Ordered (λ x y. R x y × (T (f x) × T (f y))) (filter f l)
unfolding filter
ordered-filter f ordered-none = ordered-none
ordered-filter {A} {R} f (ordered-more {x = z} {xs = zs} r o) = go (f z) refl (ordered-filter f o)
  where
    go : (b : Bool) → f z ≡ b → Ordered (λ x y. R x y × (T (f x) × T (f y))) (filter f zs)
        → Ordered (λ x y. R x y × (T (f x) × T (f y))) (elim b [ true ↦ z ∷ filter f zs | false ↦ filter f zs ])
    go true e rest = ordered-more (every-imp (λ y h. (h.0, (rw e tt, h.1))) (every-filter f zs r)) rest
    go false e rest = rest

-- the numbers are from a on and below b, strictly ascending
pub data Rising : ℕ → ℕ → List ℕ → Type 0 where
  rising_none : {a b : ℕ} → Rising a b []
  rising-more : {a b i : ℕ} {is : List ℕ} → a ≤ i → i < b → Rising (suc i) b is → Rising a b (i ∷ is)

-- so also from an earlier number on
pub rising-from : {a b c : ℕ} {is : List ℕ} → a ≤ b → Rising b c is → Rising a c is
rising-from h rising_none = rising_none
rising-from h (rising-more l u r) = rising-more (le_trans h l) u r

-- each number is from a on and below b
pub rising-members : {a b : ℕ} {is : List ℕ} → Rising a b is → Every (λ i. (a ≤ i) × (i < b)) is
rising-members {a} {b} rising_none = every-nil (λ i. (a ≤ i) × (i < b))
rising-members (rising-more l u r) = every-cons ((l, u), λ j m. let h = rising-members r j m in omega arith)

-- each is below every later one
pub rising-ordered : {a b : ℕ} {is : List ℕ} → Rising a b is → Ordered (λ i j. i < j) is
rising-ordered rising_none = ordered-none
rising-ordered (rising-more {i = i} l u r) = ordered-more {x = i} (λ j m. let h = rising-members r j m in omega arith) (rising-ordered r)

-- numbers that are each below every later one, from a on and below b
pub ordered-rising : {a b : ℕ} {is : List ℕ} → Ordered (λ i j. i < j) is → Every (λ i. (a ≤ i) × (i < b)) is → Rising a b is
ordered-rising ordered-none h = rising_none
ordered-rising (ordered-more {x = i} r o) h =
    let g = every-uncons h in
    rising-more g.0.0 g.0.1 (ordered-rising o (λ j m. let k = r j m in let n = g.1 j m in omega arith))

rising-choice : (t : Bool) {a b : ℕ} {is : List ℕ} → a < b → Rising (suc a) b is → Rising a b (elim t [ true ↦ a ∷ is | false ↦ is ])
rising-choice true {a} h r = rising-more (le_refl a) h r
rising-choice false {a} h r = rising-from (le-suc a) r

places-induct : {A : Type 0} (f : A → Bool) (k : ℕ) (l : List A) {b : ℕ} → k + length l ≡ b → Rising k b (places_from f k l)
unfolding places_from
places-induct f k [] e = rising_none
places-induct f k (x ∷ xs) e = rising-choice (f x) (omega arith) (places-induct f (suc k) xs (omega arith))

-- the places of the elements that pass a test ascend, below the length
pub places-rising : {A : Type 0} (f : A → Bool) (l : List A) → Rising 0 (length l) (places_from f 0 l)
places-rising f l = places-induct f 0 l (omega arith)
