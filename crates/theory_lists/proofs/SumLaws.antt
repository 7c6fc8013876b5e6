-- Sums over lists.
-- Each law is an induction on the list.
-- Assumes nothing.
use mathlib.Core.Path.{◌≡◌, refl, sym, ◌∙◌, ap, ap₂}
use mathlib.Core.Bool.{Bool, true, false, cond}
use mathlib.Core.List.{List, [], ◌∷◌, ◌++◌, map, flat_map}
use Prim.Native.Nat.{ℕ, suc, ◌+◌, ◌≤◌}
use native.Mathlib.Omega.{arith}
use lib.ListN.{length, length-append}
use Rattle.theory_lists.specs.Lists.{sum_of, places_from}
use Rattle.theory_lists.proofs.ListsLaws.{Every, every-uncons}

-- over a list of images
pub sum-map : {A B : Type 0} (f : B → ℕ) (g : A → B) (l : List A) → sum_of f (map g l) ≡ sum_of (λ x. f (g x)) l
unfolding sum_of
sum-map f g [] = refl
sum-map f g (x ∷ xs) = ap (λ n. f (g x) + n) (sum-map f g xs)

module _ {A : Type 0} where
  -- over two lists joined
  pub sum-append : (f : A → ℕ) (s t : List A) → sum_of f (s ++ t) ≡ sum_of f s + sum_of f t
  unfolding sum_of
  sum-append f [] t = omega arith
  sum-append f (x ∷ s) t = omega (arith, sum-append f s t)

  -- of two functions that agree on the elements
  pub sum-agree : (f g : A → ℕ) (l : List A) → Every (λ x. f x ≡ g x) l → sum_of f l ≡ sum_of g l
  unfolding sum_of
  sum-agree f g [] h = refl
  sum-agree f g (x ∷ xs) h = let e = every-uncons h in ap₂ ◌+◌ e.0 (sum-agree f g xs e.1)

  -- of two functions of which one is nowhere above the other
  pub sum-le : (f g : A → ℕ) (l : List A) → Every (λ x. f x ≤ g x) l → sum_of f l ≤ sum_of g l
  unfolding sum_of
  sum-le f g [] h = omega arith
  sum-le f g (x ∷ xs) h = let e = every-uncons h in let r = sum-le f g xs e.1 in omega (arith, e.0)

  -- of sums
  pub sum-add : (f g : A → ℕ) (l : List A) → sum_of (λ x. f x + g x) l ≡ sum_of f l + sum_of g l
  unfolding sum_of
  sum-add f g [] = refl
  sum-add f g (x ∷ xs) = let r = sum-add f g xs in omega arith

  -- of 1 for each element
  pub sum_ones : (l : List A) → sum_of (λ x. 1) l ≡ length l
  unfolding sum_of
  sum_ones [] = refl
  sum_ones (x ∷ xs) = let r = sum_ones xs in omega arith

  -- of 0 for each element
  sum_zeros : (l : List A) → 0 ≡ sum_of (λ x. 0) l
  unfolding sum_of
  sum_zeros [] = refl
  sum_zeros (x ∷ xs) = omega (arith, sum_zeros xs)

  -- of 1 for each element that passes a test: as many places as pass it
  pub places_count : (f : A → Bool) (k : ℕ) (l : List A) → length (places_from f k l) ≡ sum_of (λ x. cond (f x) 1 0) l
  unfolding sum_of places_from
  places_count f k [] = refl
  places_count f k (x ∷ xs) = go (f x) (places_from f (suc k) xs) (places_count f (suc k) xs)
    where
      go : (b : Bool) (is : List ℕ) {n : ℕ} → length is ≡ n → length {A = ℕ} (elim b [ true ↦ k ∷ is | false ↦ is ]) ≡ cond b 1 0 + n
      go true is e = omega arith
      go false is e = omega arith

-- over many lists joined
pub sum-flat_map : {A B : Type 0} (f : B → ℕ) (g : A → List B) (l : List A) → sum_of f (flat_map g l) ≡ sum_of (λ x. sum_of f (g x)) l
unfolding sum_of flat_map
sum-flat_map f g [] = refl
sum-flat_map f g (x ∷ xs) = omega (arith, sum-append f (g x) (flat_map g xs), sum-flat_map f g xs)

-- of lengths: how long many lists joined are
pub length-flat_map : {A B : Type 0} (g : A → List B) (l : List A) → length (flat_map g l) ≡ sum_of (λ x. length (g x)) l
unfolding sum_of flat_map
length-flat_map g [] = refl
length-flat_map g (x ∷ xs) = omega (arith, length-append (g x) (flat_map g xs), length-flat_map g xs)

-- of sums over another list: either list may be summed over first
pub sum-swap : {A B : Type 0} (f : A → B → ℕ) (l : List A) (m : List B)
    → sum_of (λ x. sum_of (f x) m) l ≡ sum_of (λ y. sum_of (λ x. f x y) l) m
unfolding sum_of
sum-swap f [] m = sum_zeros m
sum-swap f (x ∷ l) m = ap (λ n. sum_of (f x) m + n) (sum-swap f l m) ∙ sym (sum-add (f x) (λ y. sum_of (λ x. f x y) l) m)
