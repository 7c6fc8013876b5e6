-- Many lists joined, `flat_map`, and `filter` and `first` of lists that are built from others; and a list's places, which stand
-- for its elements.
-- Each law is an induction on the list.
-- Assumes nothing.
use mathlib.Core.Path.{◌≡◌, refl, sym, ◌∙◌, ap, ap₂}
use mathlib.Core.Bool.{Bool, true, false}
use mathlib.Core.List.{List, [], ◌∷◌, ◌++◌, flat_map, append_assoc}
use mathlib.Core.Option.{some}
use Prim.Native.Nat.{ℕ, suc, ◌+◌, ◌*◌, ◌<◌}
use native.Mathlib.Nat.{add-zero, zero-add}
use native.Mathlib.Omega.{arith}
use lib.Dec.{T}
use lib.ListN.{length, get_or, length-append}
use Rattle.theory_lists.specs.Lists.{filter, first, places_from, count_from, up_to}
use Rattle.theory_lists.proofs.ListsLaws.{Every, every-uncons}
use Rattle.theory_lists.proofs.FilterLaws.{filter-pass, filter-fail, filter-append}

module _ {A B : Type 0} (f : A → List B) where
  -- of two lists joined
  pub flat_map-append : (xs ys : List A) → flat_map f (xs ++ ys) ≡ flat_map f xs ++ flat_map f ys
  unfolding flat_map
  flat_map-append [] ys = refl
  flat_map-append (x ∷ xs) ys =
      ap (λ l. f x ++ l) (flat_map-append xs ys) ∙ sym (append_assoc (f x) (flat_map f xs) (flat_map f ys))

  -- the elements that pass a test
  pub filter-flat_map : (p : B → Bool) (l : List A) → filter p (flat_map f l) ≡ flat_map (λ a. filter p (f a)) l
  unfolding flat_map filter
  filter-flat_map p [] = refl
  filter-flat_map p (x ∷ xs) =
      filter-append p (f x) (flat_map f xs) ∙ ap (λ l. filter p (f x) ++ l) (filter-flat_map p xs)

  -- elements that give nothing may be left out
  pub flat_map-filter : (p : A → Bool) (l : List A) → Every (λ a. p a ≡ false → f a ≡ []) l → flat_map f (filter p l) ≡ flat_map f l
  unfolding flat_map filter
  flat_map-filter p [] h = refl
  flat_map-filter p (x ∷ xs) h = let g = every-uncons h in go (p x) refl g.0 (flat_map-filter p xs g.1)
    where
      go : (b : Bool) → p x ≡ b → (p x ≡ false → f x ≡ []) → flat_map f (filter p xs) ≡ flat_map f xs
          → flat_map f (filter p (x ∷ xs)) ≡ f x ++ flat_map f xs
      go true e h r = ap (flat_map f) (filter-pass p x xs e) ∙ ap (λ l. f x ++ l) r
      go false e h r = ap (flat_map f) (filter-fail p x xs e) ∙ r ∙ ap (λ l. l ++ flat_map f xs) (sym (h e))

-- lists of one length
pub flat_map-length : {A B : Type 0} (f : A → List B) (c : ℕ) → ((a : A) → length (f a) ≡ c) → (l : List A)
    → length (flat_map f l) ≡ c * length l
unfolding flat_map
flat_map-length f c size [] = omega arith
flat_map-length f c size (x ∷ xs) =
    length-append (f x) (flat_map f xs) ∙ ap₂ ◌+◌ (size x) (flat_map-length f c size xs) ∙ omega arith

-- joined twice
pub flat_map-flat_map : {A B C : Type 0} (g : B → List C) (f : A → List B) (l : List A)
    → flat_map g (flat_map f l) ≡ flat_map (λ a. flat_map g (f a)) l
unfolding flat_map
flat_map-flat_map g f [] = refl
flat_map-flat_map g f (x ∷ xs) =
    flat_map-append g (f x) (flat_map f xs) ∙ ap (λ l. flat_map g (f x) ++ l) (flat_map-flat_map g f xs)

module _ {A : Type 0} (p q : A → Bool) where
  -- a test after a weaker one is that test alone
  pub filter-narrow : (l : List A) → Every (λ x. T (p x) → T (q x)) l → filter p (filter q l) ≡ filter p l
  unfolding filter
  filter-narrow [] h = refl
  filter-narrow (x ∷ xs) h = let g = every-uncons h in go (p x) (q x) refl refl g.0 (filter-narrow xs g.1)
    where
      go : (b c : Bool) → p x ≡ b → q x ≡ c → (T (p x) → T (q x)) → filter p (filter q xs) ≡ filter p xs
          → filter p (filter q (x ∷ xs)) ≡ filter p (x ∷ xs)
      go true true e d h r =
          ap (filter p) (filter-pass q x xs d) ∙ filter-pass p x (filter q xs) e ∙ ap (λ l. x ∷ l) r ∙ sym (filter-pass p x xs e)
      go true false e d h r = absurd (rw d at (h (rw e tt)))
      go false true e d h r =
          ap (filter p) (filter-pass q x xs d) ∙ filter-fail p x (filter q xs) e ∙ r ∙ sym (filter-fail p x xs e)
      go false false e d h r = ap (filter p) (filter-fail q x xs d) ∙ r ∙ sym (filter-fail p x xs e)

  first-pass : (x : A) (xs : List A) → p x ≡ true → first p (x ∷ xs) ≡ some x
  unfolding first
  first-pass x xs e = rw (first, e)

  first-fail : (x : A) (xs : List A) → p x ≡ false → first p (x ∷ xs) ≡ first p xs
  unfolding first
  first-fail x xs e = rw (first, e)

  -- the first element that passes a test is also the first among those that pass a weaker one
  pub first-narrow : (l : List A) → Every (λ x. T (p x) → T (q x)) l → first p (filter q l) ≡ first p l
  unfolding filter first
  first-narrow [] h = refl
  first-narrow (x ∷ xs) h = let g = every-uncons h in go (p x) (q x) refl refl g.0 (first-narrow xs g.1)
    where
      go : (b c : Bool) → p x ≡ b → q x ≡ c → (T (p x) → T (q x)) → first p (filter q xs) ≡ first p xs
          → first p (filter q (x ∷ xs)) ≡ first p (x ∷ xs)
      go true true e d h r =
          ap (first p) (filter-pass q x xs d) ∙ first-pass x (filter q xs) e ∙ sym (first-pass x xs e)
      go true false e d h r = absurd (rw d at (h (rw e tt)))
      go false true e d h r =
          ap (first p) (filter-pass q x xs d) ∙ first-fail x (filter q xs) e ∙ r ∙ sym (first-fail x xs e)
      go false false e d h r = ap (first p) (filter-fail q x xs d) ∙ r ∙ sym (first-fail x xs e)

module _ {A : Type 0} (d : A) where
  places-induct : (f : A → Bool) (h : ℕ → Bool) (k : ℕ) (l : List A) → ((i : ℕ) → i < length l → h (k + i) ≡ f (get_or l i d))
      → filter h (count_from k (length l)) ≡ places_from f k l
  unfolding filter places_from count_from
  places-induct f h k [] e = refl
  places-induct f h k (x ∷ xs) e =
      ap₂ (λ (b : Bool) (l : List ℕ). elim b [ true ↦ k ∷ l | false ↦ l ]) (rw add-zero at (e 0 (omega arith)))
      (places-induct f h (suc k) xs (λ i l. ap h (omega arith) ∙ e (suc i) (omega arith)))

  -- the places of the elements that pass a test are those places at which it passes
  pub places-filter : (f : A → Bool) (l : List A) → filter (λ i. f (get_or l i d)) (up_to (length l)) ≡ places_from f 0 l
  unfolding up_to
  places-filter f l = places-induct f (λ i. f (get_or l i d)) 0 l (λ i h. rw zero-add)

  flat_map-induct : {B : Type 0} (f : A → List B) (h : ℕ → List B) (k : ℕ) (l : List A)
      → ((i : ℕ) → i < length l → h (k + i) ≡ f (get_or l i d)) → flat_map h (count_from k (length l)) ≡ flat_map f l
  unfolding flat_map count_from
  flat_map-induct f h k [] e = refl
  flat_map-induct f h k (x ∷ xs) e =
      ap₂ ◌++◌ (rw add-zero at (e 0 (omega arith)))
      (flat_map-induct f h (suc k) xs (λ i l. ap h (omega arith) ∙ e (suc i) (omega arith)))

  -- lists joined by elements are those joined by places
  pub flat_map-places : {B : Type 0} (f : A → List B) (l : List A) → flat_map (λ i. f (get_or l i d)) (up_to (length l)) ≡ flat_map f l
  unfolding up_to
  flat_map-places f l = flat_map-induct f (λ i. f (get_or l i d)) 0 l (λ i h. rw zero-add)
