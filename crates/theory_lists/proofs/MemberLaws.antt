-- Members of lists that are built from others: by a test, or by joining many lists.
-- Each law is an induction on the list.
-- Assumes nothing.
use mathlib.Core.Path.{◌≡◌, refl, subst}
use mathlib.Core.Bool.{Bool, true, false}
use mathlib.Core.List.Memᴰ
use mathlib.Core.List.{List, [], ◌∷◌, ◌++◌, flat_map, Memᴰ}
use mathlib.Core.Logic.{◌⊎◌, inl, inr}
use lib.Dec.{T}
use Rattle.theory_lists.specs.Lists.{filter}
use Rattle.theory_lists.proofs.ListsLaws.{Some, some-cons}

module _ {A : Type 0} (f : A → Bool) where
  -- what a test keeps is in the list and passes the test
  pub filter-to : {x : A} (l : List A) → Memᴰ x (filter f l) → Memᴰ x l × T (f x)
  unfolding filter
  filter-to [] m = absurd (Memᴰ.not-nil m)
  filter-to {x} (y ∷ ys) m = go (f y) refl (λ n. filter-to ys n) m
    where
      tail : Memᴰ x ys × T (f x) → Memᴰ x (y ∷ ys) × T (f x)
      tail h = (Memᴰ.tail h.0, h.1)

      go : (b : Bool) → f y ≡ b → (Memᴰ x (filter f ys) → Memᴰ x ys × T (f x))
          → Memᴰ x (elim b [ true ↦ y ∷ filter f ys | false ↦ filter f ys ]) → Memᴰ x (y ∷ ys) × T (f x)
      go true e rec n = elim (Memᴰ.cases_cons n) [ inl q ↦ (Memᴰ.head q, rw (q, e) tt) | inr r ↦ tail (rec r) ]
      go false e rec n = tail (rec n)

  -- and whatever is in the list and passes the test is kept
  pub filter-from : {x : A} (l : List A) → Memᴰ x l → T (f x) → Memᴰ x (filter f l)
  unfolding filter
  filter-from [] m t = absurd (Memᴰ.not-nil m)
  filter-from {x} (y ∷ ys) m t = go (f y) refl (λ n. filter-from ys n t) (Memᴰ.cases_cons m)
    where
      go : (b : Bool) → f y ≡ b → (Memᴰ x ys → Memᴰ x (filter f ys)) → (x ≡ y) ⊎ Memᴰ x ys
          → Memᴰ x (elim b [ true ↦ y ∷ filter f ys | false ↦ filter f ys ])
      go true e rec (inl q) = Memᴰ.head q
      go true e rec (inr n) = Memᴰ.tail (rec n)
      go false e rec (inl q) = absurd (rw (q, e) at t)
      go false e rec (inr n) = rec n

  -- some element that a test keeps has P exactly if some element passes the test and has P
  pub some-filter-to : {P : A → Type 0} (l : List A) → Some P (filter f l) → Some (λ x. T (f x) × P x) l
  some-filter-to l s = let m = filter-to l s.member in record { value = s.value; member = m.0; has = (m.1, s.has) }

  pub some-filter-from : {P : A → Type 0} (l : List A) → Some (λ x. T (f x) × P x) l → Some P (filter f l)
  some-filter-from l s = record { value = s.value; member = filter-from l s.member s.has.0; has = s.has.1 }

module _ {A B : Type 0} (f : A → List B) where
  -- what is in many lists joined is in one of them
  pub flat_map-to : {y : B} (l : List A) → Memᴰ y (flat_map f l) → Some (λ x. Memᴰ y (f x)) l
  unfolding flat_map
  flat_map-to [] m = absurd (Memᴰ.not-nil m)
  flat_map-to (x ∷ xs) m = elim (Memᴰ.append_cases (f x) m) [ inl n ↦ some-cons (inl n) | inr n ↦ some-cons (inr (flat_map-to xs n)) ]

  -- and whatever is in one of them is in the whole
  pub flat_map-from : {x : A} {y : B} (l : List A) → Memᴰ x l → Memᴰ y (f x) → Memᴰ y (flat_map f l)
  unfolding flat_map
  flat_map-from [] m n = absurd (Memᴰ.not-nil m)
  flat_map-from {x} {y} (z ∷ zs) m n = go (λ h. flat_map-from zs h n) (Memᴰ.cases_cons m)
    where
      go : (Memᴰ x zs → Memᴰ y (flat_map f zs)) → (x ≡ z) ⊎ Memᴰ x zs → Memᴰ y (f z ++ flat_map f zs)
      go rec (inl q) = Memᴰ.append_left (flat_map f zs) (subst (λ a. Memᴰ y (f a)) q n)
      go rec (inr h) = Memᴰ.append_right (f z) (rec h)
