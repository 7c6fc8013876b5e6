-- `filter` of joined lists, and of lists whose elements all pass or all fail; how many pass, and what they have.
-- Each law is an induction on the list.
-- Assumes nothing.
use mathlib.Core.Path.{◌≡◌, refl, sym, ◌∙◌, ap, ap₂}
use mathlib.Core.Bool.{Bool, true, false, ◌&&◌}
use mathlib.Core.List.{List, [], ◌∷◌, ◌++◌}
use Prim.Native.Nat.{suc, ◌≤◌}
use native.Mathlib.Nat.{le_refl}
use native.Mathlib.Omega.{arith}
use lib.Dec.{T}
use lib.ListN.{length}
use Rattle.theory_lists.specs.Lists.{filter, only}
use Rattle.theory_lists.proofs.ListsLaws.{Every, every-cons, every-uncons}
use Rattle.theory_lists.proofs.EveryLaws.{every-nil}

module _ {A : Type 0} (f : A → Bool) where
  -- an element that passes is kept
  pub filter-pass : (x : A) (xs : List A) → f x ≡ true → filter f (x ∷ xs) ≡ x ∷ filter f xs
  unfolding filter
  filter-pass x xs e = rw (filter, e)

  -- one that fails is left out
  pub filter-fail : (x : A) (xs : List A) → f x ≡ false → filter f (x ∷ xs) ≡ filter f xs
  unfolding filter
  filter-fail x xs e = rw (filter, e)

  choice-append : (b : Bool) (x : A) (xs ys : List A) {zs : List A} → zs ≡ xs ++ ys
      → elim b [ true ↦ x ∷ zs | false ↦ zs ] ≡ elim b [ true ↦ x ∷ xs | false ↦ xs ] ++ ys
  choice-append true x xs ys e = ap (λ l. x ∷ l) e
  choice-append false x xs ys e = e

  -- of two lists joined
  pub filter-append : (xs ys : List A) → filter f (xs ++ ys) ≡ filter f xs ++ filter f ys
  unfolding filter
  filter-append [] ys = refl
  filter-append (x ∷ xs) ys = choice-append (f x) x (filter f xs) (filter f ys) (filter-append xs ys)

  -- of one element more at the end
  pub filter-snoc : (xs : List A) (x : A) → filter f (xs ++ (x ∷ [])) ≡ filter f xs ++ only (f x) x
  unfolding filter
  filter-snoc xs x = filter-append xs (x ∷ []) ∙ ap (λ r. filter f xs ++ r) (go (f x))
    where
      go : (b : Bool) → (elim b [ true ↦ x ∷ [] | false ↦ [] ]) ≡ only b x
      go true = refl
      go false = refl

  -- no more than there are
  pub filter-length : (l : List A) → length (filter f l) ≤ length l
  unfolding filter
  filter-length [] = le_refl 0
  filter-length (x ∷ xs) = go (f x) (filter-length xs)
    where
      go : (b : Bool) → length (filter f xs) ≤ length xs → length {A = A} (elim b [ true ↦ x ∷ filter f xs | false ↦ filter f xs ]) ≤ suc (length xs)
      go true h = omega arith
      go false h = omega arith

  -- where all pass
  pub filter-all : (xs : List A) → Every (λ x. f x ≡ true) xs → filter f xs ≡ xs
  unfolding filter
  filter-all [] h = refl
  filter-all (x ∷ xs) h = let g = every-uncons h in filter-pass x xs g.0 ∙ ap (λ l. x ∷ l) (filter-all xs g.1)

  -- where all fail
  pub filter_none : (xs : List A) → Every (λ x. f x ≡ false) xs → filter f xs ≡ []
  unfolding filter
  filter_none [] h = refl
  filter_none (x ∷ xs) h = let g = every-uncons h in filter-fail x xs g.0 ∙ filter_none xs g.1

-- elements that pass a test have what every element has, and pass it
pub every-filter : {A : Type 0} {P : A → Type 0} (f : A → Bool) (l : List A) → Every P l → Every (λ x. P x × T (f x)) (filter f l)
unfolding filter
every-filter {P = P} f [] h = every-nil (λ x. P x × T (f x))
every-filter {A} {P} f (y ∷ ys) h = let g = every-uncons h in go (f y) refl g.0 (every-filter f ys g.1)
  where
    go : (b : Bool) → f y ≡ b → P y → Every (λ x. P x × T (f x)) (filter f ys)
        → Every (λ x. P x × T (f x)) (elim b [ true ↦ y ∷ filter f ys | false ↦ filter f ys ])
    go true e p r = every-cons ((p, rw e tt), r)
    go false e p r = r

module _ {A : Type 0} (p q : A → Bool) where
  -- tests that agree on a list
  pub filter-agree : (l : List A) → Every (λ x. p x ≡ q x) l → filter p l ≡ filter q l
  unfolding filter
  filter-agree [] h = refl
  filter-agree (x ∷ xs) h =
      let u = every-uncons h in
      ap₂ (λ b r. elim b [ true ↦ x ∷ r | false ↦ r ]) u.0 (filter-agree xs u.1)

  -- one test after another
  pub filter-both : (l : List A) → filter p (filter q l) ≡ filter (λ x. p x && q x) l
  unfolding filter
  filter-both [] = refl
  filter-both (x ∷ xs) = go (p x) (q x) refl refl (filter-both xs)
    where
      go : (b c : Bool) → p x ≡ b → q x ≡ c → filter p (filter q xs) ≡ filter (λ x. p x && q x) xs
          → filter p (filter q (x ∷ xs)) ≡ filter (λ x. p x && q x) (x ∷ xs)
      go true true e d r =
          ap (filter p) (filter-pass q x xs d) ∙ filter-pass p x (filter q xs) e ∙ ap (λ l. x ∷ l) r
          ∙ sym (filter-pass (λ x. p x && q x) x xs (rw (e, d)))
      go true false e d r = ap (filter p) (filter-fail q x xs d) ∙ r ∙ sym (filter-fail (λ x. p x && q x) x xs (rw (e, d)))
      go false true e d r =
          ap (filter p) (filter-pass q x xs d) ∙ filter-fail p x (filter q xs) e ∙ r
          ∙ sym (filter-fail (λ x. p x && q x) x xs (rw e))
      go false false e d r = ap (filter p) (filter-fail q x xs d) ∙ r ∙ sym (filter-fail (λ x. p x && q x) x xs (rw e))
