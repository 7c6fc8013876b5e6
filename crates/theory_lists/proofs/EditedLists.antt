-- A list after an element is replaced, taken out or appended: its length, its elements, and the sum over them; and what
-- searches find.
-- Assumes nothing.
use mathlib.Core.Path.{◌≡◌, refl, sym, ◌∙◌, ap, subst}
use mathlib.Core.Bool.{Bool, true, false}
use mathlib.Core.List.Memᴰ
use mathlib.Core.List.{List, [], ◌∷◌, flat_map, cons≢nil, Memᴰ}
use mathlib.Core.Option.{Option, none, some}
use Prim.Native.Nat.{ℕ, zero, suc, ◌+◌, ◌<◌}
use native.Mathlib.Nat.{add-zero, zero-add, add-suc, suc-add}
use native.Mathlib.Omega.{arith}
use lib.Dec.{T}
use lib.ListN.{length, get_or, set, length-set}
use lib.Seq.{get_or-set_other}
use Rattle.theory_lists.specs.Lists.{first, places_from, without, sum_of}
use Rattle.theory_lists.proofs.ListsLaws.{Every, every-cons, every-uncons}
use Rattle.theory_lists.proofs.EveryLaws.{every-nil}

module _ {A : Type 0} where
  -- ---- sums

  module _ (f : A → ℕ) where
    -- the sum after an element is replaced
    pub sum_of-set : (l : List A) (i : ℕ) (a d : A) → i < length l → sum_of f (set l i a) + f (get_or l i d) ≡ sum_of f l + f a
    unfolding sum_of
    sum_of-set [] i a d h = absurd (omega arith)
    sum_of-set (x ∷ l) zero a d h = omega arith
    sum_of-set (x ∷ l) (suc i) a d h = omega (arith, sum_of-set l i a d (omega arith))

    -- the sum after an element is taken out
    pub sum_of-without : (l : List A) (i : ℕ) (d : A) → i < length l → sum_of f (without i l) + f (get_or l i d) ≡ sum_of f l
    unfolding sum_of without
    sum_of-without [] i d h = absurd (omega arith)
    sum_of-without (x ∷ l) zero d h = omega arith
    sum_of-without (x ∷ l) (suc i) d h = omega (arith, sum_of-without l i d (omega arith))

    -- the sum after two elements are replaced
    pub sum_of-two : (l : List A) (i j : ℕ) (a b d : A) → (j ≡ i → ⊥) → i < length l → j < length l
        → sum_of f (set (set l i a) j b) + (f (get_or l i d) + f (get_or l j d)) ≡ sum_of f l + (f a + f b)
    sum_of-two l i j a b d other h g =
        let n = length-set l i a in
        omega (arith, sum_of-set l i a d h, sum_of-set (set l i a) j b d (omega arith), ap f (get_or-set_other l i j a d other))

  -- ---- an element taken out

  -- one element fewer
  pub length_without : (l : List A) (i : ℕ) → i < length l → suc (length (without i l)) ≡ length l
  unfolding without
  length_without [] i h = absurd (omega arith)
  length_without (x ∷ l) zero h = refl
  length_without (x ∷ l) (suc i) h = ap suc (length_without l i (omega arith))

  -- earlier elements stay where they are
  pub get_or-without : (l : List A) (i j : ℕ) (d : A) → j < i → get_or (without i l) j d ≡ get_or l j d
  unfolding without
  get_or-without l zero j d h = absurd (omega arith)
  get_or-without [] (suc i) j d h = refl
  get_or-without (x ∷ l) (suc i) zero d h = refl
  get_or-without (x ∷ l) (suc i) (suc j) d h = get_or-without l i j d (omega arith)

  -- ---- what every element has

  module _ {P : A → Type 0} where
    -- after one is replaced
    pub every_set : (l : List A) (i : ℕ) {a : A} → Every P l → P a → Every P (set l i a)
    every_set [] i h p = h
    every_set (x ∷ l) zero h p = every-cons (p, (every-uncons h).1)
    every_set (x ∷ l) (suc i) h p = let g = every-uncons h in every-cons (g.0, every_set l i g.1 p)

    -- after one is taken out
    pub every-without : (l : List A) (i : ℕ) → Every P l → Every P (without i l)
    unfolding without
    every-without [] zero h = h
    every-without [] (suc i) h = h
    every-without (x ∷ l) zero h = (every-uncons h).1
    every-without (x ∷ l) (suc i) h = let g = every-uncons h in every-cons (g.0, every-without l i g.1)

  -- ---- one of three elements replaced, the two later ones taken out

  module _ (l : List A) (i j k : ℕ) (a : A) (ij : i < j) (jk : j < k) (below : k < length l) where
    -- two elements fewer
    pub length_merged : length (without j (without k (set l i a))) + 2 ≡ length l
    length_merged =
        let n = length-set l i a in
        let m = length_without (set l i a) k (omega arith) in
        omega (arith, length_without (without k (set l i a)) j (omega arith))

    -- each element is one of before, or the new one
    pub every-merged : {P : A → Type 0} → Every P l → P a → Every P (without j (without k (set l i a)))
    every-merged h p = every-without (without k (set l i a)) j (every-without (set l i a) k (every_set l i h p))

    -- the sum loses the three, and gains the new one
    pub sum_of-merged : (f : A → ℕ) (d : A)
        → sum_of f (without j (without k (set l i a))) + (f (get_or l i d) + f (get_or l j d) + f (get_or l k d)) ≡ sum_of f l + f a
    sum_of-merged f d =
        let m = set l i a in
        let n = length-set l i a in
        let s = length_without m k (omega arith) in
        let at_k : get_or m k d ≡ get_or l k d = get_or-set_other l i k a d (λ e. absurd (omega arith)) in
        let at_j : get_or (without k m) j d ≡ get_or l j d = get_or-without m k j d jk ∙ get_or-set_other l i j a d (λ e. absurd (omega arith)) in
        omega (
          arith,
          sum_of-set f l i a d (omega arith),
          sum_of-without f m k d (omega arith),
          sum_of-without f (without k m) j d (omega arith),
          ap f at_k,
          ap f at_j,
        )

  -- ---- searches

  -- to find nothing is not to find something
  pub none-some : {x : A} → none ≡ some x → ⊥
  none-some e = let z : ◌≡◌ {A = ℕ} 0 1 = cc in omega arith

  -- and what is found is one thing
  pub some_same : {x y : A} → some x ≡ some y → x ≡ y
  some_same e = cc

  module _ (f : A → Bool) (k : ℕ) (x : A) (l : List A) where
    -- the places that pass a test, where the first element passes it
    pub places_from-pass : f x ≡ true → places_from f k (x ∷ l) ≡ k ∷ places_from f (suc k) l
    unfolding places_from
    places_from-pass e = rw (places_from, e)

    -- and where it does not
    pub places_from-fail : f x ≡ false → places_from f k (x ∷ l) ≡ places_from f (suc k) l
    unfolding places_from
    places_from-fail e = rw (places_from, e)

  module _ (f : A → Bool) (d : A) (P : ℕ → Type 0) where
    places-induct : (k : ℕ) (l : List A) → ((i : ℕ) → i < length l → T (f (get_or l i d)) → P (k + i)) → Every P (places_from f k l)
    unfolding places_from
    places-induct k [] h = every-nil P
    places-induct k (x ∷ l) h =
        go (f x) (λ t. subst P (add-zero k) (h 0 (omega arith) t))
        (places-induct (suc k) l (λ i b t. subst P (add-suc k i ∙ sym (suc-add k i)) (h (suc i) (omega arith) t)))
      where
        go : (b : Bool) → (T b → P k) → Every P (places_from f (suc k) l)
            → Every P (elim b [ true ↦ k ∷ places_from f (suc k) l | false ↦ places_from f (suc k) l ])
        go true p r = every-cons (p tt, r)
        go false p r = r

  -- at the places of the elements that pass a test, the test passes
  pub places-pass : (f : A → Bool) (d : A) (l : List A) → Every (λ i. T (f (get_or l i d))) (places_from f 0 l)
  places-pass f d l =
      places-induct f d (λ i. T (f (get_or l i d))) 0 l (λ i h t. subst (λ j. T (f (get_or l j d))) (sym (zero-add i)) t)

  none-choice : (f : A → Bool) (k : ℕ) (x : A) (l : List A) (b : Bool) → f x ≡ b
      → (places_from f (suc k) l ≡ [] → Every (λ y. f y ≡ false) l)
      → ◌≡◌ {A = List ℕ} (elim b [ true ↦ k ∷ places_from f (suc k) l | false ↦ places_from f (suc k) l ]) [] → Every (λ y. f y ≡ false) (x ∷ l)
  none-choice f k x l true p r e = absurd (cons≢nil e)
  none-choice f k x l false p r e = every-cons (p, r e)

  -- where there is no such place, no element passes
  pub places-none : (f : A → Bool) (k : ℕ) (l : List A) → places_from f k l ≡ [] → Every (λ x. f x ≡ false) l
  unfolding places_from
  places-none f k [] e = every-nil (λ x. f x ≡ false)
  places-none f k (x ∷ l) e = none-choice f k x l (f x) refl (places-none f (suc k) l) e

  first-choice : (f : A → Bool) (y : A) (l : List A) (b : Bool) {x : A} → f y ≡ b
      → (first f l ≡ some x → Memᴰ x l × T (f x))
      → elim b [ true ↦ some y | false ↦ first f l ] ≡ some x → Memᴰ x (y ∷ l) × T (f x)
  first-choice f y l true {x} p r q = let s : x ≡ y = cc in (Memᴰ.head s, rw (s, p) tt)
  first-choice f y l false p r q = let m = r q in (Memᴰ.tail m.0, m.1)

  -- the first element that passes a test is an element, and passes it
  pub first_found : (f : A → Bool) (l : List A) {x : A} → first f l ≡ some x → Memᴰ x l × T (f x)
  unfolding first
  first_found f [] e = absurd (none-some e)
  first_found f (y ∷ l) e = first-choice f y l (f y) refl (λ q. first_found f l q) e

  missed-choice : (f : A → Bool) (y : A) (l : List A) (b : Bool) → f y ≡ b → (first f l ≡ none → Every (λ x. f x ≡ false) l)
      → ◌≡◌ {A = Option A} (elim b [ true ↦ some y | false ↦ first f l ]) none → Every (λ x. f x ≡ false) (y ∷ l)
  missed-choice f y l true p r q = absurd (none-some (sym q))
  missed-choice f y l false p r q = every-cons (p, r q)

  -- where the search for a first element finds none, no element passes
  pub first-none : (f : A → Bool) (l : List A) → first f l ≡ none → Every (λ x. f x ≡ false) l
  unfolding first
  first-none f [] e = every-nil (λ x. f x ≡ false)
  first-none f (y ∷ l) e = missed-choice f y l (f y) refl (first-none f l) e

  -- and the other way round
  pub first-missed : (f : A → Bool) (l : List A) → Every (λ x. f x ≡ false) l → first f l ≡ none
  unfolding first
  first-missed f [] h = refl
  first-missed f (x ∷ l) h = let g = every-uncons h in rw (g.0, first) (first-missed f l g.1)

-- what every element of many lists joined has, every element of each of them has
pub flat_map-every : {A B : Type 0} {P : B → Type 0} (f : A → List B) (l : List A) → Every P (flat_map f l)
    → Every (λ a. Every P (f a)) l
unfolding flat_map
flat_map-every {P = P} f [] h = every-nil (λ a. Every P (f a))
flat_map-every f (a ∷ l) h =
    every-cons ((λ x m. h x (Memᴰ.append_left (flat_map f l) m)), flat_map-every f l (λ x m. h x (Memᴰ.append_right (f a) m)))
