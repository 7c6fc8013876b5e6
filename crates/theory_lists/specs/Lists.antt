-- Lists and tests on their elements.
-- Assumes nothing.
use Rattle.std.specs.Prelude.{◌≡◌, Bool, true, false, cond, List, [], ◌∷◌, ◌++◌, ℕ, zero, suc, ◌+◌, ◌-◌, ◌≤◌, take, drop}
use Rattle.std.proofs.Math.Option.{Option, none, some}

module _ {ℓ} {A : Type ℓ} where
  -- every element passes the test
  unfoldable pub all : (A → Bool) → List A → Bool
  all f [] = true
  all f (x ∷ xs) = elim (f x) [ true ↦ all f xs | false ↦ false ]

  -- some element passes the test
  unfoldable pub any : (A → Bool) → List A → Bool
  any f [] = false
  any f (x ∷ xs) = elim (f x) [ true ↦ true | false ↦ any f xs ]

  -- the elements that pass the test, in their order
  unfoldable pub filter : (A → Bool) → List A → List A
  filter f [] = []
  filter f (x ∷ xs) = elim (f x) [ true ↦ x ∷ filter f xs | false ↦ filter f xs ]

  -- the first element that passes the test, if there is one
  unfoldable pub first : (A → Bool) → List A → Option A
  first f [] = none
  first f (x ∷ xs) = elim (f x) [ true ↦ some x | false ↦ first f xs ]

  -- how many elements at the start pass the test
  unfoldable pub prefix_length : (A → Bool) → List A → ℕ
  prefix_length f [] = 0
  prefix_length f (x ∷ xs) = elim (f x) [ true ↦ suc (prefix_length f xs) | false ↦ 0 ]

  -- the places of the elements that pass the test, ascending, where the first element has place k
  unfoldable pub places_from : (A → Bool) → ℕ → List A → List ℕ
  places_from f k [] = []
  places_from f k (x ∷ xs) = elim (f x) [ true ↦ k ∷ places_from f (suc k) xs | false ↦ places_from f (suc k) xs ]

  -- the list of one element where the test passes, else the empty list
  abbrev pub only : Bool → A → List A
  only b x = cond b (x ∷ []) []

  -- the elements from place f up to place t
  abbrev pub part : ℕ → ℕ → List A → List A
  part f t l = take (t - f) (drop f l)

  -- the list without the element at place i
  unfoldable pub without : ℕ → List A → List A
  without i l = take i l ++ drop (suc i) l

  -- the sum of f over the list
  unfoldable pub sum_of : (A → ℕ) → List A → ℕ
  sum_of f [] = 0
  sum_of f (x ∷ xs) = f x + sum_of f xs

-- n numbers from k on: k, k + 1, ..
unfoldable pub count_from : ℕ → ℕ → List ℕ
count_from k zero = []
count_from k (suc n) = k ∷ count_from (suc k) n

-- 0, 1, .., n - 1
unfoldable pub up_to : ℕ → List ℕ
up_to n = count_from 0 n

-- the first c numbers of a list are the numbers below j that pass a test
pub record Compacted (f : ℕ → Bool) (list : List ℕ) (j c : ℕ) : Type 0 where
  pub few : c ≤ j
  pub listed : take c list ≡ filter f (up_to j)
