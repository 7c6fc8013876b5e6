-- Examples of the definitions.
-- Assumes nothing.
use mathlib.Core.Path.{◌≡◌, refl}
use mathlib.Core.Bool.{Bool, true, false, not}
use mathlib.Core.List.{[], ◌∷◌, map}
use mathlib.Core.Option.{none, some}
use Prim.Native.Nat.{ℕ}
use native.Mathlib.Omega.{arith}
use lib.Dec.{ltb, eqb}
use Rattle.theory_lists.specs.Lists.{all, any, filter, first, prefix_length, places_from, only, part, without, sum_of, count_from, up_to, Compacted}
use Rattle.theory_lists.specs.Masks.{bit, mask_of, masked}

abbrev large : ℕ → Bool
large n = ltb 4 n

tests-example : map (λ l. all large l) ((5 ∷ 9 ∷ []) ∷ (5 ∷ 4 ∷ []) ∷ []) ≡ true ∷ false ∷ []
unfolding all
tests-example = refl

any-example : map (λ l. any large l) ((3 ∷ 9 ∷ []) ∷ (1 ∷ 4 ∷ []) ∷ []) ≡ true ∷ false ∷ []
unfolding any
any-example = refl

filter-example : filter large (9 ∷ 1 ∷ 5 ∷ 7 ∷ 4 ∷ []) ≡ 9 ∷ 5 ∷ 7 ∷ []
unfolding filter
filter-example = refl

first-example : map (λ l. first large l) ((1 ∷ 7 ∷ 9 ∷ []) ∷ (1 ∷ 2 ∷ []) ∷ []) ≡ some 7 ∷ none ∷ []
unfolding first
first-example = refl

prefix-example : map (λ l. prefix_length large l) ((9 ∷ 5 ∷ 1 ∷ 7 ∷ []) ∷ (1 ∷ 9 ∷ []) ∷ (6 ∷ 8 ∷ 7 ∷ []) ∷ []) ≡ 2 ∷ 0 ∷ 3 ∷ []
unfolding prefix_length
prefix-example = refl

places-example : places_from large 3 (9 ∷ 1 ∷ 5 ∷ 7 ∷ 4 ∷ []) ≡ 3 ∷ 5 ∷ 6 ∷ []
unfolding places_from
places-example = refl

only-example : map (λ b. only {A = ℕ} b 7) (true ∷ false ∷ []) ≡ (7 ∷ []) ∷ [] ∷ []
only-example = refl

part-example : part {A = ℕ} 1 3 (9 ∷ 1 ∷ 5 ∷ 7 ∷ []) ≡ 1 ∷ 5 ∷ []
part-example = refl

without-example : without {A = ℕ} 1 (9 ∷ 1 ∷ 5 ∷ []) ≡ 9 ∷ 5 ∷ []
unfolding without
without-example = refl

sum-example : sum_of (λ n. n) (9 ∷ 1 ∷ 5 ∷ []) ≡ 15
unfolding sum_of
sum-example = refl

up_to-example : up_to 4 ≡ 0 ∷ 1 ∷ 2 ∷ 3 ∷ []
unfolding up_to count_from
up_to-example = refl

-- of the numbers below 3, only 1 fails: the list holds 0 and 2, and what stands after them does not matter
compacted-example : Compacted (λ n. not (eqb n 1)) (0 ∷ 2 ∷ 9 ∷ []) 3 2
unfolding filter up_to count_from
compacted-example = record { few = omega arith; listed = refl }

bit-example : map (λ b. bit b) (true ∷ false ∷ []) ≡ 1 ∷ 0 ∷ []
bit-example = refl

mask-example : mask_of (true ∷ false ∷ true ∷ true ∷ []) ≡ 13
unfolding mask_of
mask-example = refl

masked-example : masked {A = ℕ} 13 (9 ∷ 1 ∷ 5 ∷ 7 ∷ []) ≡ 9 ∷ 5 ∷ 7 ∷ []
unfolding masked
masked-example = refl
