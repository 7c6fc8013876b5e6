-- Examples of Refusals.antt: every row of the table of numbers.
-- Assumes nothing.
use mathlib.Core.Path.{◌≡◌, refl}
use mathlib.Core.Bool.{true, false}
use mathlib.Core.List.{List, [], ◌∷◌, map}
use Prim.Native.Nat.{ℕ, suc}
use Rattle.spec_charts.specs.declared.Refusal.{Refusal}
use Rattle.spec_charts.specs.declared.Refusal.TheVariants.{ShortBuffer, BrokenChain, StaleEntries, BadLength, FaultyTriangle, NoSuchTriangle, NoHolder, NotThreeAround, NoFlip, TableFull, TooManyEntries, TooManyPairs, AtCorner, EmptyWindow}
use Rattle.spec_charts.specs.Refusals.{row_of, Outcome, refused, done, refuse_if, and_then, outcome_number, outcome_value, done_or}
use Rattle.spec_charts.proofs.Evaluate.{evaluate}

-- the rows in the order of document 01, and document 02's
abbrev pub rows : List Refusal
rows =
    ShortBuffer
    ∷ BrokenChain
    ∷ StaleEntries
    ∷ BadLength
    ∷ FaultyTriangle 7
    ∷ NoSuchTriangle
    ∷ NoHolder
    ∷ NotThreeAround
    ∷ NoFlip
    ∷ TableFull
    ∷ TooManyEntries
    ∷ TooManyPairs
    ∷ AtCorner
    ∷ EmptyWindow
    ∷ []

number-example : map (λ r. (row_of r).number) rows ≡ 1 ∷ 2 ∷ 3 ∷ 4 ∷ 5 ∷ 6 ∷ 7 ∷ 8 ∷ 9 ∷ 10 ∷ 11 ∷ 12 ∷ 14 ∷ 15 ∷ []
unfolding evaluate
number-example = refl

-- the triangle at 5, else 0
value-example : map (λ r. (row_of r).value) rows ≡ 0 ∷ 0 ∷ 0 ∷ 0 ∷ 7 ∷ 0 ∷ 0 ∷ 0 ∷ 0 ∷ 0 ∷ 0 ∷ 0 ∷ 0 ∷ 0 ∷ []
unfolding evaluate
value-example = refl

-- outcomes of numbers: done with 3, and refused
abbrev three : Outcome ℕ
three = done 3

abbrev full : Outcome ℕ
full = refused TableFull

-- a row refuses when its test holds, else the rows below speak
row-example : refuse_if true NoFlip three ∷ refuse_if false NoFlip three ∷ refuse_if false NoFlip full ∷ [] ≡ refused NoFlip ∷ three ∷ full ∷ []
unfolding evaluate
row-example = refl

-- the first refusal stays; what is done is passed on
then-example : and_then full (λ n. done (suc n)) ∷ and_then three (λ n. done (suc n)) ∷ and_then three (λ n. refused NoFlip) ∷ []
    ≡ full ∷ done 4 ∷ refused NoFlip ∷ []
unfolding evaluate
then-example = refl

outcome-example :
    outcome_number {A = ℕ} (refused (FaultyTriangle 7))
    ∷ outcome_value {A = ℕ} (refused (FaultyTriangle 7))
    ∷ outcome_number full
    ∷ outcome_value full
    ∷ outcome_number three
    ∷ outcome_value three
    ∷ []
    ≡ 5 ∷ 7 ∷ 10 ∷ 0 ∷ 0 ∷ 0 ∷ []
unfolding evaluate
outcome-example = refl

done-example : done_or {A = ℕ} 8 full ∷ done_or {A = ℕ} 8 three ∷ [] ≡ 8 ∷ 3 ∷ []
unfolding evaluate
done-example = refl
