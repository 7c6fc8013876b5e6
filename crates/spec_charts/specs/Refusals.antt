-- Document 01, "Numbers a call can give", with document 02's numbers: the table of numbers, and answers that are checked in its order.
-- The rows themselves are the cases of `Refusal`, which code shares.
-- Assumes nothing.
use Rattle.std.specs.Prelude.{Bool, true, false, ℕ}
use Rattle.spec_charts.specs.declared.Refusal.{Refusal}
use Rattle.spec_charts.specs.declared.Refusal.TheVariants.{ShortBuffer, BrokenChain, StaleEntries, BadLength, FaultyTriangle, NoSuchTriangle, NoHolder, NotThreeAround, NoFlip, TableFull, TooManyEntries, TooManyPairs, AtCorner, EmptyWindow}

-- what a row returns: its number, and the number beside it
pub record Row : Type 0 where
  pub number : ℕ
  pub value : ℕ

-- a row with nothing beside its number: "Other numbers returned are 0"
abbrev pub alone : ℕ → Row
alone n = record { number = n; value = 0 }

-- the table of numbers; "5, lowest such triangle"
abbrev pub row_of : Refusal → Row
row_of ShortBuffer = alone 1
row_of BrokenChain = alone 2
row_of StaleEntries = alone 3
row_of BadLength = alone 4
row_of (FaultyTriangle i) = record { number = 5; value = i }
row_of NoSuchTriangle = alone 6
row_of NoHolder = alone 7
row_of NotThreeAround = alone 8
row_of NoFlip = alone 9
row_of TableFull = alone 10
row_of TooManyEntries = alone 11
row_of TooManyPairs = alone 12
row_of AtCorner = alone 14
row_of EmptyWindow = alone 15

-- what a call or an event comes to: a refusal, or what it is done with
pub data Outcome {ℓ} (A : Type ℓ) : Type ℓ where
  refused : Refusal → Outcome A
  done : A → Outcome A

module _ {ℓ} {A : Type ℓ} where
  -- one row of the table of numbers: refused when the test holds, else whatever the rows below give
  unfoldable pub refuse_if : Bool → Refusal → Outcome A → Outcome A
  refuse_if true r next = refused r
  refuse_if false r next = next

  -- the rows below go on with what the rows above are done with
  unfoldable pub and_then {κ} : {B : Type κ} → Outcome A → (A → Outcome B) → Outcome B
  and_then (refused r) next = refused r
  and_then (done a) next = next a

  -- 0 with 0 beside it, or the refusal's row
  abbrev pub outcome_row : Outcome A → Row
  outcome_row (refused r) = row_of r
  outcome_row (done a) = alone 0

  -- 0, or the refusal's number
  abbrev pub outcome_number : Outcome A → ℕ
  outcome_number o = (outcome_row o).number

  -- the refusal's number beside it, or 0
  abbrev pub outcome_value : Outcome A → ℕ
  outcome_value o = (outcome_row o).value

  -- what it is done with, or else what there was before
  abbrev pub done_or : A → Outcome A → A
  done_or before (refused r) = before
  done_or before (done a) = a
