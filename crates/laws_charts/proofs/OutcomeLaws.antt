-- What an outcome that is done has passed: each row of the table of numbers only refuses.
-- Assumes nothing.
use mathlib.Core.Path.{◌≡◌, refl}
use mathlib.Core.Bool.{Bool, true, false, not}
use Prim.Native.Nat.{ℕ, ◌<◌}
use native.Mathlib.Omega.{arith}
use lib.Dec.{T}
use Rattle.spec_charts.specs.declared.Refusal.{Refusal}
use Rattle.spec_charts.specs.declared.Refusal.TheVariants.{ShortBuffer, BrokenChain, StaleEntries, BadLength, FaultyTriangle, NoSuchTriangle, NoHolder, NotThreeAround, NoFlip, TableFull, TooManyEntries, TooManyPairs, AtCorner, EmptyWindow}
use Rattle.spec_charts.specs.Refusals.{row_of, outcome_number, Outcome, refused, done, refuse_if}

module _ {A : Type 0} where
  -- a refusal is not done
  pub refused-done : {r : Refusal} {a : A} → refused r ≡ done a → ⊥
  refused-done e = let z : ◌≡◌ {A = ℕ} 0 1 = cc in omega arith

  -- what is done is one thing
  pub done-same : {a b : A} → done a ≡ done b → a ≡ b
  done-same e = cc

  -- a row that is passed
  pub refuse_if-done : (b : Bool) (r : Refusal) {o : Outcome A} {a : A} → refuse_if b r o ≡ done a → (T b → ⊥) × (o ≡ done a)
  unfolding refuse_if
  refuse_if-done true r e = absurd (refused-done e)
  refuse_if-done false r e = ((λ t. t), e)

-- no row has the number 0
pub row-positive : (r : Refusal) → 0 < (row_of r).number
row-positive ShortBuffer = omega arith
row-positive BrokenChain = omega arith
row-positive StaleEntries = omega arith
row-positive BadLength = omega arith
row-positive (FaultyTriangle i) = omega arith
row-positive NoSuchTriangle = omega arith
row-positive NoHolder = omega arith
row-positive NotThreeAround = omega arith
row-positive NoFlip = omega arith
row-positive TableFull = omega arith
row-positive TooManyEntries = omega arith
row-positive TooManyPairs = omega arith
row-positive AtCorner = omega arith
row-positive EmptyWindow = omega arith

-- so what gives 0 is done
pub zero-done : {A : Type 0} (o : Outcome A) → outcome_number o ≡ 0 → (a : A) × (o ≡ done a)
zero-done (refused r) z = let p = row-positive r in absurd (omega arith)
zero-done (done a) z = (a, refl)

-- a test that is not failed is passed
pub passed : (b : Bool) → (T (not b) → ⊥) → T b
passed true n = tt
passed false n = n tt
