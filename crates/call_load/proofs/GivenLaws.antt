-- What becomes of the numbers given to a load, test after test: refusal 4, refusal 5, or the table.
-- The idea: the tests are those of `load_table` in its order, so each one settles one row of it.
-- Assumes nothing.
use mathlib.Core.Path.{◌≡◌, refl, sym, ◌∙◌, ap}
use mathlib.Core.Bool.{Bool, true, false, not, ◌||◌}
use mathlib.Core.List.{List}
use Prim.Native.Nat.{ℕ, ◌/◌, ◌%◌, ◌≤◌, ◌<◌}
use native.Mathlib.Decide.{dec_le}
use native.Mathlib.Omega.{arith}
use borrow.Author.Tests.{ltb-false}
use lib.Dec.{ltb, eqb}
use lib.ListN.{length}
use Rattle.theory_lists.specs.Lists.{all}
use Rattle.theory_lists.proofs.Reflects.{or-neither}
use Rattle.spec_plane.specs.Triangle.{proper}
use Rattle.spec_charts.specs.Table.{numbers_per_triangle, table_length}
use Rattle.spec_charts.specs.declared.Refusal.{Refusal}
use Rattle.spec_charts.specs.declared.Refusal.TheVariants.{BadLength, FaultyTriangle}
use Rattle.spec_charts.specs.Refusals.{Outcome, refused, done, refuse_if, and_then}
use Rattle.spec_charts.specs.Edits.{load_table, given_table}
use Rattle.laws_charts.proofs.OutcomeLaws.{refused-done}
use Rattle.laws_charts.proofs.TableLaws.{table_of-length}
use Rattle.call_load.specs.Faulty.{first_faulty}
use Rattle.call_load.proofs.FaultyLaws.{faulty-none, faulty-done, faulty-refused}

-- the length is no multiple of 6, or above that of a full table
abbrev pub length_test : List ℕ → Bool
length_test ns = not (eqb (length ns % numbers_per_triangle) 0) || ltb table_length (length ns)

-- refusals 4 and 5 by themselves
abbrev pub judged_given : List ℕ → Outcome (Unit {0})
judged_given ns = and_then (load_table ns) (λ t. done (tt {0}))

module _ (ns : List ℕ) where
  given-count : length (given_table ns) ≡ length ns / numbers_per_triangle
  unfolding given_table
  given-count = table_of-length ns (length ns / numbers_per_triangle)

  -- refusal 4
  pub given-length : length_test ns ≡ true → load_table ns ≡ refused BadLength
  unfolding load_table refuse_if
  given-length b = rw b

  module _ (b : length_test ns ≡ false) where
    -- a length that passes is at most that of a full table
    pub given-few : length ns ≤ table_length
    given-few = ltb-false table_length (length ns) (or-neither (not (eqb (length ns % numbers_per_triangle) 0)) (ltb table_length (length ns)) b).1

    -- refusal 5
    pub given-faulty : first_faulty (given_table ns) < length ns / numbers_per_triangle → load_table ns ≡ refused (FaultyTriangle (first_faulty (given_table ns)))
    unfolding load_table refuse_if
    given-faulty h = rw (b, faulty-refused (given_table ns) (omega (arith, given-count)))

    module _ (h : length ns / numbers_per_triangle ≤ first_faulty (given_table ns)) where
      past-last : length (given_table ns) ≤ first_faulty (given_table ns)
      past-last = omega (arith, given-count)

      -- else the table
      pub given-done : load_table ns ≡ done (given_table ns)
      unfolding load_table refuse_if
      given-done = rw (b, faulty-done (given_table ns) past-last)

      given-proper : all (λ t. proper t) (given_table ns) ≡ true
      given-proper = faulty-none (given_table ns) past-last

-- what the numbers have that neither 4 nor 5 refuses
pub record Accepted (ns : List ℕ) : Type 0 where
  pub few : length ns ≤ table_length
  pub made : load_table ns ≡ done (given_table ns)
  pub oriented : all (λ t. proper t) (given_table ns) ≡ true

module _ (ns : List ℕ) (e : done (tt {0}) ≡ judged_given ns) where
  not-refused : (r : Refusal) → load_table ns ≡ refused r → ⊥
  unfolding and_then
  not-refused r h = refused-done (sym (e ∙ ap (λ o. and_then o (λ t. done (tt {0}))) h))

  pub given-accepted : Accepted ns
  given-accepted = whole (length_test ns) refl
    where
      whole : (b : Bool) → length_test ns ≡ b → Accepted ns
      whole true b = absurd (not-refused BadLength (given-length ns b))
      whole false b = elim (dec_le (length ns / numbers_per_triangle) (first_faulty (given_table ns))) [
        | yes h ↦ record { few = given-few ns b; made = given-done ns b h; oriented = given-proper ns b h }
        | no h ↦ absurd (not-refused (FaultyTriangle (first_faulty (given_table ns))) (given-faulty ns b (omega arith)))
      ]
