-- What the statement of demand 3 says where the tables are written out, and what it rules out: an example for each of its fields.
-- Assumes nothing.
use mathlib.Core.Path.{◌≡◌, subst, ap, ◌∙◌}
use mathlib.Core.List.{List, [], ◌∷◌, ◌++◌, Memᴰ}
use mathlib.Core.Logic.{inl, inr}
use Prim.Native.Nat.{ℕ, ◌+◌, ◌≤◌}
use native.Mathlib.Nat.{le_refl}
use native.Mathlib.Omega.{arith}
use lib.IntN.{pos}
use lib.ListN.{get_or, replicate}
use Rattle.spec_charts.specs.Table.{Table}
use Rattle.spec_charts.specs.Edits.{load, insert}
use Rattle.spec_charts.proofs.Written.{at}
use Rattle.spec_charts.specs.Overlay.{Pair, pair, Earlier, SharesGround}
use Rattle.spec_calls.specs.Buffers.{Chart, chart_table, chart_entries}
use Rattle.spec_calls.specs.Calls.{Overlaid}
use Rattle.spec_calls.proofs.Evaluate.{evaluate}
use Rattle.spec_calls.proofs.CallExamples.{numbers_u}
use Rattle.laws_calls.proofs.LongBufferExamples.{numbers_a, dirty, indexed_a}
use Rattle.laws_histories.specs.Histories.{overlay_answer, TablesOverlaid, HoldsTable, HistoriesOverlaid}
use Rattle.laws_histories.proofs.Examples.{corner, two}

-- ---- the overlay of two tables, in a pairs list that held sevens

module _ (o : Overlaid) (h : TablesOverlaid corner two (replicate 8193 7) o) where
  -- 0 and 1 share the point (10000,41000), so they are listed
  shared-listed-example : Memᴰ (pair 0 1) h.shared
  unfolding evaluate
  shared-listed-example =
      let g : SharesGround corner two 0 1 = record {
        first = omega arith;
        second = omega arith;
        common = record { point = record { X = pos 10000; Y = pos 41000; W = 1 }; above = omega arith; first = tt; second = tt };
      } in (h.exactly 0 1).1 g

  -- the first table has no triangle 1, so no pair with it is listed
  unshared-left-out-example : Memᴰ (pair 1 0) h.shared → ⊥
  unshared-left-out-example m = let g : SharesGround corner two 1 0 = (h.exactly 1 0).0 m in omega (arith, g.first)

  -- of two pairs listed the first is the earlier one
  places : (p q : Pair) → h.shared ≡ p ∷ q ∷ [] → Earlier p q
  places p q e = subst (λ ps. Earlier (get_or ps 0 p) (get_or ps 1 p)) e (h.ascending 0 1 p (le_refl 1) (rw e (le_refl 2)))

  never : (i j k : ℕ) → k ≤ j → Earlier (pair i j) (pair i k) → ⊥
  never i j k b (inl l) = omega arith
  never i j k b (inr l) = omega arith

  -- not in another order, and no pair twice
  descending-example : h.shared ≡ pair 0 1 ∷ pair 0 0 ∷ [] → ⊥
  descending-example e = never 0 1 0 (omega arith) (places (pair 0 1) (pair 0 0) e)

  twice-example : h.shared ≡ pair 0 0 ∷ pair 0 0 ∷ [] → ⊥
  twice-example e = never 0 0 0 (omega arith) (places (pair 0 0) (pair 0 0) e)

  -- the two pairs that share ground, zeros up to 8,192, the place beyond; 22 meetings
  answer-example : h.shared ≡ pair 0 0 ∷ pair 0 1 ∷ []
      → o ≡ record { number = 0; pair_count = 2; meets = 22; pairs = 0 ∷ 0 ∷ 0 ∷ 1 ∷ replicate 8188 0 ++ (7 ∷ []) }
  unfolding evaluate overlay_answer
  answer-example e = h.answer ∙ ap (λ ps. overlay_answer ps 22 (replicate 8193 7)) e

  -- 22 is at most 7 cells plus 19 cells minus 1
  bound-example : 22 + 1 ≤ 7 + 19
  unfolding evaluate
  bound-example = h.bound

-- ---- a chart that holds a table, in buffers one place longer than asked that held sevens

module _ (d : Chart) (h : HoldsTable dirty d two) where
  -- every list and both counts
  held-example : d ≡ indexed_a
  unfolding evaluate
  held-example = h.is

  -- the table and its entries are read from it
  read-example : (chart_table d ≡ two) × (chart_entries d ≡ chart_entries indexed_a)
  unfolding evaluate
  read-example = (h.table, h.entries)

-- ---- two lists of events, with a refused load in each

histories-example : (c d : Chart) (o : Overlaid) (before : List ℕ)
    → HistoriesOverlaid dirty dirty before (load numbers_u ∷ load (1 ∷ []) ∷ []) (load (1 ∷ []) ∷ load numbers_a ∷ []) c d o
    → HoldsTable dirty c corner × (HoldsTable dirty d two × TablesOverlaid corner two before o)
unfolding evaluate
histories-example c d o before h = (h.first, (h.second, h.overlaid))

-- an insert in either list: accepted on a side on the first, and refused, as the point is a corner, on the second
abbrev halves : Table
halves =
    record { a = at 0 0; b = at 32768 0; c = at 0 65535 } ∷ record { a = at 32768 0; b = at 65535 0; c = at 0 65535 } ∷ []

insert-histories-example : (c d : Chart) (o : Overlaid) (before : List ℕ)
    → HistoriesOverlaid dirty dirty before (load numbers_u ∷ insert (at 32768 0) ∷ []) (load numbers_a ∷ insert (at 0 40000) ∷ []) c d o
    → HoldsTable dirty c halves × (HoldsTable dirty d two × TablesOverlaid halves two before o)
unfolding evaluate
insert-histories-example c d o before h = (h.first, (h.second, h.overlaid))
