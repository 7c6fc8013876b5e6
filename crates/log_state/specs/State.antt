-- What the buffers of the command program hold of its state, and what its commands print of the answers of calls.
-- Assumes nothing.
use Rattle.std.specs.Prelude.{◌≡◌, false, cond, List, [], ◌∷◌, ◌++◌, ℕ, zero, suc, eqb}
use Rattle.spec_charts.specs.Table.{Table}
use Rattle.spec_calls.specs.Buffers.{Chart, too_short, indexed_chart}
use Rattle.spec_calls.specs.Calls.{Located, Overlaid}
use Rattle.laws_calls.proofs.OverwriteLaws.{Indexable}
use Rattle.spec_log.specs.Log.{State, Step, line, located_numbers}
use Rattle.log_lines.specs.Bytes.{Wrote, pair_lines}

-- the chart d holds the table t: it is the chart of t in buffers that are long enough
pub record Holding (d : Chart) (t : Table) : Type 0 where
  pub buffers : Chart
  pub long : too_short buffers ≡ false
  pub is : d ≡ indexed_chart buffers t
  pub fits : Indexable t

-- both charts hold the tables of the state
pub record Charts (s : State) (d e : Chart) : Type 0 where
  pub first : Holding d s.chart0
  pub second : Holding e s.chart1

-- the chart that a command names by c
unfoldable pub chart_in : ℕ → Chart → Chart → Chart
chart_in zero d e = d
chart_in (suc c) d e = e

-- a step was made: what it prints is written, and both charts hold the tables after it
pub record Ran (st : Step) (at next : ℕ) (before after : List ℕ) (d e : Chart) : Type 0 where
  pub wrote : Wrote st.printed at next before after
  pub charts : Charts st.after d e

-- the numbers that commands 2 to 5 print after their own, from the number, the value and the entry count of their call
unfoldable pub told_numbers : ℕ → ℕ → ℕ → List ℕ
told_numbers number value entries = cond (eqb number 0) (0 ∷ entries ∷ []) (number ∷ cond (eqb number 5) (value ∷ []) [])

-- the line of command 6, from the answer of locate
unfoldable pub located_line : Located → List ℕ
located_line l = line 6 (l.number ∷ located_numbers l.found l.position)

-- the lines of command 7, from the answer of the overlay
unfoldable pub overlaid_lines : Overlaid → List ℕ
overlaid_lines o =
    cond (eqb o.number 0) (line 7 (0 ∷ o.pair_count ∷ o.meets ∷ []) ++ pair_lines o.pairs o.pair_count) (line 7 (o.number ∷ []))
