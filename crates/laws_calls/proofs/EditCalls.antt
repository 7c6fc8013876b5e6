-- Loads and edits of an indexed chart: they come to what the event comes to on its table, and leave the chart of the
-- table after it.
-- The idea: an indexed chart passes refusals 1, 2 and 3 and gives back its table.
-- Assumes nothing.
use mathlib.Core.Path.{◌≡◌, ◌∙◌, ap}
use mathlib.Core.Bool.{true, false}
use mathlib.Core.List.{List}
use Prim.Native.Nat.{ℕ}
use Rattle.spec_charts.specs.Table.{Table}
use Rattle.spec_charts.specs.declared.Refusal.{Refusal}
use Rattle.spec_charts.specs.Refusals.{refused, done, refuse_if, and_then, outcome_number, outcome_value}
use Rattle.spec_charts.specs.Edits.{Event, load, insert, take_out, flip, event_on, after_event}
use Rattle.spec_calls.specs.Buffers.{Chart, too_short, chart_table, indexed_chart}
use Rattle.spec_calls.specs.Calls.{changed_by, if_long, if_indexed, load_call, edit_call}
use Rattle.spec_calls.specs.History.{event_call}
use Rattle.laws_calls.proofs.JudgeLaws.{indexed-then, indexed-refused, indexed-passes}
use Rattle.laws_calls.proofs.IndexedLaws.{Editable, indexed-table, indexed-editable}
use Rattle.laws_calls.proofs.OverwriteLaws.{Indexable, changed-number, changed-value, changed-chart}

-- an edit of any chart, by what judging the chart finds
module _ (c : Chart) (e : Event) where
  -- a refusal
  pub edit-refused : {r : Refusal} → refused r ≡ if_indexed c (done (tt {0})) → changed_by c (refused r) ≡ edit_call e c
  unfolding edit_call
  edit-refused h = ap (changed_by c) (indexed-refused c (event_on e (chart_table c)) h)

  -- or nothing: then what the event comes to on the chart's table
  pub edit-judged : done (tt {0}) ≡ if_indexed c (done (tt {0})) → changed_by c (event_on e (chart_table c)) ≡ edit_call e c
  unfolding edit_call and_then
  edit-judged h =
      let next = event_on e (chart_table c) in
      ap (λ o. changed_by c (and_then o (λ b. next))) h ∙ ap (changed_by c) (indexed-then c next)

module _ (c : Chart) (s : too_short c ≡ false) (t : Table) (h : Indexable t) where
  editable : Editable (indexed_chart c t)
  editable = indexed-editable c t h.few h.small s h.oriented

  load-call : (ns : List ℕ) → load_call ns (indexed_chart c t) ≡ changed_by (indexed_chart c t) (event_on (load ns) t)
  unfolding load_call if_long refuse_if
  load-call ns = rw (editable.long, indexed-table c t)

  edit-call : (e : Event) → edit_call e (indexed_chart c t) ≡ changed_by (indexed_chart c t) (event_on e t)
  unfolding edit_call
  edit-call e =
      let d = indexed_chart c t in
      ap (changed_by d) (indexed-passes d (event_on e (chart_table d)) editable.long editable.chained editable.same
      ∙ ap (event_on e) (indexed-table c t))

  -- the call of an event comes to what the event comes to on the table
  pub event-call : (e : Event) → event_call e (indexed_chart c t) ≡ changed_by (indexed_chart c t) (event_on e t)
  unfolding event_call
  event-call (load ns) = load-call ns
  event-call (insert p) = edit-call (insert p)
  event-call (take_out p) = edit-call (take_out p)
  event-call (flip i j) = edit-call (flip i j)

  module _ (e : Event) where
    -- it leaves the chart of the table after the event
    pub event-chart : (event_call e (indexed_chart c t)).chart ≡ indexed_chart c (after_event e t)
    unfolding after_event
    event-chart = ap (λ d. d.chart) (event-call e) ∙ changed-chart c t (event_on e t) h

    -- and gives the event's number
    pub event-number : (event_call e (indexed_chart c t)).number ≡ outcome_number (event_on e t)
    event-number = ap (λ d. d.number) (event-call e) ∙ changed-number (indexed_chart c t) (event_on e t)

    -- and its value
    pub event-value : (event_call e (indexed_chart c t)).value ≡ outcome_value (event_on e t)
    event-value = ap (λ d. d.value) (event-call e) ∙ changed-value (indexed_chart c t) (event_on e t)
