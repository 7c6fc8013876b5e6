-- Lists of events on an indexed chart: they leave the chart of the table after all of them. Buffers that are too short stay as they are.
-- Assumes nothing.
use mathlib.Core.Path.{◌≡◌, refl, sym, ◌∙◌, ap}
use mathlib.Core.Bool.{true, false}
use mathlib.Core.List.{List, [], ◌∷◌, foldl}
use Prim.Native.Nat.{◌≤◌}
use lib.Dec.{T}
use lib.ListN.{length}
use Rattle.theory_lists.specs.Lists.{all}
use Rattle.theory_lists.proofs.Reflects.{reflects-test, test-true}
use Rattle.theory_lists.proofs.ListsLaws.{all-reflects}
use Rattle.theory_lists.proofs.FoldLaws.{fold-related}
use Rattle.spec_charts.specs.Table.{Table, IsTable}
use Rattle.spec_charts.specs.Cells.{entries_of, max_entries}
use Rattle.spec_charts.specs.Edits.{Event, load, insert, take_out, flip, sixteen_bit_event, after_event, after_events}
use Rattle.spec_charts.specs.Refusals.{refuse_if}
use Rattle.laws_charts.proofs.EventTable.{after-event-table}
use Rattle.spec_calls.specs.Buffers.{Chart, too_short, indexed_chart}
use Rattle.spec_calls.specs.Calls.{changed_by, if_long, if_indexed, load_call}
use Rattle.spec_calls.specs.History.{event_call, chart_after}
use Rattle.laws_calls.proofs.JudgeLaws.{judged-short}
use Rattle.laws_calls.proofs.OverwriteLaws.{Indexable, after_small}
use Rattle.laws_calls.proofs.EditCalls.{edit-refused, event-chart}

-- the chart d is that of t in the buffers of c, and t is a table whose entries fit
record Holds (c d : Chart) (t : Table) : Type 0 where
  pub is : d ≡ indexed_chart c t
  pub table : IsTable t
  pub small : length (entries_of t) ≤ max_entries

module _ (c : Chart) (s : too_short c ≡ false) where
  -- an event keeps that
  event-holds : (e : Event) (d : Chart) (t : Table) → T (sixteen_bit_event e) → Holds c d t → Holds c (event_call e d).chart (after_event e t)
  event-holds e d t w h =
      let f : Indexable t = record { few = h.table.few; oriented = test-true h.table.oriented; small = h.small } in
      record {
        is = ap (λ d. (event_call e d).chart) h.is ∙ event-chart c s t f e;
        table = after-event-table e t w h.table;
        small = after_small e t h.small;
      }

-- both histories are folds
chart-fold : (es : List Event) (c : Chart) → chart_after es c ≡ foldl (λ d e. (event_call e d).chart) c es
unfolding chart_after
chart-fold [] c = refl
chart-fold (e ∷ es) c = chart-fold es (event_call e c).chart

table-fold : (es : List Event) (t : Table) → after_events es t ≡ foldl (λ u e. after_event e u) t es
unfolding after_events
table-fold [] t = refl
table-fold (e ∷ es) t = table-fold es (after_event e t)

-- after any events with 16-bit numbers the chart is that of the plain table after them
pub events-chart : (c : Chart) → too_short c ≡ false → (t : Table) → IsTable t → length (entries_of t) ≤ max_entries
    → (es : List Event) → T (all (λ e. sixteen_bit_event e) es) → chart_after es (indexed_chart c t) ≡ indexed_chart c (after_events es t)
events-chart c s t g small es w =
    let words = (all-reflects (λ e. sixteen_bit_event e) (λ e. reflects-test (sixteen_bit_event e)) es).to w in
    let h = fold-related (Holds c) (λ e. T (sixteen_bit_event e)) (λ d e. (event_call e d).chart) (λ u e. after_event e u)
    (event-holds c s) es (indexed_chart c t) t words (record { is = refl; table = g; small = small }) in
    chart-fold es (indexed_chart c t) ∙ h.is ∙ ap (indexed_chart c) (sym (table-fold es t))

-- no event changes a chart whose buffers are too short
event-short : (c : Chart) → too_short c ≡ true → (e : Event) → (event_call e c).chart ≡ c
unfolding event_call load_call if_indexed if_long refuse_if changed_by
event-short c s (load ns) = rw s
event-short c s (insert p) = ap (λ d. d.chart) (sym (edit-refused c (insert p) (sym (judged-short c _ s))))
event-short c s (take_out p) = ap (λ d. d.chart) (sym (edit-refused c (take_out p) (sym (judged-short c _ s))))
event-short c s (flip i j) = ap (λ d. d.chart) (sym (edit-refused c (flip i j) (sym (judged-short c _ s))))

-- nor does a list of events
pub events-short : (c : Chart) → too_short c ≡ true → (es : List Event) → chart_after es c ≡ c
unfolding chart_after
events-short c s [] = refl
events-short c s (e ∷ es) = ap (chart_after es) (event-short c s e) ∙ events-short c s es
