-- A chart that begins with a load of the empty table holds the plain table after any events.
-- The idea: the load leaves the chart of the empty table, whatever the buffers and counts held, and each event keeps the chart that
-- of the plain table.
-- Assumes nothing.
use mathlib.Core.Path.{◌≡◌, ◌∙◌, ap}
use mathlib.Core.Bool.{false}
use mathlib.Core.List.{List, [], ◌∷◌}
use Prim.Native.Nat.{◌≤◌}
use native.Mathlib.Omega.{arith}
use lib.Dec.{T}
use lib.ListN.{length}
use Rattle.theory_lists.specs.Lists.{all}
use Rattle.theory_lists.proofs.Reflects.{test-true}
use Rattle.spec_charts.specs.Table.{Table}
use Rattle.spec_charts.specs.Cells.{entries_of, max_entries}
use Rattle.spec_charts.specs.Edits.{Event, load, sixteen_bit_event, event_on, after_event, after_events, plain_table}
use Rattle.spec_charts.proofs.Evaluate.{evaluate}
use Rattle.laws_charts.proofs.EventTable.{plain-table}
use Rattle.spec_calls.specs.Buffers.{Chart, too_short, chart_table, chart_entries, indexed_chart}
use Rattle.spec_calls.specs.Calls.{changed_by, if_long, load_call}
use Rattle.spec_calls.specs.History.{event_call, chart_after}
use Rattle.laws_calls.proofs.IndexedLaws.{indexed-table, indexed-entries}
use Rattle.laws_calls.proofs.OverwriteLaws.{Indexable, after_small}
use Rattle.laws_calls.proofs.HistoryLaws.{events-chart}
use Rattle.laws_histories.specs.Histories.{HoldsTable}

-- the entries of the empty table are few
empty-small : length (entries_of []) ≤ max_entries
unfolding evaluate
empty-small = omega arith

-- so they stay few
after-few : (es : List Event) (t : Table) → length (entries_of t) ≤ max_entries → length (entries_of (after_events es t)) ≤ max_entries
unfolding after_events after_event event_on
after-few [] t h = h
after-few (e ∷ es) t h = after-few es (after_event e t) (after_small e t h)

-- the plain table can be held by a chart
pub plain_fits : (es : List Event) → T (all (λ e. sixteen_bit_event e) es) → Indexable (plain_table es)
unfolding plain_table
plain_fits es w =
    let t = plain-table es w in
    record { few = t.few; oriented = test-true t.oriented; small = after-few es [] empty-small }

pub empty-fits : Indexable []
unfolding plain_table after_events all
empty-fits = plain_fits [] tt

-- a load of the empty table is accepted, whatever the chart held
pub load-empty : (c : Chart) → too_short c ≡ false → (event_call (load []) c).chart ≡ indexed_chart c []
unfolding evaluate event_call load_call if_long changed_by
load-empty c s = rw s

-- the chart is that of the plain table, whole
pub history-chart : (c : Chart) → too_short c ≡ false → (es : List Event) → T (all (λ e. sixteen_bit_event e) es)
    → chart_after (load [] ∷ es) c ≡ indexed_chart c (plain_table es)
unfolding chart_after plain_table after_events all
history-chart c s es w =
    ap (chart_after es) (load-empty c s) ∙ events-chart c s [] (plain-table [] tt) empty-small es w

-- so the plain table and its entries are read from it
pub history-holds : (c : Chart) → too_short c ≡ false → (es : List Event) → T (all (λ e. sixteen_bit_event e) es)
    → HoldsTable c (chart_after (load [] ∷ es) c) (plain_table es)
history-holds c s es w =
    let e = history-chart c s es w in
    record {
      is = e;
      table = ap chart_table e ∙ indexed-table c (plain_table es);
      entries = ap chart_entries e ∙ indexed-entries c (plain_table es);
    }
