-- Demand 3, one claim about two whole lists of calls and the overlay after them.
-- Assumes nothing.
use mathlib.Core.Path.{◌≡◌}
use mathlib.Core.Bool.{false}
use mathlib.Core.List.{List, [], ◌∷◌}
use Prim.Native.Nat.{ℕ, ◌≤◌}
use lib.Dec.{T}
use lib.ListN.{length}
use Rattle.theory_lists.specs.Lists.{all}
use Rattle.spec_charts.specs.Edits.{Event, load, sixteen_bit_event, plain_table}
use Rattle.laws_charts.proofs.EventTable.{plain-table}
use Rattle.spec_calls.specs.Buffers.{Chart, too_short, pairs_length}
use Rattle.spec_calls.specs.Calls.{overlay_call}
use Rattle.spec_calls.specs.History.{chart_after}
use Rattle.laws_histories.specs.Histories.{HistoriesOverlaid}
use Rattle.laws_histories.proofs.ChartHistory.{plain_fits, history-chart, history-holds}
use Rattle.laws_histories.proofs.IndexedOverlay.{indexed-overlay}

-- "Take two charts and a pairs list, all in buffers at least as long as document 01 asks, each chart begun by a load of an empty table.
-- Then, for every two lists of loads, splits, take-outs and flips, one for each chart, refused calls included, each chart holds document
-- 01's plain table after the same list, with that table's entries, and the overlay after them answers" by the plain tables, as
-- `HistoriesOverlaid` says. By document 02, wish 4, it is right "after any list of loads, inserts, take-outs and flips": these four are the
-- events, and an insert splits the triangle that it takes, inside or on a side. The charts hold anything at first; all that is asked of the
-- events is that the numbers of a load are 16-bit, as document 01's tables are
pub demand-3 : (c d : Chart) (pairs : List ℕ) → too_short c ≡ false → too_short d ≡ false → pairs_length ≤ length pairs
    → (es fs : List Event) → T (all (λ e. sixteen_bit_event e) es) → T (all (λ f. sixteen_bit_event f) fs)
    → HistoriesOverlaid c d pairs es fs (chart_after (load [] ∷ es) c) (chart_after (load [] ∷ fs) d)
    (overlay_call (chart_after (load [] ∷ es) c) (chart_after (load [] ∷ fs) d) pairs)
demand-3 c d pairs long wide room es fs w v = record {
  first = history-holds c long es w;
  second = history-holds d wide fs v;
  overlaid =
      rw (history-chart c long es w, history-chart d wide fs v)
      (indexed-overlay c d long wide pairs room (plain_table es) (plain_table fs) (plain_fits es w) (plain_fits fs v) (plain-table es w) (plain-table fs v));
}
