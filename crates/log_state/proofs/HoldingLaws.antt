-- Calls on charts that hold tables: they answer what document 01 says of the tables, and leave charts that hold the tables after them.
-- The idea: such a chart passes refusals 1, 2 and 3, so a call comes to what its event, locate or overlay comes to on the tables; and no
-- refusal has the number 0, so what is printed is read from the number.
-- Assumes nothing.
use mathlib.Core.Path.{◌≡◌, refl, sym, ◌∙◌, ap}
use mathlib.Core.Bool.{false}
use mathlib.Core.List.{List, [], ◌∷◌, ◌++◌, append_assoc}
use Prim.Native.Nat.{ℕ, ◌-◌, ◌≤◌}
use native.Mathlib.Omega.{arith}
use borrow.Author.Tests.{ne_eqb}
use lib.ListN.{length, drop, replicate}
use Rattle.spec_plane.specs.declared.Point.{Point}
use Rattle.spec_charts.specs.Table.{Table}
use Rattle.spec_charts.specs.Cells.{entries_of}
use Rattle.spec_charts.specs.Refusals.{row_of, Outcome, refused, done, outcome_number, outcome_value, done_or}
use Rattle.spec_charts.specs.Edits.{Event, load, event_on, after_event}
use Rattle.spec_charts.specs.Overlay.{OverlayAnswer, pair_numbers, overlay_of}
use Rattle.laws_charts.proofs.OutcomeLaws.{row-positive}
use Rattle.spec_calls.specs.Buffers.{Chart, too_short, chart_table, chart_entries, indexed_chart, chart_with, padded, pairs_length}
use Rattle.spec_calls.specs.Calls.{locate_call, overlaid_by, overlay_call}
use Rattle.spec_calls.specs.History.{event_call}
use Rattle.laws_calls.proofs.IndexedLaws.{Editable, indexed-table, indexed-entries, indexed-editable}
use Rattle.laws_calls.proofs.AcceptedLaws.{after-fits}
use Rattle.laws_calls.proofs.EditCalls.{event-chart, event-number, event-value}
use Rattle.laws_calls.proofs.ReaderLaws.{found_in, located-done}
use Rattle.laws_histories.proofs.ChartHistory.{load-empty, empty-fits}
use Rattle.laws_histories.proofs.IndexedOverlay.{overlay-passes}
use Rattle.spec_log.specs.Log.{event_numbers, refusal_numbers, overlay_lines, line}
use Rattle.log_lines.specs.Bytes.{pair_lines}
use Rattle.log_lines.proofs.LineLaws.{pair-lines}
use Rattle.log_state.specs.State.{Holding, told_numbers, overlaid_lines}

-- a chart begun by a load of the empty table holds it
pub holding-empty : (c : Chart) → too_short c ≡ false → Holding (event_call (load []) c).chart []
holding-empty c s =
    record { buffers = c; long = s; is = load-empty c s; fits = empty-fits }

-- ---- commands 2 to 5

module _ {d : Chart} {t : Table} (h : Holding d t) (e : Event) where
  chart-after : (event_call e d).chart ≡ indexed_chart h.buffers (done_or t (event_on e t))
  unfolding after_event
  chart-after = ap (λ c. (event_call e c).chart) h.is ∙ event-chart h.buffers h.long t h.fits e

  -- an event leaves a chart that holds the table after it
  pub holding-event : Holding (event_call e d).chart (done_or t (event_on e t))
  holding-event = record { buffers = h.buffers; long = h.long; is = chart-after; fits = after-fits e t h.fits }

  -- what its call answers
  number-told : (event_call e d).number ≡ outcome_number (event_on e t)
  number-told = ap (λ c. (event_call e c).number) h.is ∙ event-number h.buffers h.long t h.fits e

  value-told : (event_call e d).value ≡ outcome_value (event_on e t)
  value-told = ap (λ c. (event_call e c).value) h.is ∙ event-value h.buffers h.long t h.fits e

  entries-told : (event_call e d).chart.entry_count ≡ length (entries_of (done_or t (event_on e t)))
  unfolding indexed_chart chart_with
  entries-told = ap (λ c. c.entry_count) chart-after

  -- is what the log prints
  pub event-told : told_numbers (event_call e d).number (event_call e d).value (event_call e d).chart.entry_count ≡ event_numbers (event_on e t)
  unfolding told_numbers event_numbers refusal_numbers
  event-told = rw (number-told, value-told, entries-told) (go (event_on e t))
    where
      go : (o : Outcome Table) → told_numbers (outcome_number o) (outcome_value o) (length (entries_of (done_or t o))) ≡ event_numbers o
      go (done u) = refl
      go (refused r) = let p = row-positive r in rw (ne_eqb (row_of r).number 0 (omega arith))

-- ---- command 6

pub holding-editable : {d : Chart} {t : Table} → Holding d t → Editable d
holding-editable {d} {t} h =
    rw h.is (indexed-editable h.buffers t h.fits.few h.fits.small h.long h.fits.oriented)

pub locate-told : {d : Chart} {t : Table} → Holding d t → (p : Point)
    → locate_call d p ≡ found_in t (entries_of t) p
locate-told {d} {t} h p =
    let e = holding-editable h in
    let table = ap chart_table h.is ∙ indexed-table h.buffers t in
    let entries = ap chart_entries h.is ∙ indexed-entries h.buffers t in
    sym (located-done d e.long e.chained p) ∙ rw (table, entries) refl

-- ---- command 7

-- the lines of the overlay's answer, for what the overlay of the tables comes to
lines-told : (before : List ℕ) (o : Outcome OverlayAnswer) → overlaid_lines (overlaid_by before o) ≡ overlay_lines o
unfolding overlaid_lines overlaid_by overlay_lines padded
lines-told before (refused r) = let p = row-positive r in rw (ne_eqb (row_of r).number 0 (omega arith))
lines-told before (done a) =
    let used = pair_numbers a.pairs in
    ap (λ ls. line 7 (0 ∷ length a.pairs ∷ a.meets ∷ []) ++ ls)
    (ap (λ ns. pair_lines ns (length a.pairs)) (append_assoc used (replicate (pairs_length - length used) 0) (drop pairs_length before))
    ∙ pair-lines a.pairs (replicate (pairs_length - length used) 0 ++ drop pairs_length before))

pub overlay-told : {d e : Chart} {s t : Table} → Holding d s → Holding e t → (before : List ℕ) → pairs_length ≤ length before
    → overlaid_lines (overlay_call d e before) ≡ overlay_lines (overlay_of s (entries_of s) t (entries_of t))
overlay-told {d} {e} {s} {t} h g before room =
    rw (h.is, g.is)
    (ap overlaid_lines (overlay-passes h.buffers g.buffers h.long g.long before room s t h.fits g.fits)
    ∙ lines-told before (overlay_of s (entries_of s) t (entries_of t)))
