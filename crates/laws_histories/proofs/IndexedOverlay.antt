-- The overlay of two indexed charts answers by their tables alone.
-- The idea: an indexed chart passes refusals 1 and 2 and gives back its table and that table's entries. Of those it is known that the
-- pairs listed are the pairs with a common interior point, and that the meetings are the pairs of overlapping cells.
-- Assumes nothing.
use mathlib.Core.Path.{◌≡◌, refl, ◌∙◌, ap}
use mathlib.Core.Bool.{Bool, true, false}
use mathlib.Core.List.{List, ◌++◌}
use Prim.Native.Nat.{ℕ, ◌≤◌}
use borrow.Author.Tests.{le-ltb}
use lib.Dec.{ltb}
use lib.ListN.{length, drop, replicate}
use Rattle.theory_lists.proofs.Order.{ordered_at}
use Rattle.theory_orthtree.specs.Entries.{meetings}
use Rattle.spec_squares.specs.Square.{arity, depth}
use Rattle.spec_charts.specs.Table.{Table, IsTable}
use Rattle.spec_charts.specs.Cells.{entries_of}
use Rattle.spec_charts.specs.declared.Refusal.TheVariants.{TooManyPairs}
use Rattle.spec_charts.specs.Refusals.{done, refuse_if}
use Rattle.spec_charts.specs.Overlay.{Pair, pair_numbers, pairs_listed, max_pairs, within_pairs, overlay_of}
use Rattle.laws_charts.proofs.OverlayLaws.{pairs-ascend}
use Rattle.laws_charts.proofs.SharedGround.{pairs-of-tables}
use Rattle.laws_charts.proofs.MeetingsOfTable.{meetings-of-cells, meetings-of-cells-bound}
use Rattle.spec_calls.specs.Buffers.{Chart, too_short, indexed_chart, padded, pairs_length}
use Rattle.spec_calls.specs.Calls.{pairs_refused, overlaid_by, overlay_call}
use Rattle.laws_calls.proofs.IndexedLaws.{Editable, indexed-table, indexed-entries, indexed-editable}
use Rattle.laws_calls.proofs.OverwriteLaws.{Indexable}
use Rattle.laws_histories.specs.Histories.{overlay_answer, TablesOverlaid}

-- the pairs are within the limit or not: the answer is the same
answer-same : (ps : List Pair) (m : ℕ) (before : List ℕ) → overlaid_by before (within_pairs ps m) ≡ overlay_answer ps m before
unfolding within_pairs refuse_if overlaid_by pairs_refused overlay_answer padded
answer-same ps m before = go (ltb max_pairs (length ps))
  where
    go : (b : Bool) → overlaid_by before (refuse_if b TooManyPairs (done (record { pairs = ps; meets = m })))
        ≡ elim b [
          | true ↦ record { number = 12; pair_count = 0; meets = 0; pairs = replicate pairs_length 0 ++ drop pairs_length before }
          | false ↦ record { number = 0; pair_count = length ps; meets = m; pairs = padded pairs_length (pair_numbers ps) before }
        ]
    go true = refl
    go false = refl

module _ (c d : Chart) (long : too_short c ≡ false) (wide : too_short d ≡ false) (before : List ℕ) (room : pairs_length ≤ length before) (s t : Table) (fits : Indexable s) (holds : Indexable t) where
  editable : (b : Chart) → too_short b ≡ false → (u : Table) → Indexable u → Editable (indexed_chart b u)
  editable b l u f = indexed-editable b u f.few f.small l f.oriented

  -- neither chart is refused, nor is the pairs list
  pub overlay-passes : overlay_call (indexed_chart c s) (indexed_chart d t) before ≡ overlaid_by before (overlay_of s (entries_of s) t (entries_of t))
  unfolding overlay_call refuse_if
  overlay-passes =
      let first = editable c long s fits in
      let second = editable d wide t holds in
      rw (first.long, second.long, le-ltb (length before) pairs_length room, first.chained, second.chained, indexed-table c s, indexed-table d t, indexed-entries c s, indexed-entries d t)

  pub indexed-overlay : IsTable s → IsTable t → TablesOverlaid s t before (overlay_call (indexed_chart c s) (indexed_chart d t) before)
  unfolding overlay_of
  indexed-overlay good fine =
      let ps = pairs_listed s (entries_of s) t (entries_of t) in
      let m = meetings arity depth (entries_of s) (entries_of t) in
      record {
        shared = ps;
        exactly = pairs-of-tables s t good fine;
        ascending = λ m n d h l. ordered_at m n d (pairs-ascend s (entries_of s) t (entries_of t)) h l;
        answer = overlay-passes ∙ answer-same ps m before ∙ ap (λ n. overlay_answer ps n before) (meetings-of-cells s t);
        bound = rw (← meetings-of-cells s t) (meetings-of-cells-bound s t);
      }
