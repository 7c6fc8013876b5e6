-- On a chart that passes refusals 1, 2 and 3, an insert takes the triangle that locate reports.
-- The idea: there locate finds the lowest numbered triangle of the whole table that holds the point.
-- Assumes nothing.
use mathlib.Core.Path.{◌≡◌, sym, ◌∙◌, ap}
use mathlib.Core.Bool.{true}
use Rattle.spec_plane.specs.declared.Point.{Point}
use Rattle.spec_plane.proofs.ExtremeLaws.{OnGrid}
use Rattle.spec_charts.specs.Refusals.{done, and_then}
use Rattle.spec_charts.specs.Edits.{insert, lowest_holder, insert_taken, insert_table, proposed, within_limit}
use Rattle.laws_charts.proofs.CountedLaws.{event-limited}
use Rattle.spec_calls.specs.Buffers.{Chart, chart_table}
use Rattle.spec_calls.specs.Calls.{changed_by, locate_call, insert_call}
use Rattle.laws_calls.proofs.JudgeLaws.{indexed-passes}
use Rattle.laws_calls.proofs.IndexedLaws.{Editable}
use Rattle.laws_calls.proofs.LocateLaws.{locate-lowest}
use Rattle.laws_calls.proofs.EditCalls.{edit-judged}

module _ (c : Chart) (p : Point) (on : OnGrid p) (h : Editable c) where
  -- the triangle taken is the one that locate reports
  pub taken-located : lowest_holder p (chart_table c) ≡ (locate_call c p).found
  unfolding lowest_holder
  taken-located = sym (locate-lowest c p h.chained h.long on h.same)

  -- so an insert is the split or side split of that triangle, 14 at a corner of it, and 7 where locate's answer is nowhere
  pub insert-located : insert_call p c ≡ changed_by c (and_then (insert_taken (locate_call c p).found p (chart_table c)) (λ t. within_limit t))
  unfolding proposed insert_table
  insert-located =
      sym (edit-judged c (insert p) (sym (indexed-passes c (done (tt {0})) h.long h.chained h.same)))
      ∙ ap (changed_by c) (event-limited (insert p) (chart_table c) ∙ ap (λ o. and_then (insert_taken o p (chart_table c)) (λ t. within_limit t)) taken-located)
