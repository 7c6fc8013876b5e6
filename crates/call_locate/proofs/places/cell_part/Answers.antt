use mathlib.Core.Path.{refl, sym, ◌∙◌}
use native.Mathlib.Omega.{arith}
use Rattle.theory_lists.specs.Lists.{count_from}
use Rattle.spec_calls.specs.Buffers.{chart_entries}
use Rattle.laws_calls.proofs.JudgeLaws.{chained-passed}
use Rattle.laws_calls.proofs.ReaderLaws.{listing-refused, listing-done}
use Rattle.spec_calls.specs.Lent.{viewed}
use Rattle.read_cells.proofs.PointLaws.{part-taken, part-places}
use Rattle.call_locate.proofs.CallLaws.{lists-chained, lists-searchable, places-refused, places-done}
use Rattle.call_locate.proofs.places.cell_part.Goals as goal

pub returns-in_default-clause-value : goal.returns-in_default-clause-value
returns-in_default-clause-value c =
    let a = c.args in
    let chart = viewed a.chart in
    listing-refused chart c.in_default.ensures a.p

pub returns-in_default-clause-part_at : goal.returns-in_default-clause-part_at
unfolding count_from
returns-in_default-clause-part_at c =
    let a = c.args in
    let chart = viewed a.chart in
    record {
      ordered = omega arith;
      within = omega arith;
      numbers = sym (places-refused chart a.p c.in_default.ensures);
      nothing = λ _. refl;
    }

pub listed_part-requires : goal.listed_part-requires
listed_part-requires c =
    let a = c.args in
    let chart = viewed a.chart in
    let fine = chained-passed chart c.in-Ok.ensures in
    lists-searchable chart a.p fine.0 fine.1

pub returns-clause-value : goal.returns-clause-value
unfolding chart_entries
returns-clause-value c =
    let a = c.args in
    let chart = viewed a.chart in
    let fine = chained-passed chart c.in-Ok.ensures in
    let s = fine.0 in
    let r = fine.1 in
    let h = lists-chained chart a.p s r in
    part-taken h a.p c.listed_part.ensures ∙ listing-done chart s r a.p

pub returns-clause-part_at : goal.returns-clause-part_at
unfolding chart_entries
returns-clause-part_at c =
    let a = c.args in
    let chart = viewed a.chart in
    let fine = chained-passed chart c.in-Ok.ensures in
    let s = fine.0 in
    let r = fine.1 in
    let h = lists-chained chart a.p s r in
    let l = c.listed_part.ensures in
    record {
      ordered = l.ordered;
      within = l.within;
      numbers = sym (part-places h a.p l ∙ places-done chart a.p s r);
      nothing = l.nothing;
    }
