-- Candidate after candidate: the pairs with those before it are written.
use native.Mathlib.Omega.{arith}
use lib.ListN.{get_or}
use Rattle.spec_charts.specs.Table.{triangle_at}
use Rattle.base_interiors.proofs.InteriorsLaws.{handed-corners, told-corners}
use Rattle.overlay_pairs.specs.Pairs.{near_pairs}
use Rattle.overlay_pairs.proofs.WroteLaws.{wrote-already}
use Rattle.overlay_pairs.proofs.PairLaws.{pairs-none, pairs-more, pairs-over}
use Rattle.overlay_pairs.proofs.pair_writes.put_near.Goals as goal

pub loop-j-init : goal.loop-j-init
loop-j-init c =
    let a = c.args in
    record {
      handed = handed-corners (triangle_at a.first.now a.i) c.triangle_at.ensures c.differences_of-sides.ensures;
      wrote = pairs-none a.first.now a.second.now a.i a.near.now a.found a.pairs.now (omega arith);
    }

pub loop-j-preserved : goal.loop-j-preserved
loop-j-preserved c =
    let a = c.args in
    let l = c.loop-j in
    let s = triangle_at a.first.now a.i in
    let t = triangle_at a.second.now (get_or a.near.now l.j-index 0) in
    let meet = told-corners s t c.triangle_at-in-loop-j.ensures (c.interiors_meet-meet.ensures.value s l.invariant.handed.0) in
    record {
      handed = l.invariant.handed;
      wrote = pairs-more a.first.now a.second.now a.i a.near.now l.j-index (omega arith) meet l.invariant.wrote c.in_ok-c.ensures;
    }

pub returns-in_err-c : goal.returns-in_err-c
returns-in_err-c c =
    let a = c.args in
    let l = c.loop-j in
    let s = triangle_at a.first.now a.i in
    let t = triangle_at a.second.now (get_or a.near.now l.j-index 0) in
    let meet = told-corners s t c.triangle_at-in-loop-j.ensures (c.interiors_meet-meet.ensures.value s l.invariant.handed.0) in
    rw c.from_residual.ensures (pairs-over a.first.now a.second.now a.i a.near.now l.j-index (omega arith) meet l.invariant.wrote c.in_err-c.ensures)

pub returns-then-found-gt-MOST_PAIRS : goal.returns-then-found-gt-MOST_PAIRS
returns-then-found-gt-MOST_PAIRS c = let a = c.args in wrote-already (near_pairs a.first.now a.second.now a.i a.near.now) a.found a.pairs.now (omega arith)
