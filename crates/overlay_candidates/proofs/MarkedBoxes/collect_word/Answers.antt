-- Mark after mark: the lowest bit that is left is the next place, and a word without a bit adds nothing.
use mathlib.Core.Path.{◌≡◌, subst}
use Prim.Native.Nat.{◌+◌, ◌*◌, ◌-◌, ◌^◌, ◌<◌}
use native.Mathlib.Omega.{arith}
use lib.ListN.{get_or}
use Rattle.base_boxes.proofs.BoxesLaws.{set-length}
use Rattle.base_geometry.specs.Bounds.{bounds_box}
use Rattle.base_boxes.specs.Boxes.{box_at}
use Rattle.overlay_marks.specs.PairMarks.{row_words}
use Rattle.overlay_candidates.specs.RowCandidates.{NearInRow}
use Rattle.overlay_candidates.proofs.NearLaws.{near-more, near-skip, word-ended, next-mark, mark-within, mark-next, mark-there, mark-past}
use Rattle.overlay_candidates.proofs.MarkedBoxes.collect_word.Goals as goal

pub append_if_near-c-requires : goal.append_if_near-c-requires
append_if_near-c-requires c =
    let a = c.args in
    let l = c.loop-w in
    let fits : get_or a.self.rows.now (row_words * a.i + a.q) 0 < 2 ^ 64 = omega arith in
    let some : 0 < l.w = omega arith in
    let mark = next-mark a.self.rows.now a.i l.j a.q l.w fits l.invariant.low l.invariant.left some in
    let within = mark-within a.self.rows.now a.i l.j a.q l.w fits l.invariant.low l.invariant.left _ mark in (
      omega (arith, within),
      omega (arith, within, l.invariant.collected.near.few, l.invariant.collected.kept, c.requires.row_places.0.room),
    )

pub loop-w-preserved : goal.loop-w-preserved
loop-w-preserved c =
    let a = c.args in
    let l = c.loop-w in
    let fits : get_or a.self.rows.now (row_words * a.i + a.q) 0 < 2 ^ 64 = omega arith in
    let some : 0 < l.w = omega arith in
    let mark = next-mark a.self.rows.now a.i l.j a.q l.w fits l.invariant.low l.invariant.left some in
    let within = mark-within a.self.rows.now a.i l.j a.q l.w fits l.invariant.low l.invariant.left _ mark in
    let i = l.invariant in
    let call = c.append_if_near-c in
    let bounds = bounds_box a.b in
    let boxes = box_at a.self.boxes.now in
    let skipped = near-skip bounds boxes a.self.rows.now a.self.triangles a.i i.collected.near _ (mark-next a.self.rows.now a.i l.j a.q l.w fits i.low i.left _ mark) in
    let there = mark-there a.self.rows.now a.i l.j a.q l.w fits i.low i.left _ mark in
    record {
      low = omega (arith, i.low);
      high = omega (arith, within);
      left = mark-past a.self.rows.now a.i l.j a.q l.w fits i.low i.left _ mark;
      collected = record {
        near =
            near-more bounds boxes a.self.rows.now a.self.triangles a.i skipped there _ call.result
            (omega (arith, within, i.collected.near.few, i.collected.kept, c.requires.row_places.1.1, c.requires.row_places.0.room)) call.ensures.near_after call.ensures.value;
        kept = set-length l.near _ l.c _ _ call.ensures.near_after i.collected.kept;
      };
    }

pub returns : goal.returns
returns c =
    let a = c.args in
    let l = c.loop-w in
    let i = l.invariant in
    let fits : get_or a.self.rows.now (row_words * a.i + a.q) 0 < 2 ^ 64 = omega arith in
    let none = word-ended a.self.rows.now a.i l.j a.q l.w fits i.low i.left (omega arith) in
    let e : l.j + (64 * (a.q + 1) - l.j) ≡ 64 * (a.q + 1) = omega (arith, i.high) in
    let bounds = bounds_box a.b in
    let boxes = box_at a.self.boxes.now in
    record {
      near = subst (λ k. NearInRow bounds boxes a.self.rows.now a.self.triangles a.i l.near k l.c) e (near-skip bounds boxes a.self.rows.now a.self.triangles a.i i.collected.near _ none);
      kept = i.collected.kept;
    }
