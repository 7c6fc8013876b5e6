-- Of the first i triangles, those that are in the window are listed.
use Prim.Native.Nat.{◌+◌}
use native.Mathlib.Omega.{arith}
use Rattle.base_geometry.specs.Bounds.{bounds_box}
use Rattle.window_triangles.specs.Listed.{is_in}
use Rattle.window_triangles.proofs.ListedLaws.{listable-fewer, listed-none, listed_more}
use Rattle.window_triangles.proofs.list_window.Goals as goal

pub loop-i-init : goal.loop-i-init
loop-i-init c =
    let a = c.args in listed-none (is_in a.table.now (bounds_box a.w) a.near.now) a.list.now

pub append_if_in-c-requires : goal.append_if_in-c-requires
append_if_in-c-requires c =
    let l = c.loop-i in
    let v = l.invariant in
    let p = c.requires in
    (listable-fewer c.args.table.now (l.i + 1) c.args.n (omega arith) p.0, omega (arith, v.compact.few, v.same, p.0.drawn.few, p.1))

pub loop-i-preserved : goal.loop-i-preserved
loop-i-preserved c =
    let a = c.args in
    let call = c.append_if_in-c in
    listed_more (is_in a.table.now (bounds_box a.w) a.near.now) a.list.now c.loop-i.invariant (omega (arith, c.requires.0.drawn.few)) c.requires.1 _
    call.result call.ensures.list_after call.ensures.value
