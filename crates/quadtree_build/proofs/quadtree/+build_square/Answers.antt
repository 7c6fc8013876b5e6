-- The candidates that pass are the triangles that meet the square. A stopped square is written as a leaf; in any other the loop keeps
-- that the entries of the first k quarters are built, and those of all four are the square's.
use mathlib.Core.Path.{◌≡◌, sym, ◌∙◌, ap}
use mathlib.Core.List.{flat_map}
use native.Mathlib.Omega.{arith}
use borrow.Author.Rules.{rules}
use Rattle.spec_squares.specs.Square.{arity}
use Rattle.base_entries.specs.Packed.{head_of}
use Rattle.quadtree_cells.proofs.StepLaws.{key-small}
use Rattle.quadtree_stopping.specs.Stopping.{corner_table}
use Rattle.quadtree_build.proofs.WalkLaws.{built-start, built-some, built-join}
use Rattle.quadtree_build.proofs.SquareWalk.{after-narrow, among-ready, built-leaf}
use Rattle.quadtree_build.proofs.QuarterWalk.{level-below, quarter-level, quarter-buildable, quarters-more, quarters-over, quarters-all, built-below}
use Rattle.quadtree_build.proofs.quadtree.+build_square.Goals as goal

pub is_stopped-requires : goal.is_stopped-requires
is_stopped-requires t c =
    let b = c.requires.buildable in
    let w = after-narrow b c.frame_of-f.ensures c.narrow-top.ensures in
    record { ready = among-ready b w; prepared = b.prepared; aligned = b.keyed.aligned; border = c.frame_of-f.ensures; triangles = w.triangles }

pub slice_bounds-is_stopped-end : goal.slice_bounds-is_stopped-end
slice_bounds-is_stopped-end t c = (after-narrow c.requires.buildable c.frame_of-f.ensures c.narrow-top.ensures).ready.within

pub head_of-head-requires : goal.head_of-head-requires
head_of-head-requires t c =
    let k = c.requires.buildable.keyed in
    (rw k.key (key-small c.args.s.square), k.aligned.deep)

pub returns-then-is_stopped : goal.returns-then-is_stopped
returns-then-is_stopped t c =
    let a = c.args in
    let s = a.s.square in
    let w = after-narrow c.requires.buildable c.frame_of-f.ensures c.narrow-top.ensures in
    built-leaf (corner_table a.shapes.now.corners.now) s (sym c.is_stopped.ensures ∙ c.if-is_stopped.true) w.triangles
    (c.head_of-head.ensures.0 ∙ ap (λ key. head_of key s.level) c.requires.buildable.keyed.key)
    c.put_leaf.ensures.entries_put c.put_leaf.ensures.value w.kept (search rules) w.same

pub loop-k-init : goal.loop-k-init
unfolding flat_map
loop-k-init t c =
    built-start c.args.at c.args.out.now _ c.requires.entry_room.1

pub keyed_quarter-q-requires : goal.keyed_quarter-q-requires
keyed_quarter-q-requires t c =
    let k = c.requires.buildable.keyed in
    let level = level-below (corner_table c.args.shapes.now.corners.now) c.args.s.square k.aligned (sym c.is_stopped.ensures ∙ c.if-is_stopped.false) in
    (k, record { aligned = k.aligned; level = level; number = c.loop-k-test.true })

pub build_square-requires : goal.build_square-requires
build_square-requires t c =
    let b = c.requires.buildable in
    let s = c.args.s.square in
    let k = c.loop-k.k in
    let lt = c.loop-k-test.true in
    let inv = c.loop-k.invariant in
    let q = c.keyed_quarter-q.ensures in
    let room = c.requires.entry_room.0 in
    let divided = level-below (corner_table c.args.shapes.now.corners.now) s b.keyed.aligned (sym c.is_stopped.ensures ∙ c.if-is_stopped.false) in
    let w = after-narrow b c.frame_of-f.ensures c.narrow-top.ensures in
    let level = ap (λ x. x.level) q.0 ∙ quarter-level s k lt in (
      omega (arith, level, divided, c.decreases),
      (
        quarter-buildable k lt divided b w q.0 q.1 inv.kept inv.stacks,
        (record { places = rw inv.outs room.places; limit = room.limit }, omega (arith, built-some inv)),
      ),
    )

pub loop-k-preserved : goal.loop-k-preserved
loop-k-preserved t c =
    let l = c.loop-k in
    rw (quarters-more c.args.s.square l.k c.loop-k-test.true (corner_table c.args.shapes.now.corners.now))
    (built-join l.invariant (rw c.keyed_quarter-q.ensures.0 at c.in_ok-next.ensures))

pub returns-in_err-next : goal.returns-in_err-next
returns-in_err-next t c =
    let l = c.loop-k in
    let table = corner_table c.args.shapes.now.corners.now in
    let s = c.args.s.square in
    let b = c.requires.buildable in
    let unstopped = sym c.is_stopped.ensures ∙ c.if-is_stopped.false in
    let divided = level-below table s b.keyed.aligned unstopped in
    rw c.from_residual.ensures (built-below (after-narrow b c.frame_of-f.ensures c.narrow-top.ensures)
    (quarters-over s l.k c.loop-k-test.true table divided unstopped (built-join l.invariant (rw c.keyed_quarter-q.ensures.0 at c.in_err-next.ensures))))

pub returns : goal.returns
returns t c =
    let table = corner_table c.args.shapes.now.corners.now in
    let s = c.args.s.square in
    let b = c.requires.buildable in
    let unstopped = sym c.is_stopped.ensures ∙ c.if-is_stopped.false in
    let divided = level-below table s b.keyed.aligned unstopped in
    let e : c.loop-k.k ≡ arity = omega arith in
    built-below (after-narrow b c.frame_of-f.ensures c.narrow-top.ensures) (rw (e, quarters-all table s divided unstopped) at c.loop-k.invariant)
