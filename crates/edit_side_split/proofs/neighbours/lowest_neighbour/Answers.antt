-- The invariant: no triangle before number j is on the other side.
use mathlib.Core.Path.{sym}
use Rattle.spec_plane.specs.Triangle.{triangle_of}
use Rattle.edit_side_split.proofs.NeighbourSteps.{unshared-all, unshared-found, unshared-next}
use Rattle.edit_side_split.proofs.neighbours.lowest_neighbour.Goals as goal

pub returns-in-Some : goal.returns-in-Some
returns-in-Some c =
    sym (unshared-found (triangle_of c.args.s) c.args.table.now c.args.n c.loop-j.invariant c.loop-j-test.true c.triangle_at-u.ensures
    c.in-Some.k c.in-Some.ensures.1 c.rotated.ensures)

pub loop-j-preserved : goal.loop-j-preserved
loop-j-preserved c =
    unshared-next (triangle_of c.args.s) c.args.table.now c.args.n c.loop-j.invariant c.loop-j-test.true c.triangle_at-u.ensures c.in_default.ensures

pub returns : goal.returns
returns c = sym (unshared-all (triangle_of c.args.s) c.args.table.now c.args.n c.loop-j.invariant c.loop-j-test.false)
