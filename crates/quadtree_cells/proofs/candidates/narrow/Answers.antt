-- Those of the candidates before place k that meet the frame are stored on top of the stack.
use native.Mathlib.Omega.{arith}
use Rattle.quadtree_cells.proofs.StackLaws.{narrowing-start, narrowing-read, narrowing-room, narrowing-next}
use Rattle.quadtree_cells.proofs.candidates.narrow.Goals as goal

pub loop-k-init : goal.loop-k-init
loop-k-init c = let g = c.requires.fits in narrowing-start g.within g.order

pub triangle_meets-b-requires : goal.triangle_meets-b-requires
triangle_meets-b-requires c =
    let g = c.requires.fits in
    let l = c.loop-k in
    let r = narrowing-read g.within l.invariant c.loop-k-test.true in
    let h = g.shapes l.k l.invariant.low c.loop-k-test.true in
    let o = g.offs l.k l.invariant.low c.loop-k-test.true in
    record { numbers = omega arith; offs = omega arith; framed = c.requires.framed }

pub push_when-top-requires : goal.push_when-top-requires
push_when-top-requires c =
    omega (arith, narrowing-room c.requires.fits.within c.loop-k.invariant)

pub loop-k-preserved : goal.loop-k-preserved
loop-k-preserved c =
    narrowing-next c.requires.fits.within c.loop-k.invariant c.loop-k-test.true c.from.ensures c.triangle_meets-b.ensures c.push_when-top.ensures
