-- The steps gather coordinate 0, which has 16 bits.
use Rattle.theory_orthtree.proofs.KeyLaws.{coordinate-bound}
use Rattle.base_squares.proofs.GatherLaws.{gathers}
use Rattle.base_squares.proofs.gathered.Goals as goal

pub returns : goal.returns
returns c =
    let n = c.args.n in
    let e = gathers n in
    (e, rw e (coordinate-bound 2 0 16 n))
