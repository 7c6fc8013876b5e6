-- A byte is one of 256, so that the steps are computed for each.
use borrow.Author.Rules.{rules}
use Rattle.read_cells.proofs.SpreadLaws.{spread-byte, spread-bound}
use Rattle.read_cells.proofs.morton.spread.Goals as goal

pub returns : goal.returns
returns c =
    let n = c.args.n in
    let e = spread-byte n (search rules) in
    (e, rw e (spread-bound n))
