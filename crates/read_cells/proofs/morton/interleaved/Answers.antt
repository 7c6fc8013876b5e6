-- The key of two coordinates is that of the first, and twice that of the second.
use Rattle.read_cells.proofs.SpreadLaws.{morton-weave}
use borrow.Author.Rules.{rules}
use Rattle.read_cells.proofs.morton.interleaved.Goals as goal

pub returns : goal.returns
returns c =
    let a = c.args in
    (rw (c.spread.ensures.0, c.spread-2.ensures.0, morton-weave 8 a.x a.y), search rules)
