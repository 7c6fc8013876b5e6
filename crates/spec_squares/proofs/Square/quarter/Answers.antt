use Rattle.spec_squares.proofs.QuarterLaws.{quarter-is}
use Rattle.spec_squares.proofs.Square.quarter.Goals as goal

pub returns : goal.returns
returns c = rw (c.half-half.ensures.0) (quarter-is c.args.self c.args.k c.requires.number.1)
