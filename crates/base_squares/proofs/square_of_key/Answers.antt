-- Coordinate 1 of a key is coordinate 0 of half the key.
use Rattle.spec_squares.specs.Square.{square_of_key}
use borrow.Author.Rules.{rules}
use Rattle.base_squares.proofs.GatherLaws.{coordinate-half}
use Rattle.base_squares.proofs.square_of_key.Goals as goal

pub returns : goal.returns
unfolding square_of_key
returns c =
    (rw (c.gathered.ensures.0, c.gathered-2.ensures.0, c.from.ensures, coordinate-half 2 0 16 c.args.key), search rules)
