use Rattle.std.proofs.Common.{refl}
use Rattle.spec_squares.specs.Square.{whole_square}
use Rattle.spec_squares.proofs.Square.whole.Goals as goal

pub returns : goal.returns
unfolding whole_square
returns c = refl
