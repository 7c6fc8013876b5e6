use native.Mathlib.Omega.{arith}
use Rattle.spec_squares.specs.Square.{square_box}
use Rattle.quadtree_cells.proofs.quarters.frame_of.Goals as goal

pub returns : goal.returns
unfolding square_box
returns c =
    record {
      box = cc c.side-side.ensures.0;
      framed = record { wide = omega arith; tall = omega arith; right = omega arith; bottom = omega arith };
    }
