-- The square is that of the key, so the two boxes are compared as they are defined.
use mathlib.Core.Path.{ap}
use native.Mathlib.Omega.{arith}
use Rattle.spec_plane.specs.Box.{apart}
use Rattle.spec_squares.specs.Square.{square_of_key, square_box}
use Rattle.spec_window.specs.Window.{entry_square, cell_touches}
use Rattle.window_cells.proofs.touches.Goals as goal

pub side-side-requires : goal.side-side-requires
unfolding square_of_key
side-side-requires c =
    omega (arith, ap (λ s. s.level) c.square_of_key-s.ensures.0, c.requires)

pub returns : goal.returns
unfolding cell_touches entry_square square_box apart
returns c =
    λ item. rw (c.side-side.ensures.0, c.square_of_key-s.ensures.0, c.from.ensures, c.from-2.ensures, c.from-3.ensures, c.from-4.ensures)
