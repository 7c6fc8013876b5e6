-- Numbers count whole: corners beyond 32 bits.
-- Assumes nothing.
use mathlib.Core.Path.{◌≡◌, refl}
use Rattle.spec_squares.specs.Square.{side_at, square_box}

square_box-large : square_box (record { x = 5000000001; y = 6000000002; level = 14 })
    ≡ record { left = 5000000001; top = 6000000002; right = 5000000005; bottom = 6000000006 }
unfolding square_box side_at
square_box-large = refl
