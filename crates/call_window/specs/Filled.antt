-- A list filled with what lies in a window.
-- Assumes nothing.
use Rattle.std.specs.Prelude.{◌≡◌, List, ℕ, length}
use Rattle.spec_window.specs.Window.{window_length}
use Rattle.spec_calls.specs.Buffers.{padded}

-- a list that held `before` has these numbers, zeros after them and what was beyond; r is how many they are
pub record Filled (is before list : List ℕ) (r : ℕ) : Type 0 where
  pub count : r ≡ length is
  pub filled : list ≡ padded window_length is before
