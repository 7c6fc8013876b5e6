-- The places of the two triangles of a flip.
-- Assumes nothing.
use Rattle.std.specs.Prelude.{ℕ, ◌<◌}

-- two places of the first n
pub record BothBelow (i j n : ℕ) : Type 0 where
  pub below_i : i < n
  pub below_j : j < n
