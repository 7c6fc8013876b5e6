-- The answer of locate once the chart is judged.
-- Assumes nothing.
use Rattle.std.specs.Prelude.{ℕ, Some, None}
use Rattle.std.specs.Prelude.{Option as Std·Option}
use Rattle.std.proofs.Math.Option.{Option, none, some}
use Rattle.spec_plane.specs.declared.Position.{Position}
use Rattle.base_answers.specs.declared.Found.{Found}

-- the triangle found with its position, or nowhere
abbrev pub found_of : (ℕ → Position) → Option ℕ → Std·Option Found
found_of at none = None
found_of at (some i) = Some (record { triangle = i; position = at i })
