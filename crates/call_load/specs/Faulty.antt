-- The lowest triangle with D ≤ 0.
-- Assumes nothing.
use Rattle.std.specs.Prelude.{◌≡◌, ℕ, ◌≤◌, ◌<◌, Option, Some, None}
use Rattle.theory_lists.specs.Lists.{prefix_length}
use Rattle.spec_plane.specs.Triangle.{proper}
use Rattle.spec_charts.specs.Table.{Table}

-- the lowest number of a triangle with D ≤ 0, or the number of triangles: as many stand before it
abbrev pub first_faulty : Table → ℕ
first_faulty t = prefix_length (λ s. proper s) t

-- a search among the first n triangles found the lowest with D ≤ 0, or there is none
abbrev pub FaultyFound : Table → ℕ → Option ℕ → Type 0
FaultyFound t n (Some i) = (i ≡ first_faulty t) × (i < n)
FaultyFound t n None = n ≤ first_faulty t
