-- The star of a point: the triangles of a table that have it as a corner, one after another.
-- Assumes nothing.
use Rattle.std.specs.Prelude.{◌≡◌, List, [], ◌∷◌, ℕ, ◌+◌, ◌≤◌, ◌<◌, drop, Option, Some, None}
use Rattle.theory_lists.specs.Lists.{places_from}
use Rattle.spec_plane.specs.declared.Point.{Point}
use Rattle.spec_charts.specs.Table.{Table}
use Rattle.spec_charts.specs.Edits.{has_corner}

-- the numbers of the triangles around p, from number `first` on
abbrev pub around_from : Point → Table → ℕ → List ℕ
around_from p table first = places_from (λ t. has_corner p t) first (drop first table)

-- i is the first of them, in a table of n triangles
pub record FirstAround (p : Point) (table : Table) (n first i : ℕ) : Type 0 where
  pub low : first ≤ i
  pub below : i < n
  pub found : around_from p table first ≡ i ∷ around_from p table (i + 1)

-- the first of them; none where there is none
abbrev pub NextAround : Point → Table → ℕ → ℕ → Option ℕ → Type 0
NextAround p table n first (Some i) = FirstAround p table n first i
NextAround p table n first None = around_from p table first ≡ []
