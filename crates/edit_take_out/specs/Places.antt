-- The places of the three triangles of a take-out.
-- Assumes nothing.
use Rattle.std.specs.Prelude.{◌≡◌, [], ◌∷◌, ℕ, ◌<◌, Option, Some, None}
use Rattle.spec_plane.specs.declared.Point.{Point}
use Rattle.spec_charts.specs.Table.{Table}
use Rattle.edit_star.specs.Star.{around_from}
use Rattle.edit_take_out.specs.declared.triangle_merge.Places.{Places}

-- three places in ascending order, of the first n
pub record Ascending (i j k n : ℕ) : Type 0 where
  pub ij : i < j
  pub jk : j < k
  pub below : k < n

-- the places of the triangles around p, where there are three and no more, in a table of n triangles; none where there are not
abbrev pub ThreeAround : Point → Table → ℕ → Option Places → Type 0
ThreeAround p table n (Some at) =
    Ascending at.first at.second at.third n × (around_from p table 0 ≡ at.first ∷ at.second ∷ at.third ∷ [])
ThreeAround p table n None = (i j k : ℕ) → around_from p table 0 ≡ i ∷ j ∷ k ∷ [] → ⊥
