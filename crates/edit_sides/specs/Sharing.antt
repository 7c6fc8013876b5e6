-- The rotation of a triangle that a search finds, and the search for one that shares a side with another triangle.
-- Assumes nothing.
use Rattle.std.specs.Prelude.{◌≡◌, List, ℕ, ◌<◌, Option as CodeOption, Some, None}
use Rattle.std.proofs.Math.Option.{Option, none, some}
use Rattle.theory_lists.specs.Lists.{first}
use Rattle.spec_plane.specs.declared.Point.{Point}
use Rattle.spec_plane.specs.Triangle.{Triangle, triangle_of, rotated}
use Rattle.spec_charts.specs.Edits.{shares_side}

-- the first of some triangles that shares the side ab of s
abbrev pub first_sharing : Triangle → List Triangle → Option Triangle
first_sharing s us = first (λ u. shares_side s u) us

-- the number of the rotation of u that is found; none where none is
abbrev pub RotationFound : Option Triangle → List Point → CodeOption ℕ → Type 0
RotationFound o u (Some k) = (k < 3) × (o ≡ some (triangle_of (rotated u k)))
RotationFound o u None = o ≡ none
