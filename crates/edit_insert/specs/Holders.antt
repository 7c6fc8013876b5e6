-- What the search for the triangle taken finds.
-- Assumes nothing.
use Rattle.std.specs.Prelude.{◌≡◌, List, ℕ, Option, Some, None}
use Rattle.std.proofs.Math.Option.{none, some}
use Rattle.spec_plane.specs.declared.Point.{Point}
use Rattle.spec_plane.specs.Position.{position}
use Rattle.spec_charts.specs.Table.{triangle_at, table_of}
use Rattle.spec_charts.specs.Edits.{lowest_holder}
use Rattle.edit_insert.specs.declared.holders.Holder.{Holder}

-- the triangle of the first n that is taken, and where p lies by it; or none
abbrev pub HolderFound : List ℕ → ℕ → Point → Option Holder → Type 0
HolderFound ns n p None = lowest_holder p (table_of ns n) ≡ none
HolderFound ns n p (Some h) = (lowest_holder p (table_of ns n) ≡ some h.number) × (h.position ≡ position (triangle_at ns h.number) p)
