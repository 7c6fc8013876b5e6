-- Where in the caller's list the numbers of a cell listing stand.
-- Assumes nothing.
use Rattle.std.specs.Prelude.{◌≡◌, List, [], ℕ, ◌-◌, ◌≤◌, length}
use Rattle.theory_lists.specs.Lists.{count_from}
use Rattle.spec_plane.specs.declared.Point.{Point}
use Rattle.spec_charts.specs.Refusals.{done_or}
use Rattle.spec_calls.specs.Buffers.{Chart, chart_entries}
use Rattle.spec_calls.specs.Calls.{reading}
use Rattle.read_cells.specs.Place.{listed_places}

-- the places of the cell's own entries, without the mark; none at refusals 1 and 2
unfoldable pub places_call : Chart → Point → List ℕ
places_call c p = done_or [] (reading c (listed_places (chart_entries c) p))

-- a part of a list, from one place up to another, is at these places; 0 and 0 where there are none
pub record PartAt (list places : List ℕ) (from to : ℕ) : Type 0 where
  pub ordered : from ≤ to
  pub within : to ≤ length list
  pub numbers : places ≡ count_from from (to - from)
  pub nothing : from ≡ to → from ≡ 0
