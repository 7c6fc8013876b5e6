-- Two charts, two lists of calls written as numbers, and the overlay after them.
-- Assumes nothing.
use Rattle.std.specs.Prelude.{◌≡◌, false, List, [], ◌∷◌, ℕ, ◌≤◌, length}
use Rattle.spec_charts.specs.Edits.{load}
use Rattle.spec_calls.specs.Buffers.{Chart, too_short, pairs_length}
use Rattle.spec_calls.specs.Calls.{Overlaid, overlay_call}
use Rattle.spec_calls.specs.History.{chart_after}
use Rattle.laws_histories.specs.Histories.{HistoriesOverlaid}
use Rattle.replay_calls.specs.Encoding.{decode}

-- charts c and d and a pairs list came to charts c' and d' and to the overlay's answer o by the calls ms and ns. Whatever the buffers
-- and counts were, each chart has had its calls, one after another, and the overlay after them. And where the buffers are long enough,
-- that is demand 3: `HistoriesOverlaid`
pub record Replayed (c d : Chart) (before ms ns : List ℕ) (c' d' : Chart) (o : Overlaid) : Type 0 where
  pub first : c' ≡ chart_after (load [] ∷ decode ms) c
  pub second : d' ≡ chart_after (load [] ∷ decode ns) d
  pub overlaid : o ≡ overlay_call c' d' before
  pub claim : too_short c ≡ false → too_short d ≡ false → pairs_length ≤ length before
      → HistoriesOverlaid c d before (decode ms) (decode ns) c' d' o
