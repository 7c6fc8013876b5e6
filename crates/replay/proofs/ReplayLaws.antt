-- A replay is an instance of demand 3: the events that 16-bit numbers stand for have 16-bit numbers. And every two lists of events have
-- numbers whose replay is demand 3 of those lists.
-- Assumes nothing.
use mathlib.Core.Path.{◌≡◌, ◌∙◌}
use mathlib.Core.Bool.{false}
use mathlib.Core.List.{List, [], ◌∷◌}
use Prim.Native.Nat.{ℕ, ◌≤◌, ◌<◌}
use lib.Dec.{T}
use lib.ListN.{length, get_or}
use Rattle.theory_lists.specs.Lists.{all}
use Rattle.spec_charts.specs.Edits.{Event, load, sixteen_bit_event}
use Rattle.spec_calls.specs.Buffers.{Chart, too_short, pairs_length}
use Rattle.spec_calls.specs.Calls.{Overlaid, overlay_call}
use Rattle.spec_calls.specs.History.{chart_after}
use Rattle.laws_histories.specs.Histories.{HistoriesOverlaid}
use Rattle.laws_histories.proofs.Demand3.{demand-3}
use Rattle.replay_calls.specs.Encoding.{decode}
use Rattle.replay_calls.proofs.EncodingLaws.{decode-words}
use Rattle.replay_calls.proofs.ClippedLaws.{Written}
use Rattle.replay.specs.Replay.{Replayed}

module _ {c d : Chart} {before ms ns : List ℕ} (u : (i : ℕ) → get_or ms i 0 < 65536) (v : (i : ℕ) → get_or ns i 0 < 65536) where
  -- from what the two runs and the overlay do
  pub replayed : {c' d' : Chart} {o : Overlaid} → c' ≡ chart_after (load [] ∷ decode ms) c → d' ≡ chart_after (load [] ∷ decode ns) d
      → o ≡ overlay_call c' d' before → Replayed c d before ms ns c' d' o
  replayed first second overlaid = record {
    first = first;
    second = second;
    overlaid = overlaid;
    claim = λ long wide room.
        rw (overlaid, first, second) (demand-3 c d before long wide room (decode ms) (decode ns) (decode-words ms u) (decode-words ns v));
  }

-- the numbers of `all-written` for two lists of events: their replay is demand 3 of these lists
pub replayed-written : {c d : Chart} {before ms ns : List ℕ} {c' d' : Chart} {o : Overlaid} (es fs : List Event) → Replayed c d before ms ns c' d' o
    → Written es ms → Written fs ns → T (all (λ e. sixteen_bit_event e) es) → T (all (λ f. sixteen_bit_event f) fs)
    → too_short c ≡ false → too_short d ≡ false → pairs_length ≤ length before → HistoriesOverlaid c d before es fs c' d' o
replayed-written {c} {d} {before} es fs r a b w v long wide room =
    rw (r.overlaid, r.first ∙ a.same c, r.second ∙ b.same d) (demand-3 c d before long wide room es fs w v)
