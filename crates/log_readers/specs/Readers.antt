-- What commands 6 and 7 print.
-- Assumes nothing.
use Rattle.std.specs.Prelude.{List, ℕ, ◌+◌, ◌*◌}
use Rattle.spec_charts.specs.Overlay.{max_pairs}
use Rattle.spec_log.specs.Log.{State, Step}
use Rattle.log_lines.specs.Bytes.{Wrote, pair_bytes}
use Rattle.log_state.specs.State.{Charts}
use Rattle.log_events.specs.Both.{Both}
use Rattle.log_events.specs.Events.{line_room}

-- room enough for the lines of any overlay: its first, and those of 4,096 pairs
abbrev pub overlay_room : ℕ
overlay_room = line_room + pair_bytes * max_pairs

-- what a step prints is written, whatever tables the charts hold
abbrev pub Prints : (State → Step) → Both → ℕ → ℕ → List ℕ → List ℕ → Type 0
Prints step b at next before after = (s : State) → Charts s b.first b.second → Wrote (step s).printed at next before after
