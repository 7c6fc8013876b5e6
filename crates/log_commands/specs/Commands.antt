-- A whole command of the bytes held.
-- Assumes nothing.
use Rattle.std.specs.Prelude.{List, ℕ, get_or, drop}
use Rattle.spec_calls.specs.Buffers.{Chart}
use Rattle.spec_log.specs.Log.{State, Step, step_of}
use Rattle.log_lines.specs.Bytes.{Wrote}
use Rattle.log_events.specs.Both.{Both}
use Rattle.log_edits.specs.Edits.{Running}

-- a step was made: what it prints is written, and the buffers hold the state after it
pub record RanCommand (st : Step) (at next : ℕ) (before after : List ℕ) (d e : Chart) (waiting : List ℕ) (n : ℕ) : Type 0 where
  pub wrote : Wrote st.printed at next before after
  pub running : Running st.after d e waiting n

-- any command was
abbrev pub RanHeld : List ℕ → Both → List ℕ → ℕ → Both → List ℕ → ℕ → ℕ → ℕ → List ℕ → List ℕ → Type 0
RanHeld held b waiting n b' waiting' n' at next before after = (s : State) → Running s b.first b.second waiting n
    → RanCommand (step_of (get_or held 0 0) (drop 1 held) s) at next before after b'.first b'.second waiting' n'
