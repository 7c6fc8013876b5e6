-- Commands 2 to 5, which load and edit, made of the waiting table and of the bytes held.
-- Assumes nothing.
use Rattle.std.specs.Prelude.{◌≡◌, List, ℕ, get_or, drop}
use Rattle.spec_calls.specs.Buffers.{Chart}
use Rattle.spec_log.specs.Log.{State, load_step, step_of}
use Rattle.log_state.specs.State.{Charts, Ran}
use Rattle.log_events.specs.Both.{Both}
use Rattle.log_waiting.specs.Waiting.{waiting_in}

-- the buffers hold the state: both charts its tables, and the first n numbers its waiting table
pub record Running (s : State) (d e : Chart) (waiting : List ℕ) (n : ℕ) : Type 0 where
  pub charts : Charts s d e
  pub waits : s.waiting ≡ waiting_in waiting n

-- command 2 was made on chart c, whatever state the charts held
abbrev pub RanLoad : ℕ → Both → Both → List ℕ → ℕ → ℕ → ℕ → List ℕ → List ℕ → Type 0
RanLoad c b b' waiting w at next before after = (s : State) → Running s b.first b.second waiting w
    → Ran (load_step c s) at next before after b'.first b'.second

-- a command that is an edit was made of the bytes held
abbrev pub RanEdit : List ℕ → Both → Both → ℕ → ℕ → List ℕ → List ℕ → Type 0
RanEdit held b b' at next before after = (s : State) → Charts s b.first b.second
    → Ran (step_of (get_or held 0 0) (drop 1 held) s) at next before after b'.first b'.second
