-- A call on one of two charts.
-- Assumes nothing.
use Rattle.std.specs.Prelude.{◌≡◌, List, ℕ, Result, get_or}
use Rattle.spec_charts.specs.Refusals.{outcome_number, outcome_value}
use Rattle.spec_charts.specs.Edits.{Event, event_on}
use Rattle.spec_calls.specs.Buffers.{Chart}
use Rattle.spec_calls.specs.History.{event_call}
use Rattle.spec_log.specs.Log.{State, table_in, event_step}
use Rattle.spec_charts.specs.declared.Refusal.{Refusal}
use Rattle.base_answers.specs.Outcomes.{outcome_of}
use Rattle.replay_calls.specs.Encoding.{call_event}
use Rattle.log_state.specs.State.{Charts, Ran, chart_in}
use Rattle.log_events.specs.Both.{Both}

-- the call of the event e on the chart of d₀ and d₁ that c names gave r, and left d₀' and d₁': that chart as the call leaves it, and the
-- other as it was
pub record CalledOn (c : ℕ) (e : Event) (d₀ d₁ : Chart) (r : Result (Unit {0}) Refusal) (d₀' d₁' : Chart) : Type 0 where
  pub number : outcome_number (outcome_of r) ≡ (event_call e (chart_in c d₀ d₁)).number
  pub value : outcome_value (outcome_of r) ≡ (event_call e (chart_in c d₀ d₁)).value
  pub first : d₀' ≡ chart_in c (event_call e d₀).chart d₀
  pub second : d₁' ≡ chart_in c d₁ (event_call e d₁).chart

-- room enough for a line of four 64-bit numbers: twenty digits each, and a byte after each
abbrev pub line_room : ℕ
line_room = 84

-- the same of both charts, the call by its numbers
abbrev pub Called : ℕ → List ℕ → Both → Result (Unit {0}) Refusal → Both → Type 0
Called c call b r b' = CalledOn c (call_event call) b.first b.second r b'.first b'.second

-- the call was made on chart c as a step of the program, whatever tables the charts held
abbrev pub RanCall : ℕ → List ℕ → Both → Both → ℕ → ℕ → List ℕ → List ℕ → Type 0
RanCall c call b b' at next before after = (s : State) → Charts s b.first b.second
    → Ran (event_step (get_or call 0 0) c (event_on (call_event call) (table_in c s)) s) at next before after b'.first b'.second
