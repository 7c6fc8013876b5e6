-- Both charts of the command program, so that a contract names them in a word.
-- Assumes nothing.
use Rattle.std.specs.Prelude.{ℕ}
use Rattle.spec_calls.specs.Buffers.{Chart}
use Rattle.spec_calls.specs.Lent.{viewed_mut, SameLists}
use Rattle.log_state.specs.State.{chart_in}
use Rattle.log_events.specs.declared.BothCharts.{BothCharts}

-- two charts
pub record Both : Type 0 where
  pub first : Chart
  pub second : Chart

-- the two charts that are lent, as they stand
abbrev pub both_viewed : BothCharts → Both
both_viewed b = record { first = viewed_mut b.first; second = viewed_mut b.second }

-- the lists of both are the same lists of the caller's before and after
pub record SameBoth (before after : BothCharts) : Type 0 where
  pub first : SameLists before.first after.first
  pub second : SameLists before.second after.second

-- the entry count of the chart that a command names by c
abbrev pub entries_in : ℕ → Both → ℕ
entries_in c b = (chart_in c b.first b.second).entry_count
