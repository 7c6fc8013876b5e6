-- The numbers of the waiting table, in a list with room before them for the call that loads them.
-- Assumes nothing.
use Rattle.std.specs.Prelude.{◌≡◌, List, ℕ, ◌+◌, ◌%◌, ◌≤◌, length, take, drop}
use Rattle.spec_charts.specs.Table.{numbers_per_triangle, table_length}
use Rattle.spec_log.specs.Log.{State, wait_step}
use Rattle.log_lines.specs.Bytes.{Wrote}

-- n is a number of numbers that wait: whole triangles, at most 512
pub record Whole (n : ℕ) : Type 0 where
  pub triangles : n % numbers_per_triangle ≡ 0
  pub few : n ≤ table_length

-- the waiting table's numbers stand after the command of the call that loads them, and their number
abbrev pub call_head : ℕ
call_head = 2

-- how long the list for them is
abbrev pub waiting_length : ℕ
waiting_length = call_head + table_length

-- n numbers wait in the list
abbrev pub waiting_in : List ℕ → ℕ → List ℕ
waiting_in waiting n = take n (drop call_head waiting)

-- command 1 was made with the numbers ws: what it prints is written, and what waits after it waits in the list
pub record Waited (ws : List ℕ) (at next : ℕ) (before after : List ℕ) (n m : ℕ) (waiting waiting' : List ℕ) : Type 0 where
  pub wrote : (s : State) → s.waiting ≡ waiting_in waiting n → Wrote (wait_step ws s).printed at next before after
  pub waits : (s : State) → s.waiting ≡ waiting_in waiting n → (wait_step ws s).after.waiting ≡ waiting_in waiting' m
  pub whole : Whole m
  pub room : next ≤ length after
