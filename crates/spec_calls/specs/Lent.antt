-- What a caller lends to a call: each list as it is at entry and at exit, so that a contract names a chart in a word.
-- Assumes nothing.
use Rattle.std.specs.Prelude.{◌≡◌, List, ℕ, length}
use Rattle.std.specs.Borrow.{Bor, MutBor}
use denote.Triple.Both.{Both}
use Rattle.spec_calls.specs.Buffers.{Chart, chart_of}
use Rattle.spec_calls.specs.declared.ChartView.{ChartView}
use Rattle.spec_calls.specs.declared.ChartMut.{ChartMut}

-- the chart that a view shows
abbrev pub viewed : ChartView → Chart
viewed v = chart_of v.table.now v.keys.now v.levels.now v.items.now v.triangles v.entries

-- the chart that is lent to be written, as it stands
abbrev pub viewed_mut : ChartMut → Chart
viewed_mut c = chart_of c.table.now c.keys.now c.levels.now c.items.now c.triangles c.entries

-- the lists of a chart lent to be written are the same four lists of the caller's before and after, and as long as before
pub record SameLists (before after : ChartMut) : Type 0 where
  pub table : after.table.ghost_name ≡ before.table.ghost_name
  pub keys : after.keys.ghost_name ≡ before.keys.ghost_name
  pub levels : after.levels.ghost_name ≡ before.levels.ghost_name
  pub items : after.items.ghost_name ≡ before.items.ghost_name
  pub table_length : length after.table.now ≡ length before.table.now
  pub keys_length : length after.keys.now ≡ length before.keys.now
  pub levels_length : length after.levels.now ≡ length before.levels.now
  pub items_length : length after.items.now ≡ length before.items.now

-- a list that a caller lends to be read, at one moment
abbrev pub Held : Type 0
Held = Bor (List ℕ)

-- a list that a caller lends to be written, at one moment
abbrev pub HeldMut : Type 0
HeldMut = MutBor (List ℕ)

-- the chart that four lists hold at one moment, with these counts
abbrev pub held : Held → Held → Held → Held → ℕ → ℕ → Chart
held table keys levels items triangles entries =
    chart_of table.now keys.now levels.now items.now triangles entries

-- the same of lists to be written
abbrev pub held_mut : HeldMut → HeldMut → HeldMut → HeldMut → ℕ → ℕ → Chart
held_mut table keys levels items triangles entries =
    chart_of table.now keys.now levels.now items.now triangles entries

-- a list that a caller lends to be read, at entry and at exit
abbrev pub Shown : Type 0
Shown = Both Held Held

-- the chart that is lent to be read, at entry
abbrev pub shown : Shown → Shown → Shown → Shown → ℕ → ℕ → Chart
shown table keys levels items = held table.entry keys.entry levels.entry items.entry

-- a list that a caller lends to be written, at entry and at exit
abbrev pub Lent : Type 0
Lent = Both HeldMut HeldMut

-- the chart that is lent to be written, at entry
abbrev pub given : Lent → Lent → Lent → Lent → ℕ → ℕ → Chart
given table keys levels items = held_mut table.entry keys.entry levels.entry items.entry

-- and at exit
abbrev pub left_chart : Lent → Lent → Lent → Lent → ℕ → ℕ → Chart
left_chart table keys levels items = held_mut table.exit keys.exit levels.exit items.exit
