-- What the call of a window answers on a chart that passes checks 1 and 2: the triangles that have a point in common with the window
-- and are listed in a cell near it; on an indexed chart all of the whole table that have such a point.
-- The idea: past its refusals the call lists what `window_of` gives, and what is in that is known.
-- Assumes nothing.
use mathlib.Core.Path.{◌≡◌, ◌∙◌, ap}
use mathlib.Core.Bool.{true, false}
use mathlib.Core.List.{List, Memᴰ}
use mathlib.Core.Logic.{◌↔◌}
use Prim.Native.Nat.{ℕ, ◌≤◌, ◌<◌}
use native.Mathlib.Omega.{arith}
use borrow.Author.Tests.{ltb-false, le-ltb}
use lib.Dec.{ltb}
use lib.ListN.{length, get_or}
use Rattle.theory_lists.specs.Lists.{filter, up_to}
use Rattle.theory_lists.proofs.Reflects.{or-neither}
use Rattle.theory_lists.proofs.Order.{ordered_at, rising-ordered}
use Rattle.spec_plane.specs.Box.{Box, triangle_meets}
use Rattle.spec_plane.proofs.ExtremeLaws.{OnGrid}
use Rattle.laws_separation.proofs.Boxes.{NotEmpty}
use Rattle.laws_separation.proofs.Meets.{CommonPoint}
use Rattle.spec_charts.specs.Table.{numbered}
use Rattle.spec_charts.specs.Refusals.{refuse_if}
use Rattle.spec_window.specs.Window.{window_of, empty_window, window_length}
use Rattle.laws_charts.proofs.WindowLaws.{ListedNear, window-listed, window-rising, window-few, window-of-table, window-meaning}
use Rattle.spec_calls.specs.Buffers.{Chart, too_short, chain_rule, indexed, chart_table, chart_entries, padded}
use Rattle.spec_calls.specs.Calls.{Windowed, windowed_by, window_call}
use Rattle.laws_calls.proofs.BufferLaws.{ruled}
use Rattle.laws_calls.proofs.LocateLaws.{chart-table-length, entries-indexed}

-- the answer that lists these numbers: "The number listed is returned beside the 0", "the places left over hold 0"
abbrev pub listed_in : List ℕ → List ℕ → Windowed
listed_in is before = record { number = 0; listed = length is; list = padded window_length is before }

-- the answer o lists, in a list that held `before`, the triangles below the count that have P: "and no other, ascending, each once, into
-- a lent list of 512"
pub record WindowLists (count : ℕ) (P : ℕ → Type 0) (before : List ℕ) (o : Windowed) : Type 0 where
  pub numbers : List ℕ
  pub exactly : (i : ℕ) → Memᴰ i numbers ↔ ((i < count) × P i)
  pub ascending : (m n : ℕ) → m < n → n < length numbers → get_or numbers m 0 < get_or numbers n 0
  pub fits : length numbers ≤ window_length
  pub answer : o ≡ listed_in numbers before

-- a window that 15 does not turn away has points: "A window of no width or no height is allowed"
pub window-full : (w : Box) → empty_window w ≡ false → NotEmpty w
unfolding empty_window
window-full w e =
    let h = or-neither (ltb w.right w.left) (ltb w.bottom w.top) e in
    (ltb-false w.right w.left h.0, ltb-false w.bottom w.top h.1)

module _ (c : Chart) (s : too_short c ≡ false) (r : chain_rule c ≡ true) (w : Box) (e : empty_window w ≡ false) (before : List ℕ) (room : window_length ≤ length before) where
  -- past the refusals
  pub window-passes : window_call c w before ≡ listed_in (window_of (chart_table c) (chart_entries c) w) before
  unfolding window_call windowed_by refuse_if
  window-passes = rw (s, le-ltb (length before) window_length room, r, e)

  -- what is in the window decides what the answer lists
  lists : (P : ℕ → Type 0) → ((i : ℕ) → Memᴰ i (window_of (chart_table c) (chart_entries c) w) ↔ ((i < length (chart_table c)) × P i))
      → WindowLists c.triangle_count P before (window_call c w before)
  lists P exactly =
      let few = window-few (chart_table c) (chart_entries c) w in
      record {
        numbers = window_of (chart_table c) (chart_entries c) w;
        exactly = rw (chart-table-length c) at exactly;
        ascending = λ m n h l. ordered_at m n 0 (rising-ordered (window-rising (chart_table c) (chart_entries c) w)) h l;
        fits = omega (arith, few, chart-table-length c, (ruled c r).triangles);
        answer = window-passes;
      }

  -- "For a chart that passes check 2 and is not filed, only triangles listed in a cell whose closed square shares a point with the
  -- rectangle count", and of them those that have "a point in common with that closed rectangle"; it "may be fractional"
  pub window-unfiled : WindowLists c.triangle_count (λ i. CommonPoint (numbered (chart_table c) i) w × ListedNear (chart_entries c) w i) before (window_call c w before)
  window-unfiled =
      lists _ (window-listed w (window-full w e) (chart_table c) (ruled c r).good (chart_entries c))

  -- a filed chart, and a window of "16-bit numbers"
  module _ (f : indexed c ≡ true) (grid : OnGrid (record { x = w.right; y = w.bottom })) where
    -- "For a filed chart, the list is that of the whole table, not only of the cells visited"
    pub window-filed : window_call c w before ≡ listed_in (filter (λ i. triangle_meets (numbered (chart_table c) i) w) (up_to (length (chart_table c)))) before
    window-filed =
        window-passes
        ∙ ap (λ es. listed_in (window_of (chart_table c) es w) before) (entries-indexed c f)
        ∙ ap (λ is. listed_in is before) (window-of-table w (window-full w e) (chart_table c) (ruled c r).good grid)

    -- "list every triangle of a chart that has a point in common with that closed rectangle, and no other"; it "may be fractional"
    pub window-filed-lists : WindowLists c.triangle_count (λ i. CommonPoint (numbered (chart_table c) i) w) before (window_call c w before)
    window-filed-lists =
        lists _ (rw (entries-indexed c f) (window-meaning w (window-full w e) (chart_table c) (ruled c r).good grid))
