-- The answer of a window at each refusal, and where it is filled.
-- Assumes nothing.
use mathlib.Core.Path.{◌≡◌, sym, ◌∙◌, ap, ap₂}
use mathlib.Core.Bool.{true, false, ◌||◌}
use mathlib.Core.List.{List}
use Prim.Native.Nat.{ℕ, ◌≤◌}
use borrow.Author.Tests.{ltb-false}
use lib.Dec.{ltb}
use lib.ListN.{length}
use Rattle.theory_lists.proofs.Reflects.{or-neither}
use Rattle.spec_plane.specs.Box.{Box}
use Rattle.spec_charts.specs.declared.Refusal.TheVariants.{ShortBuffer, BrokenChain, EmptyWindow}
use Rattle.spec_charts.specs.Refusals.{refuse_if}
use Rattle.spec_window.specs.Window.{window_of, empty_window, window_length}
use Rattle.spec_calls.specs.Buffers.{Chart, too_short, chain_rule, chart_table, chart_entries}
use Rattle.spec_calls.specs.Calls.{windowed_by, window_call}
use Rattle.laws_calls.proofs.WindowCalls.{window-passes}
use Rattle.std.specs.Prelude.{Ok, Err}
use Rattle.base_answers.specs.Outcomes.{windowed_of}
use Rattle.call_window.specs.Filled.{Filled}

module _ (c : Chart) (w : Box) (before : List ℕ) where
  -- 1, of the chart's buffers and the list
  pub window-short : too_short c || ltb (length before) window_length ≡ true
      → windowed_of (Err ShortBuffer) before ≡ window_call c w before
  unfolding window_call windowed_by refuse_if
  window-short h = rw h

  module _ (long : too_short c || ltb (length before) window_length ≡ false) where
    pub chart-long : too_short c ≡ false
    chart-long = (or-neither (too_short c) (ltb (length before) window_length) long).0

    pub list-long : window_length ≤ length before
    list-long = ltb-false (length before) window_length (or-neither (too_short c) (ltb (length before) window_length) long).1

    -- 2
    pub window-broken : chain_rule c ≡ false
        → windowed_of (Err BrokenChain) before ≡ window_call c w before
    unfolding window_call windowed_by refuse_if
    window-broken h = rw (long, h)

    module _ (chained : chain_rule c ≡ true) where
      -- 15
      pub window-empty : empty_window w ≡ true
          → windowed_of (Err EmptyWindow) before ≡ window_call c w before
      unfolding window_call windowed_by refuse_if
      window-empty h = rw (long, chained, h)

      -- accepted
      pub window-filled : empty_window w ≡ false → {list : List ℕ} {r : ℕ} → Filled (window_of (chart_table c) (chart_entries c) w) before list r
          → windowed_of (Ok r) list ≡ window_call c w before
      window-filled h f =
          ap₂ (λ n l. windowed_of (Ok n) l) f.count f.filled
          ∙ sym (window-passes c chart-long chained w h before list-long)
