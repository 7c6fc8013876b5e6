-- A list of calls run one after another.
-- Assumes nothing.
use mathlib.Core.Path.{◌≡◌, sym, ◌∙◌, ap}
use mathlib.Core.List.{List}
use Prim.Native.Nat.{ℕ, ◌≤◌, ◌<◌}
use native.Mathlib.Omega.{arith}
use lib.ListN.{length, take, drop}
use Rattle.spec_calls.specs.Buffers.{Chart}
use Rattle.spec_calls.specs.History.{event_call, chart_after}
use Rattle.replay_calls.specs.Encoding.{whole_call, IsCall, call_event, decode}
use Rattle.replay_calls.proofs.EncodingLaws.{whole-within, whole-call, decode-none, decode-more}

module _ (calls : List ℕ) {size : ℕ} (p : 0 < size) (e : size ≡ whole_call calls) where
  -- a call is within the list
  pub run-within : size ≤ length calls
  run-within = omega (arith, whole-within calls)

  pub run-call : IsCall (take size calls)
  run-call = rw e (whole-call calls (omega arith))

  -- the rest of the list makes of the chart after the call what the list makes of the chart before it
  pub run-rest : (c : Chart) {d : Chart} → d ≡ (event_call (call_event (take size calls)) c).chart → chart_after (decode (drop size calls)) d ≡ chart_after (decode calls) c
  unfolding chart_after
  run-rest c {d} h =
      ap (chart_after (decode (drop size calls))) h
      ∙ ap (λ n. chart_after (decode (drop n calls)) (event_call (call_event (take n calls)) c).chart) e
      ∙ ap (λ es. chart_after es c) (sym (decode-more calls (omega arith)))

-- a list without a call leaves the chart
pub run-none : (calls : List ℕ) (c : Chart) → whole_call calls ≡ 0 → chart_after (decode calls) c ≡ c
unfolding chart_after
run-none calls c z = ap (λ es. chart_after es c) (decode-none calls z)
