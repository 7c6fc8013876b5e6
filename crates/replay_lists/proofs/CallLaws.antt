-- One call by its numbers: how many they are, and which call of a chart they make.
-- Assumes nothing.
use mathlib.Core.Path.{◌≡◌, sym, ◌∙◌}
use mathlib.Core.List.{List}
use Prim.Native.Nat.{ℕ, ◌-◌, ◌≤◌}
use native.Mathlib.Omega.{arith}
use borrow.Author.Tests.{ne_eqb}
use lib.ListN.{length, get_or, take, drop, length-drop}
use lib.Seq.{take_all}
use Rattle.spec_plane.specs.declared.Point.{Point}
use Rattle.spec_charts.specs.Table.{point_at}
use Rattle.spec_calls.specs.Buffers.{Chart}
use Rattle.spec_calls.specs.Calls.{load_call, insert_call, take_out_call, flip_call}
use Rattle.spec_calls.specs.History.{event_call}
use Rattle.replay_calls.specs.Encoding.{IsCall, call_event}
use Rattle.replay_calls.proofs.EncodingLaws.{length-load, length_three}

module _ (ns : List ℕ) where
  abbrev command : ℕ
  command = get_or ns 0 0

  abbrev next : ℕ
  next = get_or ns 1 0

  -- ---- how many numbers

  module _ (h : IsCall ns) where
    pub load-long : command ≡ 2 → 2 ≤ length ns
    load-long e = let w = h.whole in omega (arith, length-load command next e)

    pub edit-long : (command ≡ 2 → ⊥) → length ns ≡ 3
    edit-long l = let w = h.whole in let some = h.some in sym w ∙ length_three command next l (omega arith)

  -- ---- which call

  module _ (c : Chart) where
    pub load-event : command ≡ 2 → load_call (take (length ns - 2) (drop 2 ns)) c ≡ event_call (call_event ns) c
    unfolding call_event event_call
    load-event e = rw (e, take_all (length ns - 2) (drop 2 ns) (omega (arith, length-drop 2 ns)))

    pub insert-event : {p : Point} → p ≡ point_at ns 1 → command ≡ 3 → insert_call p c ≡ event_call (call_event ns) c
    unfolding call_event event_call
    insert-event is e = rw (e, is)

    pub take_out-event : {p : Point} → p ≡ point_at ns 1 → command ≡ 4 → take_out_call p c ≡ event_call (call_event ns) c
    unfolding call_event event_call
    take_out-event is e = rw (e, is)

    pub flip-event : {i j : ℕ} → i ≡ get_or ns 1 0 → j ≡ get_or ns 2 0 → (command ≡ 2 → ⊥) → (command ≡ 3 → ⊥) → (command ≡ 4 → ⊥)
        → flip_call i j c ≡ event_call (call_event ns) c
    unfolding call_event event_call
    flip-event i j l n t = rw (ne_eqb command 2 l, ne_eqb command 3 n, ne_eqb command 4 t, i, j)
