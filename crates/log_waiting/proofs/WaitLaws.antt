-- The numbers of the waiting table.
-- Assumes nothing.
use mathlib.Core.Path.{◌≡◌, refl, sym, ◌∙◌, ap}
use mathlib.Core.Bool.{Bool, true, false}
use mathlib.Core.List.{List, [], ◌∷◌, ◌++◌}
use Prim.Native.Nat.{ℕ, suc, ◌+◌, ◌≤◌, ◌<◌}
use native.Mathlib.Omega.{arith}
use borrow.Author.Tests.{lt-ltb, le-ltb}
use lib.Dec.{ltb}
use lib.ListN.{length, take, drop, set, length-append, length-drop}
use lib.Seq.{sets, sets-eq, take_at, drop-set-add, length-take-le}
use Rattle.spec_charts.specs.Table.{table_length}
use Rattle.spec_calls.specs.Buffers.{Chart}
use Rattle.spec_log.specs.Log.{State, line, with_waiting, wait_step}
use Rattle.log_lines.specs.Bytes.{Wrote}
use Rattle.log_lines.proofs.LineLaws.{wrote_none}
use Rattle.log_state.specs.State.{Charts}
use Rattle.log_waiting.specs.Waiting.{Whole, call_head, waiting_length, waiting_in, Waited}

-- what is stored after the first k places is stored in the rest of the list
drop-sets : (k : ℕ) (l : List ℕ) (i : ℕ) (vs : List ℕ) → drop k (sets l (k + i) vs) ≡ sets (drop k l) i vs
drop-sets k l i [] = refl
drop-sets k l i (v ∷ vs) =
    ap (λ j. drop k (sets (set l (k + i) v) j vs)) (omega arith)
    ∙ drop-sets k (set l (k + i) v) (suc i) vs
    ∙ ap (λ m. sets m (suc i) vs) (drop-set-add k l i v)

-- numbers stored after those that wait wait too
stored-after : (ws l : List ℕ) (n : ℕ) → n + length ws ≤ length l → take (n + length ws) (sets l n ws) ≡ take n l ++ ws
stored-after ws l n h =
    let front : length (take n l ++ ws) ≡ n + length ws = length-append (take n l) ws ∙ omega (arith, length-take-le n l (omega arith)) in
    ap (take (n + length ws)) (sets-eq ws l n h) ∙ take_at (take n l ++ ws) (drop (n + length ws) l) (n + length ws) front

module _ (ws : List ℕ) (n at : ℕ) (out waiting : List ℕ) (h : Whole n) (long : waiting_length ≤ length waiting) where
  waiting-length : length (waiting_in waiting n) ≡ n
  waiting-length = let few = h.few in length-take-le n (drop call_head waiting) (omega (arith, length-drop call_head waiting))

  -- a triangle more waits
  pub wait-more : {waiting' : List ℕ} → n < table_length → length ws ≡ 6 → at ≤ length out
      → Wrote ws (call_head + n) (call_head + n + 6) waiting waiting' → Waited ws at at out out n (n + 6) waiting waiting'
  unfolding wait_step with_waiting
  wait-more {waiting'} few six room w =
      let whole = h.triangles in
      let test : (s : State) → s.waiting ≡ waiting_in waiting n → ltb (length s.waiting) table_length ≡ true = λ s e.
      rw e (lt-ltb (length (waiting_in waiting n)) table_length (omega (arith, waiting-length))) in
      let stored : waiting_in waiting' (n + 6) ≡ waiting_in waiting n ++ ws =
      ap (λ l. take (n + 6) (drop call_head l)) w.stored ∙ ap (take (n + 6)) (drop-sets call_head waiting n ws)
      ∙ ap (λ k. take (n + k) (sets (drop call_head waiting) n ws)) (sym six)
      ∙ stored-after ws (drop call_head waiting) n (omega (arith, length-drop call_head waiting)) in
      record {
        wrote = λ s e. rw (test s e, wait_step) (wrote_none at out room);
        waits = λ s e. rw (test s e, wait_step) (ap (λ l. l ++ ws) e ∙ sym stored);
        whole = record { triangles = omega arith; few = omega arith };
        room = room;
      }

  -- or 512 wait, and it is dropped
  pub wait-full : {next : ℕ} {out' : List ℕ} → table_length ≤ n → Wrote (line 1 (4 ∷ [])) at next out out'
      → Waited ws at next out out' n n waiting waiting
  unfolding wait_step
  wait-full few w =
      let test : (s : State) → s.waiting ≡ waiting_in waiting n → ltb (length s.waiting) table_length ≡ false = λ s e.
      rw e (le-ltb (length (waiting_in waiting n)) table_length (omega (arith, waiting-length))) in
      record {
        wrote = λ s e. rw (test s e, wait_step) w;
        waits = λ s e. rw (test s e, wait_step) e;
        whole = h;
        room = w.room;
      }

-- the charts play no part in it
pub wait-charts : (ws : List ℕ) (s : State) {d e : Chart} → Charts s d e → Charts (wait_step ws s).after d e
unfolding wait_step with_waiting
wait-charts ws s {d} {e} h = go (ltb (length s.waiting) table_length) refl
  where
    go : (b : Bool) → ltb (length s.waiting) table_length ≡ b → Charts (wait_step ws s).after d e
    go true q = rw (q, wait_step) (record { first = h.first; second = h.second })
    go false q = rw (q, wait_step) h
