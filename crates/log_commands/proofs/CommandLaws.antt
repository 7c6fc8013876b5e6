-- The step of each command, from the bytes held.
-- The idea: the command byte chooses among seven.
-- Assumes nothing.
use mathlib.Core.Path.{◌≡◌, refl, sym, ◌∙◌, ap, subst}
use mathlib.Core.List.{List}
use Prim.Native.Nat.{ℕ, ◌≤◌}
use native.Mathlib.Omega.{arith}
use borrow.Author.Tests.{ne_eqb}
use lib.ListN.{get_or, drop}
use lib.Seq.{get_or-drop}
use Rattle.spec_calls.specs.Buffers.{Chart}
use Rattle.spec_log.specs.Log.{State, Step, wait_step, load_step, locate_step, overlay_step, point_operand, run_command, takes_chart, word_count, chart_bytes, words_of, step_of}
use Rattle.log_lines.specs.Bytes.{Wrote}
use Rattle.log_state.specs.State.{Ran}
use Rattle.log_bytes.specs.Words.{word_at}
use Rattle.log_bytes.proofs.WordLaws.{step-two}
use Rattle.log_waiting.specs.Waiting.{waiting_in, Waited}
use Rattle.log_waiting.proofs.WaitLaws.{wait-charts}
use Rattle.log_edits.specs.Edits.{Running}
use Rattle.log_edits.proofs.EditLaws.{step-edit, event-waiting, load-empties}
use Rattle.log_commands.specs.Commands.{RanCommand}

module _ (b : ℕ) (bytes : List ℕ) (s : State) where
  pub step-wait : b ≡ 1 → wait_step (words_of 6 (drop 1 bytes)) s ≡ step_of b (drop 1 bytes) s
  unfolding step_of run_command word_count chart_bytes takes_chart
  step-wait e = rw e

  pub step-locate : b ≡ 6 → locate_step (get_or bytes 1 0) (record { x = word_at bytes 2; y = word_at bytes 4 }) s ≡ step_of b (drop 1 bytes) s
  unfolding run_command point_operand
  step-locate e = sym (step-two b bytes s (omega arith) (omega arith) ∙ rw e)

  pub step-overlay : (b ≡ 1 → ⊥) → (b ≡ 2 → ⊥) → (b ≡ 3 → ⊥) → (b ≡ 4 → ⊥) → (b ≡ 5 → ⊥) → (b ≡ 6 → ⊥) → overlay_step s ≡ step_of b (drop 1 bytes) s
  unfolding step_of run_command
  step-overlay h1 h2 h3 h4 h5 h6 = rw (ne_eqb b 1 h1, ne_eqb b 2 h2, ne_eqb b 3 h3, ne_eqb b 4 h4, ne_eqb b 5 h5, ne_eqb b 6 h6)

pub step-load : (b : ℕ) (bytes : List ℕ) (s : State) → b ≡ 2 → load_step (get_or bytes 1 0) s ≡ step_of b (drop 1 bytes) s
unfolding step_of run_command
step-load b bytes s e = rw (e, sym (get_or-drop 1 bytes 0 0)) refl

-- ---- the commands as steps of the program

ran-command-as : {st st' : Step} {at next : ℕ} {out out' : List ℕ} {d e : Chart} {w : List ℕ} {n : ℕ} → st ≡ st'
    → RanCommand st at next out out' d e w n → RanCommand st' at next out out' d e w n
ran-command-as {at = at} {next = next} {out = out} {out' = out'} {d = d} {e = e} {w = w} {n = n} is r =
    subst (λ st. RanCommand st at next out out' d e w n) is r

module _ (b : ℕ) (bytes : List ℕ) (s : State) {at next : ℕ} {out out' : List ℕ} {d e : Chart} where
  pub as-wait : {n m : ℕ} {w w' : List ℕ} → b ≡ 1 → Waited (words_of 6 (drop 1 bytes)) at next out out' n m w w' → Running s d e w n
      → RanCommand (step_of b (drop 1 bytes) s) at next out out' d e w' m
  as-wait is h r = ran-command-as (step-wait b bytes s is) (record {
    wrote = h.wrote s r.waits;
    running = record { charts = wait-charts (words_of 6 (drop 1 bytes)) s r.charts; waits = h.waits s r.waits };
  })

  pub as_load : (w : List ℕ) → b ≡ 2 → Ran (load_step (get_or bytes 1 0) s) at next out out' d e
      → RanCommand (step_of b (drop 1 bytes) s) at next out out' d e w 0
  as_load w is r = ran-command-as (step-load b bytes s is) (record {
    wrote = r.wrote;
    running = record { charts = r.charts; waits = load-empties (get_or bytes 1 0) s };
  })

  pub as-edit : {w : List ℕ} {n : ℕ} → 3 ≤ b → b ≤ 5 → s.waiting ≡ waiting_in w n → Ran (step_of b (drop 1 bytes) s) at next out out' d e
      → RanCommand (step_of b (drop 1 bytes) s) at next out out' d e w n
  as-edit h k waits r =
      let same = ap (λ st. st.after.waiting) (sym (step-edit b bytes s h k)) ∙ event-waiting _ _ _ s in
      record { wrote = r.wrote; running = record { charts = r.charts; waits = same ∙ waits } }

  pub as-locate : {w : List ℕ} {n : ℕ} (x y : ℕ) → b ≡ 6 → x ≡ word_at bytes 2 → y ≡ word_at bytes 4
      → Wrote (locate_step (get_or bytes 1 0) (record { x = x; y = y }) s).printed at next out out' → Running s d e w n
      → RanCommand (step_of b (drop 1 bytes) s) at next out out' d e w n
  unfolding locate_step
  as-locate x y is f g wrote r = ran-command-as (rw (f, g) (step-locate b bytes s is)) (record { wrote = wrote; running = r })

  pub as-overlay : {w : List ℕ} {n : ℕ} → (b ≡ 1 → ⊥) → (b ≡ 2 → ⊥) → (b ≡ 3 → ⊥) → (b ≡ 4 → ⊥) → (b ≡ 5 → ⊥) → (b ≡ 6 → ⊥)
      → Wrote (overlay_step s).printed at next out out' → Running s d e w n → RanCommand (step_of b (drop 1 bytes) s) at next out out' d e w n
  unfolding overlay_step
  as-overlay h1 h2 h3 h4 h5 h6 wrote r = ran-command-as (step-overlay b bytes s h1 h2 h3 h4 h5 h6) (record { wrote = wrote; running = r })
