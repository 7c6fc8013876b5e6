-- The calls that commands 2 to 5 are, from the bytes held and the waiting table.
-- The idea: the numbers of an edit's call are its command byte and its operands, and those of a load are the waiting table after two more.
-- Assumes nothing.
use mathlib.Core.Path.{◌≡◌, refl, sym, ◌∙◌, ap, subst}
use mathlib.Core.List.{List, [], ◌∷◌}
use Prim.Native.Nat.{ℕ, zero, suc, ◌+◌, ◌≤◌}
use native.Mathlib.Omega.{arith}
use borrow.Author.Tests.{le-leb}
use lib.ListN.{length, get_or, take, drop, set, length-drop}
use lib.Seq.{length-take-le}
use Rattle.spec_charts.specs.Table.{Table, point_at}
use Rattle.spec_charts.specs.Refusals.{Outcome}
use Rattle.spec_charts.specs.Edits.{load, event_on}
use Rattle.spec_calls.specs.Buffers.{Chart}
use Rattle.spec_log.specs.Log.{State, Step, table_in, with_chart, with_waiting, event_step, load_step, point_operand, run_command, step_of}
use Rattle.replay_calls.specs.Encoding.{IsCall, call_length, call_event}
use Rattle.replay_calls.proofs.EncodingLaws.{length-edit}
use Rattle.log_state.specs.State.{Charts, Ran}
use Rattle.log_bytes.specs.Words.{word_at, edit_numbers}
use Rattle.log_bytes.proofs.WordLaws.{step-two}
use Rattle.log_waiting.specs.Waiting.{call_head, waiting_in}

-- the same step, said otherwise
pub ran-as : {st st' : Step} {at next : ℕ} {out out' : List ℕ} {d e : Chart} → st ≡ st' → Ran st at next out out' d e → Ran st' at next out out' d e
ran-as {at = at} {next = next} {out = out} {out' = out'} {d = d} {e = e} is r = subst (λ st. Ran st at next out out' d e) is r

-- ---- commands 3 to 5

-- the numbers of an edit's call
pub edit-call : (b x y : ℕ) → 3 ≤ b → b ≤ 5 → IsCall (b ∷ x ∷ y ∷ [])
edit-call b x y h k = record { some = omega arith; whole = length-edit b x (λ e. omega arith) (rw (le-leb 3 b h, le-leb b 5 k)) }

-- its event is the command's
step-numbers : (b c x y : ℕ) (s : State) → 3 ≤ b → b ≤ 5
    → event_step b c (event_on (call_event (b ∷ x ∷ y ∷ [])) (table_in c s)) s ≡ run_command b c (x ∷ y ∷ []) s
unfolding run_command point_operand call_event point_at
step-numbers zero c x y s h k = absurd (omega arith)
step-numbers (suc zero) c x y s h k = absurd (omega arith)
step-numbers (suc (suc zero)) c x y s h k = absurd (omega arith)
step-numbers (suc (suc (suc zero))) c x y s h k = refl
step-numbers (suc (suc (suc (suc zero)))) c x y s h k = refl
step-numbers (suc (suc (suc (suc (suc zero))))) c x y s h k = refl
step-numbers (suc (suc (suc (suc (suc (suc b)))))) c x y s h k = absurd (omega arith)

pub step-edit : (b : ℕ) (bytes : List ℕ) (s : State) → 3 ≤ b → b ≤ 5
    → event_step b (get_or bytes 1 0) (event_on (call_event (b ∷ word_at bytes 2 ∷ word_at bytes 4 ∷ [])) (table_in (get_or bytes 1 0) s)) s ≡ step_of b (drop 1 bytes) s
step-edit b bytes s h k = step-numbers b (get_or bytes 1 0) (word_at bytes 2) (word_at bytes 4) s h k ∙ sym (step-two b bytes s h (omega arith))

-- so the call of an edit is the edit's step
pub edit-ran : (bytes call : List ℕ) → call ≡ edit_numbers bytes → 3 ≤ get_or bytes 0 0 → get_or bytes 0 0 ≤ 5 → (s : State)
    → {at next : ℕ} {out out' : List ℕ} {d e : Chart}
    → Ran (event_step (get_or call 0 0) (get_or bytes 1 0) (event_on (call_event call) (table_in (get_or bytes 1 0) s)) s) at next out out' d e
    → Ran (step_of (get_or bytes 0 0) (drop 1 bytes) s) at next out out' d e
edit-ran bytes call is h k s ran =
    let c = get_or bytes 1 0 in
    ran-as (ap (λ ns. event_step (get_or ns 0 0) c (event_on (call_event ns) (table_in c s)) s) is ∙ step-edit (get_or bytes 0 0) bytes s h k) ran

-- an event leaves the waiting table
pub event-waiting : (b c : ℕ) (o : Outcome Table) (s : State) → (event_step b c o s).after.waiting ≡ s.waiting
unfolding event_step with_chart
event-waiting b zero o s = refl
event-waiting b (suc c) o s = refl

-- ---- command 2

-- with two numbers before it the waiting table is the call that loads it
pub load-numbers : (n : ℕ) (waiting : List ℕ) → 2 ≤ length waiting → take (call_head + n) (set (set waiting 0 2) 1 n) ≡ 2 ∷ n ∷ waiting_in waiting n
load-numbers n [] h = absurd (omega arith)
load-numbers n (x ∷ []) h = absurd (omega arith)
load-numbers n (x ∷ y ∷ l) h = let e : call_head + n ≡ suc (suc n) = omega arith in ap (λ k. take k (2 ∷ n ∷ l)) e

pub load-call : (n : ℕ) (waiting : List ℕ) → call_head + n ≤ length waiting → IsCall (2 ∷ n ∷ waiting_in waiting n)
unfolding call_length
load-call n waiting h =
    record { some = omega arith; whole = omega (arith, length-take-le n (drop call_head waiting) (omega (arith, length-drop call_head waiting))) }

-- the tables are those of the state, whatever waits
pub charts-emptied : (s : State) {d e : Chart} → Charts s d e → Charts (with_waiting [] s) d e
unfolding with_waiting
charts-emptied s h = record { first = h.first; second = h.second }

step-of-load : (n : ℕ) (ns : List ℕ) (s : State) → s.waiting ≡ ns → (c : ℕ)
    → event_step 2 c (event_on (call_event (2 ∷ n ∷ ns)) (table_in c (with_waiting [] s))) (with_waiting [] s) ≡ load_step c s
unfolding load_step call_event table_in with_waiting
step-of-load n ns s e zero = rw e
step-of-load n ns s e (suc c) = rw e

-- the call of the load, on the state where nothing waits, is the load's step
pub load-ran : (n : ℕ) (waiting call : List ℕ) → call ≡ 2 ∷ n ∷ waiting_in waiting n → (s : State) → s.waiting ≡ waiting_in waiting n → (c : ℕ)
    → {at next : ℕ} {out out' : List ℕ} {d e : Chart}
    → Ran (event_step (get_or call 0 0) c (event_on (call_event call) (table_in c (with_waiting [] s))) (with_waiting [] s)) at next out out' d e
    → Ran (load_step c s) at next out out' d e
load-ran n waiting call is s e c ran =
    let t = with_waiting [] s in
    ran-as (ap (λ ns. event_step (get_or ns 0 0) c (event_on (call_event ns) (table_in c t)) t) is ∙ step-of-load n (waiting_in waiting n) s e c) ran

pub load-empties : (c : ℕ) (s : State) → (load_step c s).after.waiting ≡ []
unfolding load_step with_waiting
load-empties c s = event-waiting 2 c (event_on (load s.waiting) (table_in c s)) (with_waiting [] s)
