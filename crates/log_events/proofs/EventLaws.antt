-- A call on one of two charts that hold the tables of a state: what is printed of it, and what both charts hold after it.
-- Assumes nothing.
use mathlib.Core.Path.{◌≡◌, refl, sym, ◌∙◌, ap}
use mathlib.Core.List.{List, [], ◌∷◌}
use Prim.Native.Nat.{ℕ, zero, suc, ◌^◌, ◌≤◌, ◌<◌}
use native.Mathlib.Omega.{arith}
use borrow.Author.Tests.{eq-eqb, ne_eqb}
use lib.ListN.{length}
use Rattle.theory_lists.proofs.ListsLaws.{every-cons}
use Rattle.theory_lists.proofs.EveryLaws.{every-nil}
use Rattle.spec_charts.specs.Refusals.{outcome_number, outcome_value, done_or}
use Rattle.spec_charts.specs.Edits.{Event, event_on}
use Rattle.spec_calls.specs.Buffers.{Chart}
use Rattle.spec_calls.specs.History.{event_call}
use Rattle.spec_log.specs.Log.{State, line, table_in, with_chart, event_numbers, event_step}
use Rattle.std.specs.Prelude.{Result}
use Rattle.spec_charts.specs.declared.Refusal.{Refusal}
use Rattle.base_answers.specs.Outcomes.{outcome_of, answered}
use Rattle.log_lines.specs.Bytes.{Wrote}
use Rattle.log_lines.proofs.LineLaws.{line-short, wrote_as}
use Rattle.log_state.specs.State.{Charts, Ran, chart_in, told_numbers}
use Rattle.log_state.proofs.HoldingLaws.{holding-event, event-told}
use Rattle.log_events.specs.Events.{CalledOn, line_room}

-- ---- the call on chart 0, or on the other

module _ {r : Result (Unit {0}) Refusal} {d : Chart} where
  pub first-called : (c : ℕ) (e : Event) (d₀ d₁ : Chart) → c ≡ 0 → answered r d ≡ event_call e d₀ → CalledOn c e d₀ d₁ r d d₁
  unfolding chart_in
  first-called c e d₀ d₁ z h =
      rw z (record { number = ap (λ x. x.number) h; value = ap (λ x. x.value) h; first = ap (λ x. x.chart) h; second = refl })

  pub other-called : (c : ℕ) (e : Event) (d₀ d₁ : Chart) → (c ≡ 0 → ⊥) → answered r d ≡ event_call e d₁ → CalledOn c e d₀ d₁ r d₀ d
  unfolding chart_in
  other-called zero e d₀ d₁ z h = absurd (z refl)
  other-called (suc c) e d₀ d₁ z h = record { number = ap (λ x. x.number) h; value = ap (λ x. x.value) h; first = refl; second = ap (λ x. x.chart) h }

-- the entry count of the chart that c names
pub first_entries : (c : ℕ) (d e : Chart) → c ≡ 0 → d.entry_count ≡ (chart_in c d e).entry_count
unfolding chart_in
first_entries c d e z = rw z refl

pub other_entries : (c : ℕ) (d e : Chart) → (c ≡ 0 → ⊥) → e.entry_count ≡ (chart_in c d e).entry_count
unfolding chart_in
other_entries zero d e z = absurd (z refl)
other_entries (suc c) d e z = refl

-- ---- what it comes to, where the charts hold the tables of a state

module _ (e : Event) {d₀ d₁ d₀' d₁' : Chart} {r : Result (Unit {0}) Refusal} (s : State) (h : Charts s d₀ d₁) where
  numbers-told : (c : ℕ) → CalledOn c e d₀ d₁ r d₀' d₁'
      → told_numbers (outcome_number (outcome_of r)) (outcome_value (outcome_of r)) (chart_in c d₀' d₁').entry_count ≡ event_numbers (event_on e (table_in c s))
  unfolding chart_in table_in
  numbers-told zero k = rw (k.number, k.value, k.first) (event-told h.first e)
  numbers-told (suc c) k = rw (k.number, k.value, k.second) (event-told h.second e)

  charts-after : (c : ℕ) → CalledOn c e d₀ d₁ r d₀' d₁' → Charts (with_chart c (done_or (table_in c s) (event_on e (table_in c s))) s) d₀' d₁'
  unfolding chart_in table_in with_chart
  charts-after zero k = rw (k.first, k.second) (record { first = holding-event h.first e; second = h.second })
  charts-after (suc c) k = rw (k.first, k.second) (record { first = h.first; second = holding-event h.second e })

pub event-ran : (command c : ℕ) (e : Event) {d₀ d₁ d₀' d₁' : Chart} {r : Result (Unit {0}) Refusal} {n at next : ℕ} {out out' : List ℕ}
    → CalledOn c e d₀ d₁ r d₀' d₁' → n ≡ (chart_in c d₀' d₁').entry_count
    → Wrote (line command (told_numbers (outcome_number (outcome_of r)) (outcome_value (outcome_of r)) n)) at next out out'
    → (s : State) → Charts s d₀ d₁ → Ran (event_step command c (event_on e (table_in c s)) s) at next out out' d₀' d₁'
unfolding event_step
event-ran command c e {r = r} k i w s h =
    record { wrote = wrote_as (ap (line command) (ap (told_numbers (outcome_number (outcome_of r)) (outcome_value (outcome_of r))) i ∙ numbers-told e s h c k)) w; charts = charts-after e s h c k }

-- ---- the numbers of a line, by the number of the call

pub told-done : {n e m x : ℕ} (v : ℕ) → m ≡ n → m ≡ 0 → x ≡ e → m ∷ x ∷ [] ≡ told_numbers n v e
unfolding told_numbers
told-done {n} v i z f = rw (eq-eqb n 0 (sym i ∙ z), z, f)

pub told-faulty : {n v m x : ℕ} (e : ℕ) → m ≡ n → m ≡ 5 → x ≡ v → m ∷ x ∷ [] ≡ told_numbers n v e
unfolding told_numbers
told-faulty {n} e i z f = rw (ne_eqb n 0 (omega arith), eq-eqb n 5 (sym i ∙ z), i, f)

pub told-other : {n m : ℕ} (v e : ℕ) → m ≡ n → (m ≡ 0 → ⊥) → (m ≡ 5 → ⊥) → m ∷ [] ≡ told_numbers n v e
unfolding told_numbers
told-other {n} v e i z f = rw (ne_eqb n 0 (λ q. z (i ∙ q)), ne_eqb n 5 (λ q. f (i ∙ q)), i)

-- there is room for a line of two 64-bit numbers, and of three
pub room-two : (n m : ℕ) → n < 2 ^ 64 → m < 2 ^ 64 → length (line n (m ∷ [])) ≤ line_room
room-two n m h k = omega (arith, line-short n (m ∷ []) h (every-cons (k, every-nil (λ i. i < 2 ^ 64))))

pub room-three : (n m l : ℕ) → n < 2 ^ 64 → m < 2 ^ 64 → l < 2 ^ 64 → length (line n (m ∷ l ∷ [])) ≤ line_room
room-three n m l h k j =
    omega (arith, line-short n (m ∷ l ∷ []) h (every-cons (k, every-cons (j, every-nil (λ i. i < 2 ^ 64)))))

pub room-four : (n m l k : ℕ) → n < 2 ^ 64 → m < 2 ^ 64 → l < 2 ^ 64 → k < 2 ^ 64 → length (line n (m ∷ l ∷ k ∷ [])) ≤ line_room
room-four n m l k h i j g =
    omega (arith, line-short n (m ∷ l ∷ k ∷ []) h (every-cons (i, every-cons (j, every-cons (g, every-nil (λ i. i < 2 ^ 64))))))
