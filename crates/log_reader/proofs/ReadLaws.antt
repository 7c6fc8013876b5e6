-- A portion byte by byte: what the loop over it keeps.
-- Assumes nothing.
use mathlib.Core.Path.{◌≡◌, refl, sym, ◌∙◌, ap, subst}
use mathlib.Core.Bool.{false}
use mathlib.Core.List.{List, [], ◌∷◌, ◌++◌, append-nil}
use Prim.Native.Nat.{ℕ, zero, suc, ◌+◌, ◌≤◌, ◌<◌}
use native.Mathlib.Omega.{arith}
use native.Mathlib.Numerals.{add-one}
use lib.ListN.{length, get_or, take}
use lib.Seq.{take-suc}
use Rattle.spec_calls.specs.Buffers.{Chart, too_short}
use Rattle.spec_calls.specs.Calls.{load_call}
use Rattle.spec_calls.specs.History.{event_call}
use Rattle.spec_log.specs.Log.{start_state, bad_line}
use Rattle.std.specs.Prelude.{Result}
use Rattle.spec_charts.specs.declared.Refusal.{Refusal}
use Rattle.base_answers.specs.Outcomes.{answered}
use Rattle.log_portions.specs.Portions.{Reading, start_reading, feed_byte, joined, feed, finish}
use Rattle.log_portions.proofs.PortionLaws.{feed-append}
use Rattle.log_lines.specs.Bytes.{Wrote}
use Rattle.log_lines.proofs.LineLaws.{wrote_none, wrote-join, wrote_as}
use Rattle.log_state.specs.State.{Holding}
use Rattle.log_state.proofs.HoldingLaws.{holding-empty}
use Rattle.log_reader.specs.declared.Reader.{Reader}
use Rattle.log_reader.specs.Reader.{Ready, Keeps, FedAs, ReadOn}

-- after `used` bytes of the input the reader r, with charts and lists as they were, has become r', with those that are now
pub record Read (input : List ℕ) (r : Reader) (d₀ e₀ : Chart) (w₀ out₀ : List ℕ) (r' : Reader) (d e : Chart) (w out : List ℕ) (used at : ℕ) : Type 0 where
  pub fed : (q : Reading) → Keeps q r d₀ e₀ w₀ → FedAs (feed (take used input) q) 0 at out₀ out r' d e w
  pub ready : Ready r'
  pub within : used ≤ length input
  pub printed : at ≤ length out
  pub grown : r'.offset + r'.count ≤ r.offset + r.count + used
  pub begun : used ≡ 0 → (at ≡ 0) × (r'.ended ≡ r.ended)

-- before the first byte
pub read_none : (input : List ℕ) (r : Reader) (d e : Chart) (w out : List ℕ) → Ready r → Read input r d e w out r d e w out 0 0
unfolding feed
read_none input r d e w out h = record {
  fed = λ q k. record { wrote = wrote_none 0 out (omega arith); keeps = k };
  ready = h;
  within = omega arith;
  printed = omega arith;
  grown = omega arith;
  begun = λ z. (refl, refl);
}

-- one byte more
feed-one : (l : List ℕ) (k : ℕ) (q : Reading) → k < length l
    → feed (take (k + 1) l) q ≡ joined (feed (take k l) q).printed (feed_byte (get_or l k 0) (feed (take k l) q).after)
unfolding feed joined
feed-one l k q h =
    let p = feed (take k l) q in
    let f = feed_byte (get_or l k 0) p.after in
    ap (λ m. feed m q) (ap (λ j. take j l) (add-one k) ∙ take-suc l k 0 h)
    ∙ feed-append (take k l) (get_or l k 0 ∷ []) q
    ∙ ap (λ u. record { printed = p.printed ++ u; after = f.after }) (append-nil f.printed)

module _ {input : List ℕ} {r : Reader} {d₀ e₀ : Chart} {w₀ out₀ : List ℕ} {r' : Reader} {d e : Chart} {w out : List ℕ} {used at : ℕ}
    (h : Read input r d₀ e₀ w₀ out₀ r' d e w out used at) where
  pub read_more : {r'' : Reader} {d'' e'' : Chart} {w'' out'' : List ℕ} {next : ℕ} → used < length input
      → ((q : Reading) → Keeps q r' d e w → FedAs (feed_byte (get_or input used 0) q) at next out out'' r'' d'' e'' w'')
      → Ready r'' × ((next ≤ length out'') × (r''.offset + r''.count ≤ r'.offset + r'.count + 1))
      → Read input r d₀ e₀ w₀ out₀ r'' d'' e'' w'' out'' (used + 1) next
  unfolding joined
  read_more {r''} {d''} {e''} {w''} {out''} {next} lt one g =
      let grown = h.grown in
      record {
        fed = λ q k.
            let before = h.fed q k in
            let f = one (feed (take used input) q).after before.keeps in
            subst (λ x. FedAs x 0 next out₀ out'' r'' d'' e'' w'') (sym (feed-one input used q lt)) (record { wrote = wrote-join before.wrote f.wrote; keeps = f.keeps });
        ready = g.0;
        within = omega arith;
        printed = g.1.0;
        grown = let more = g.1.1 in omega arith;
        begun = λ z. absurd (omega arith);
      }

  -- the end of the portion
  pub read_all : length input ≤ used → ReadOn r (length input) (length out) r' used at
  read_all le = record { ready = h.ready; within = h.within; printed = h.printed; grown = h.grown; onward = λ n g room. omega arith }

-- ---- the end of the input

finish-some : (q : Reading) (n : ℕ) (l : List ℕ) → q.held ≡ take n l → (n ≡ 0 → ⊥) → 0 < length l → finish q ≡ bad_line q.offset
unfolding finish
finish-some q zero l e z h = absurd (z refl)
finish-some q (suc n) [] e z h = absurd (omega arith)
finish-some q (suc n) (b ∷ l) e z h = rw (e, finish) refl

module _ (q : Reading) (r : Reader) (same : q.held ≡ take r.count r.held) where
  pub finish-none : (out : List ℕ) → r.count ≡ 0 → Wrote (finish q) 0 0 out out
  unfolding finish
  finish-none out z =
      let e : q.held ≡ [] = same ∙ ap (λ n. take n r.held) z in
      wrote_as (rw (e, finish) refl) (wrote_none 0 out (omega arith))

  pub finish-cut : {at next : ℕ} {out out' : List ℕ} → (r.count ≡ 0 → ⊥) → length r.held ≡ 13 → q.offset ≡ r.offset
      → Wrote (bad_line r.offset) at next out out' → Wrote (finish q) at next out out'
  finish-cut z long o w = wrote_as (sym (finish-some q r.count r.held same z (omega arith) ∙ ap bad_line o)) w

-- ---- the begin

-- a load of the empty table leaves a chart that holds it
pub begun-holding : (c d : Chart) (r : Result (Unit {0}) Refusal) → answered r d ≡ load_call [] c → too_short c ≡ false → Holding d []
unfolding event_call
begun-holding c d r h s = subst (λ e. Holding e []) (sym (ap (λ x. x.chart) h)) (holding-empty c s)

-- nothing is read yet
pub begun-keeps : (l : List ℕ) {d e : Chart} → Holding d [] → Holding e [] → (waiting : List ℕ)
    → Keeps start_reading (record { held = l; count = 0; offset = 0; ended = false; waits = 0 }) d e waiting
unfolding start_reading start_state
begun-keeps l h g waiting = record {
  held = refl;
  offset = refl;
  ended = refl;
  running = record { charts = record { first = h; second = g }; waits = refl };
}
