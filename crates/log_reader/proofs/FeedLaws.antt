-- One byte more, where the reader keeps a reading.
-- The idea: the bytes held and one more are the first bytes of the array, and what comes after a command's operands plays no part in it.
-- Assumes nothing.
use mathlib.Core.Path.{◌≡◌, refl, sym, ◌∙◌, ap, subst}
use mathlib.Core.Bool.{Bool, true, false, not}
use mathlib.Core.List.{List, [], ◌∷◌}
use Prim.Native.Nat.{ℕ, zero, suc, ◌+◌, ◌≤◌, ◌<◌}
use native.Mathlib.Omega.{arith}
use native.Mathlib.Numerals.{add-one}
use borrow.Author.Tests.{le-leb, lt-leb}
use lib.Dec.{leb}
use lib.ListN.{length, get_or, take, drop, set, take-append-drop, length-drop, length-set}
use lib.Seq.{take-suc-set, length-take-le}
use Rattle.spec_calls.specs.Buffers.{Chart}
use Rattle.spec_log.specs.Log.{bad_line, operand_bytes, step_of}
use Rattle.log_portions.specs.Portions.{Progress, more, whole, bad, fine_so_far, progress_of, Reading, settle, join_byte, feed_byte}
use Rattle.log_portions.proofs.PortionLaws.{step-prefix, fine-known}
use Rattle.log_lines.specs.Bytes.{Wrote}
use Rattle.log_lines.proofs.LineLaws.{wrote_none, wrote_as}
use Rattle.log_commands.specs.Commands.{RanCommand}
use Rattle.log_reader.specs.declared.Reader.{Reader}
use Rattle.log_reader.specs.Reader.{Keeps, FedAs}

-- the command byte of the bytes held, and the n bytes after it
abbrev command : List ℕ → ℕ
command bytes = get_or bytes 0 0

abbrev after : ℕ → List ℕ → List ℕ
after n bytes = take n (drop 1 bytes)

-- the held bytes and one more
join-held : (l : List ℕ) (n x : ℕ) (q : Reading) → n < length l
    → join_byte (take n l) x q ≡ settle (progress_of (command (set l n x)) (after n (set l n x))) (command (set l n x)) (after n (set l n x)) q
unfolding join_byte
join-held [] n x q h = absurd (omega arith)
join-held (h ∷ l) zero x q lt = refl
join-held (h ∷ l) (suc n) x q lt =
    ap (λ rest. settle (progress_of h rest) h rest q) (sym (take-suc-set l n x (omega arith)))

feed-going : (x : ℕ) (q : Reading) → q.ended ≡ false → feed_byte x q ≡ join_byte q.held x q
unfolding feed_byte
feed-going x q e = rw e

-- the first n + 1 bytes of a list
first-bytes : (l : List ℕ) (n : ℕ) → 0 < length l → command l ∷ after n l ≡ take (n + 1) l
first-bytes [] n h = absurd (omega arith)
first-bytes (b ∷ l) n h = ap (λ k. take k (b ∷ l)) (sym (add-one n))

-- the progress, by its two tests
abbrev progress : Bool → Bool → Progress
progress f l = elim f [ true ↦ elim l [ true ↦ whole | false ↦ more ] | false ↦ bad ]

chosen-bad : (f l : Bool) → not f ≡ true → progress f l ≡ bad
chosen-bad true l e = cc
chosen-bad false l e = refl

chosen_more : (f l : Bool) → not f ≡ false → l ≡ false → progress f l ≡ more
chosen_more true true e h = cc
chosen_more true false e h = refl
chosen_more false l e h = cc

chosen-whole : (f l : Bool) → not f ≡ false → l ≡ true → progress f l ≡ whole
chosen-whole true true e h = refl
chosen-whole true false e h = cc
chosen-whole false l e h = cc

module _ (b : ℕ) (rest : List ℕ) where
  progress-bad : not (fine_so_far b rest) ≡ true → progress_of b rest ≡ bad
  unfolding progress_of
  progress-bad f = chosen-bad (fine_so_far b rest) (leb (operand_bytes b) (length rest)) f

  progress-more : not (fine_so_far b rest) ≡ false → length rest < operand_bytes b → progress_of b rest ≡ more
  unfolding progress_of
  progress-more f h = chosen_more (fine_so_far b rest) (leb (operand_bytes b) (length rest)) f (lt-leb (operand_bytes b) (length rest) h)

  progress-whole : not (fine_so_far b rest) ≡ false → operand_bytes b ≤ length rest → progress_of b rest ≡ whole
  unfolding progress_of
  progress-whole f h = chosen-whole (fine_so_far b rest) (leb (operand_bytes b) (length rest)) f (le-leb (operand_bytes b) (length rest) h)

fine : (f : Bool) → not f ≡ false → f ≡ true
fine true e = refl
fine false e = cc

-- the reader with the bytes held and one more
abbrev pub held : Reader → ℕ → List ℕ
held r x = set r.held r.count x

module _ {q : Reading} {r : Reader} {d e : Chart} {w : List ℕ} (k : Keeps q r d e w) (x : ℕ) (long : length r.held ≡ 13) (few : r.count ≤ 12) (going : r.ended ≡ false) where
  settled : feed_byte x q ≡ settle (progress_of (command (held r x)) (after r.count (held r x))) (command (held r x)) (after r.count (held r x)) q
  settled =
      feed-going x q (k.ended ∙ going) ∙ ap (λ l. join_byte l x q) k.held ∙ join-held r.held r.count x q (omega arith)

  held-long : length (held r x) ≡ 13
  held-long = length-set r.held r.count x ∙ long

  rest-length : length (after r.count (held r x)) ≡ r.count
  rest-length = length-take-le r.count (drop 1 (held r x)) (omega (arith, held-long, length-drop 1 (held r x)))

  as_settled : {p : Progress} {at next : ℕ} {out out' : List ℕ} {r' : Reader} {d' e' : Chart} {w' : List ℕ}
      → progress_of (command (held r x)) (after r.count (held r x)) ≡ p
      → FedAs (settle p (command (held r x)) (after r.count (held r x)) q) at next out out' r' d' e' w' → FedAs (feed_byte x q) at next out out' r' d' e' w'
  as_settled {at = at} {next = next} {out = out} {out' = out'} {r' = r'} {d' = d'} {e' = e'} {w' = w'} is f =
      subst (λ g. FedAs g at next out out' r' d' e' w') (sym (settled ∙ ap (λ p. settle p (command (held r x)) (after r.count (held r x)) q) is)) f

  -- no command begins so
  pub fed-bad : {at next : ℕ} {out out' : List ℕ} → not (fine_so_far (command (held r x)) (after r.count (held r x))) ≡ true
      → Wrote (bad_line r.offset) at next out out'
      → FedAs (feed_byte x q) at next out out' (record { held = held r x; count = 0; offset = r.offset; ended = true; waits = r.waits }) d e w
  unfolding settle
  fed-bad h wrote = as_settled (progress-bad _ _ h) (record {
    wrote = wrote_as (ap bad_line (sym k.offset)) wrote;
    keeps = record { held = refl; offset = k.offset; ended = refl; running = k.running };
  })

  module _ (h : not (fine_so_far (command (held r x)) (after r.count (held r x))) ≡ false) where
    -- more must come
    pub fed-more : {at : ℕ} {out : List ℕ} → r.count < operand_bytes (command (held r x)) → at ≤ length out
        → FedAs (feed_byte x q) at at out out (record { held = held r x; count = r.count + 1; offset = r.offset; ended = r.ended; waits = r.waits }) d e w
    unfolding settle
    fed-more {at} {out} lt room = as_settled (progress-more _ _ h (omega (arith, rest-length))) (record {
      wrote = wrote_none at out room;
      keeps = record { held = first-bytes (held r x) r.count (omega (arith, held-long)); offset = k.offset; ended = sym going; running = k.running };
    })

    step-held : operand_bytes (command (held r x)) ≤ r.count → step_of (command (held r x)) (drop 1 (held r x)) q.state ≡ step_of (command (held r x)) (after r.count (held r x)) q.state
    step-held le =
        let rest = after r.count (held r x) in
        ap (λ l. step_of (command (held r x)) l q.state) (sym (take-append-drop r.count (drop 1 (held r x))))
        ∙ step-prefix (command (held r x)) rest (drop r.count (drop 1 (held r x))) q.state (fine-known (command (held r x)) rest (fine _ h)) (omega (arith, rest-length))

    -- it is whole, and was run
    pub fed-whole : {at next n : ℕ} {out out' : List ℕ} {d' e' : Chart} {w' : List ℕ} → operand_bytes (command (held r x)) ≤ r.count
        → RanCommand (step_of (command (held r x)) (drop 1 (held r x)) q.state) at next out out' d' e' w' n
        → FedAs (feed_byte x q) at next out out' (record { held = held r x; count = 0; offset = r.offset + 1 + operand_bytes (command (held r x)); ended = r.ended; waits = n }) d' e' w'
    unfolding settle
    fed-whole {at} {next} {n} {out} {out'} {d'} {e'} {w'} le ran =
        let same = subst (λ st. RanCommand st at next out out' d' e' w' n) (step-held le) ran in
        as_settled (progress-whole _ _ h (omega (arith, rest-length))) (record {
          wrote = same.wrote;
          keeps = record { held = refl; offset = ap (λ o. o + 1 + operand_bytes (command (held r x))) k.offset; ended = sym going; running = same.running };
        })
