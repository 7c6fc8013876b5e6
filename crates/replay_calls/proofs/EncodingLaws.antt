-- Lists of calls written as numbers: how long a call is, by its command, and the equations of `decode` that a reader expects.
-- Assumes nothing.
use mathlib.Core.Path.{◌≡◌, refl, sym, ◌∙◌, ap, subst}
use mathlib.Core.Bool.{Bool, true, false, cond, ◌&&◌}
use mathlib.Core.List.Memᴰ
use mathlib.Core.List.{List, [], ◌∷◌, Memᴰ}
use Prim.Native.Nat.{ℕ, zero, suc, ◌+◌, ◌≤◌, ◌<◌}
use native.Mathlib.Omega.{arith}
use native.Mathlib.Decide.{dec_le}
use borrow.Author.Tests.{eq-eqb, ne_eqb, le-leb, lt-leb, eqb-true, eqb-false}
use lib.Dec.{T, leb, eqb}
use lib.ListN.{length, get_or, take, drop, length-drop, take-append-drop}
use lib.Seq.{length-take-le, get_or-take}
use Rattle.theory_lists.specs.Lists.{all}
use Rattle.theory_lists.proofs.Reflects.{reflects-test}
use Rattle.theory_lists.proofs.ListsLaws.{Every, every-cons, all-reflects, every-places}
use Rattle.theory_lists.proofs.EveryLaws.{every-nil}
use Rattle.spec_charts.specs.Table.{point_at}
use Rattle.spec_charts.specs.Edits.{load, insert, take_out, flip, sixteen_bit_event}
use Rattle.laws_charts.proofs.GridLaws.{sixteen_bit-reflects}
use Rattle.replay_calls.specs.Encoding.{call_length, whole_call, IsCall, call_event, decode_up_to, decode}

-- ---- how long a call is

module _ (k n : ℕ) where
  pub length-load : k ≡ 2 → call_length k n ≡ n + 2
  unfolding call_length
  length-load h = rw (eq-eqb k 2 h)

  module _ (l : k ≡ 2 → ⊥) where
    -- an insert, a take-out or a flip
    pub length-edit : leb 3 k && leb k 5 ≡ true → call_length k n ≡ 3
    unfolding call_length
    length-edit h = rw (ne_eqb k 2 l, h)

    -- no command
    pub length_none : leb 3 k && leb k 5 ≡ false → call_length k n ≡ 0
    unfolding call_length
    length_none h = rw (ne_eqb k 2 l, h)

    -- so what has a length and is no load has the length 3
    pub length_three : 0 < call_length k n → call_length k n ≡ 3
    length_three p = go (leb 3 k && leb k 5) refl
      where
        go : (b : Bool) → leb 3 k && leb k 5 ≡ b → call_length k n ≡ 3
        go true e = length-edit e
        go false e = absurd (omega (arith, length_none e))

-- what has a length has two numbers at least
pub length_two : (k n : ℕ) → 0 < call_length k n → 2 ≤ call_length k n
unfolding call_length
length_two k n p = go (eqb k 2) (leb 3 k && leb k 5) p
  where
    go : (a b : Bool) → 0 < cond a (n + 2) (cond b 3 0) → 2 ≤ cond a (n + 2) (cond b 3 0)
    go true b h = omega arith
    go false true h = omega arith
    go false false h = absurd (omega arith)

-- ---- the call at the start of a list

module _ (ns : List ℕ) where
  abbrev size : ℕ
  size = call_length (get_or ns 0 0) (get_or ns 1 0)

  -- it stands there whole, if it is as long as that
  pub whole-fits : size ≤ length ns → size ≡ whole_call ns
  unfolding whole_call
  whole-fits h = rw (le-leb size (length ns) h)

  pub whole-cut : length ns < size → 0 ≡ whole_call ns
  unfolding whole_call
  whole-cut h = rw (lt-leb size (length ns) h)

  -- what has no length is no call
  pub whole_none : size ≡ 0 → whole_call ns ≡ 0
  whole_none z = sym (whole-fits (omega arith)) ∙ z

  -- fewer than two numbers are no call
  pub whole-short : length ns < 2 → 0 ≡ whole_call ns
  whole-short h = elim (dec_le size (length ns)) [
    | yes f ↦ elim (dec_le size 0) [
      | yes z ↦ omega (arith, whole-fits f)
      | no p ↦ absurd (omega (arith, length_two (get_or ns 0 0) (get_or ns 1 0) (omega arith)))
    ]
    | no c ↦ whole-cut (omega arith)
  ]

  -- a whole call is within the list
  pub whole-within : whole_call ns ≤ length ns
  whole-within = elim (dec_le size (length ns)) [
    | yes f ↦ omega (arith, whole-fits f)
    | no c ↦ omega (arith, whole-cut (omega arith))
  ]

  -- and its numbers are one call
  pub whole-call : 0 < whole_call ns → IsCall (take (whole_call ns) ns)
  whole-call p = elim (dec_le size (length ns)) [
    | yes f ↦
        let e = whole-fits f in
        let two = length_two (get_or ns 0 0) (get_or ns 1 0) (omega arith) in
        let l = length-take-le (whole_call ns) ns whole-within in
        record {
          some = omega arith;
          whole =
              rw (get_or-take (whole_call ns) ns 0 0 (omega arith), get_or-take (whole_call ns) ns 1 0 (omega arith))
              (e ∙ sym l);
        }
    | no c ↦ absurd (omega (arith, whole-cut (omega arith)))
  ]

-- ---- the events of a list

-- the first call and those after it, or none
decode-step : (m : ℕ) (ns : List ℕ) (b : Bool) → eqb (whole_call ns) 0 ≡ b
    → decode_up_to (suc m) ns ≡ elim b [ true ↦ [] | false ↦ call_event (take (whole_call ns) ns) ∷ decode_up_to m (drop (whole_call ns) ns) ]
unfolding decode_up_to
decode-step m ns b e =
    ap (λ b. elim b [ true ↦ [] | false ↦ call_event (take (whole_call ns) ns) ∷ decode_up_to m (drop (whole_call ns) ns) ]) e

-- no calls
up_to-none : (m : ℕ) (ns : List ℕ) → whole_call ns ≡ 0 → decode_up_to m ns ≡ []
unfolding decode_up_to
up_to-none zero ns e = refl
up_to-none (suc m) ns e = decode-step m ns true (eq-eqb (whole_call ns) 0 e)

-- a bound on the calls that is as large as the list is no bound
up_to-enough : (m n : ℕ) (ns : List ℕ) → length ns ≤ m → length ns ≤ n → decode_up_to m ns ≡ decode_up_to n ns
up_to-enough zero n ns h g = up_to-none zero ns (omega (arith, whole-within ns)) ∙ sym (up_to-none n ns (omega (arith, whole-within ns)))
up_to-enough (suc m) zero ns h g = up_to-none (suc m) ns (omega (arith, whole-within ns)) ∙ sym (up_to-none zero ns (omega (arith, whole-within ns)))
up_to-enough (suc m) (suc n) ns h g =
    go (eqb (whole_call ns) 0) refl (λ p.
    up_to-enough m n (drop (whole_call ns) ns) (omega (arith, length-drop (whole_call ns) ns)) (omega (arith, length-drop (whole_call ns) ns)))
  where
    go : (b : Bool) → eqb (whole_call ns) 0 ≡ b
        → (0 < whole_call ns → decode_up_to m (drop (whole_call ns) ns) ≡ decode_up_to n (drop (whole_call ns) ns))
        → decode_up_to (suc m) ns ≡ decode_up_to (suc n) ns
    go true e rest =
        let z = eqb-true (whole_call ns) 0 e in up_to-none (suc m) ns z ∙ sym (up_to-none (suc n) ns z)
    go false e rest =
        let z = eqb-false (whole_call ns) 0 e in
        decode-step m ns false e ∙ ap (λ r. call_event (take (whole_call ns) ns) ∷ r) (rest (omega arith)) ∙ sym (decode-step n ns false e)

module _ (ns : List ℕ) where
  -- no whole call: no events
  pub decode-none : whole_call ns ≡ 0 → decode ns ≡ []
  unfolding decode
  decode-none z = up_to-none (length ns) ns z

  -- a whole call: its event, and those of the list after it
  pub decode-more : 0 < whole_call ns → decode ns ≡ call_event (take (whole_call ns) ns) ∷ decode (drop (whole_call ns) ns)
  unfolding decode
  decode-more p =
      let w = whole_call ns in
      let rest = drop w ns in
      up_to-enough (length ns) (suc (length ns)) ns (omega arith) (omega arith)
      ∙ decode-step (length ns) ns false (ne_eqb w 0 (omega arith))
      ∙ ap (λ r. call_event (take w ns) ∷ r) (up_to-enough (length ns) (length rest) rest (omega (arith, length-drop w ns)) (omega arith))

-- ---- 16-bit numbers

module _ {P : ℕ → Type 0} (n : ℕ) (ns : List ℕ) (w : Every P ns) where
  -- what every number of a list has, those of its parts have
  every_take : Every P (take n ns)
  every_take x m = w x (subst (Memᴰ x) (take-append-drop n ns) (Memᴰ.append_left (drop n ns) m))

  every_drop : Every P (drop n ns)
  every_drop x m = w x (subst (Memᴰ x) (take-append-drop n ns) (Memᴰ.append_right (take n ns) m))

-- the event of 16-bit numbers has 16-bit numbers
event-words : (ns : List ℕ) → Every (λ n. n < 65536) ns → T (sixteen_bit_event (call_event ns))
unfolding call_event sixteen_bit_event
event-words ns w = go (eqb (get_or ns 0 0) 2) (eqb (get_or ns 0 0) 3) (eqb (get_or ns 0 0) 4)
  where
    go : (a b c : Bool) → T (sixteen_bit_event (cond a (load (drop 2 ns)) (cond b (insert (point_at ns 1)) (cond c (take_out (point_at ns 1)) (flip (get_or ns 1 0) (get_or ns 2 0))))))
    go true b c = (sixteen_bit-reflects (drop 2 ns)).from (every_drop 2 ns w)
    go false true c = tt
    go false false true = tt
    go false false false = tt

up_to-words : (m : ℕ) (ns : List ℕ) → Every (λ n. n < 65536) ns → Every (λ e. T (sixteen_bit_event e)) (decode_up_to m ns)
unfolding decode_up_to
up_to-words zero ns w = every-nil (λ e. T (sixteen_bit_event e))
up_to-words (suc m) ns w = go (eqb (whole_call ns) 0) (up_to-words m (drop (whole_call ns) ns) (every_drop (whole_call ns) ns w))
  where
    go : (b : Bool) → Every (λ e. T (sixteen_bit_event e)) (decode_up_to m (drop (whole_call ns) ns))
        → Every (λ e. T (sixteen_bit_event e)) (elim b [ true ↦ [] | false ↦ call_event (take (whole_call ns) ns) ∷ decode_up_to m (drop (whole_call ns) ns) ])
    go true rest = every-nil (λ e. T (sixteen_bit_event e))
    go false rest = every-cons (event-words (take (whole_call ns) ns) (every_take (whole_call ns) ns w), rest)

-- so have all events of a list of 16-bit numbers
pub decode-words : (ns : List ℕ) → ((i : ℕ) → get_or ns i 0 < 65536) → T (all (λ e. sixteen_bit_event e) (decode ns))
unfolding decode
decode-words ns w =
    (all-reflects (λ e. sixteen_bit_event e) (λ e. reflects-test (sixteen_bit_event e)) (decode ns)).from (up_to-words (length ns) ns (every-places (λ n. n < 65536) ns 0 (λ i l. w i)))
