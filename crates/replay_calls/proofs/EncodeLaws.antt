-- What is written for a list of events stands for the same events. The numbers are 16-bit where the events are expressible; of the others
-- ClippedLaws.antt says what is written in their place.
-- Assumes nothing.
use mathlib.Core.Path.{◌≡◌, refl, sym, ◌∙◌, ap}
use mathlib.Core.List.{List, [], ◌∷◌, ◌++◌, flat_map}
use Prim.Native.Nat.{ℕ}
use native.Mathlib.Omega.{arith}
use lib.Dec.{T}
use lib.ListN.{length, get_or, length-append, get_or-append}
use lib.Seq.{take-append_seam, drop-append_seam}
use Rattle.theory_lists.specs.Lists.{all}
use Rattle.theory_lists.proofs.ListsLaws.{all-reflects}
use Rattle.theory_lists.proofs.EveryLaws.{every-flat_map}
use Rattle.spec_charts.specs.Table.{point_at, sixteen_bit}
use Rattle.spec_charts.specs.Edits.{Event, load, insert, take_out, flip}
use Rattle.laws_charts.proofs.GridLaws.{sixteen_bit-reflects}
use Rattle.replay_calls.specs.Encoding.{call_length, whole_call, IsCall, call_event, decode, call_numbers, encode, expressible}
use Rattle.replay_calls.proofs.EncodingLaws.{length_two, whole-fits, decode-none, decode-more}

module _ (call ns : List ℕ) (h : IsCall call) where
  -- a call with more numbers after it
  first-whole : whole_call (call ++ ns) ≡ length call
  first-whole =
      let some = h.some in
      let whole = h.whole in
      let two = length_two (get_or call 0 0) (get_or call 1 0) (omega arith) in
      let command = get_or-append call ns 0 0 (omega arith) in
      let next = get_or-append call ns 0 1 (omega arith) in
      let size : call_length (get_or (call ++ ns) 0 0) (get_or (call ++ ns) 1 0) ≡ length call = rw (command, next) whole in
      sym (whole-fits (call ++ ns) (omega (arith, length-append call ns))) ∙ size

  -- its event, and those of the numbers after it
  first-decoded : decode (call ++ ns) ≡ call_event call ∷ decode ns
  first-decoded =
      let some = h.some in
      decode-more (call ++ ns) (omega (arith, first-whole))
      ∙ rw (first-whole, take-append_seam call ns, drop-append_seam call ns)

-- the numbers of an event are a call
event-call : (e : Event) → IsCall (call_numbers e)
unfolding call_numbers call_length
event-call (load ns) = record { some = omega arith; whole = omega arith }
event-call (insert p) = record { some = omega arith; whole = refl }
event-call (take_out p) = record { some = omega arith; whole = refl }
event-call (flip i j) = record { some = omega arith; whole = refl }

-- of that event
event-same : (e : Event) → call_event (call_numbers e) ≡ e
unfolding call_numbers call_event point_at
event-same (load ns) = refl
event-same (insert p) = refl
event-same (take_out p) = refl
event-same (flip i j) = refl

-- what is written is read
pub decode-encode : (es : List Event) → decode (encode es) ≡ es
unfolding encode flat_map whole_call call_length
decode-encode [] = decode-none [] refl
decode-encode (e ∷ es) =
    first-decoded (call_numbers e) (encode es) (event-call e) ∙ ap (λ f. f ∷ decode (encode es)) (event-same e)
    ∙ ap (λ fs. e ∷ fs) (decode-encode es)

-- the numbers of expressible events are 16-bit
pub encode-words : (es : List Event) → T (all (λ e. expressible e) es) → T (sixteen_bit (encode es))
unfolding encode expressible
encode-words es h =
    let each = (all-reflects (λ e. sixteen_bit (call_numbers e)) (λ e. sixteen_bit-reflects (call_numbers e)) es).to h in
    (sixteen_bit-reflects (encode es)).from (every-flat_map (λ e. call_numbers e) es each)
