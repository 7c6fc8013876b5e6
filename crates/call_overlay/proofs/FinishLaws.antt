-- The answer of an overlay, from the pairs that are written: zeros after them, or in all places.
-- Assumes nothing.
use mathlib.Core.Path.{◌≡◌, ◌∙◌, ap}
use mathlib.Core.List.{List, [], ◌++◌}
use Prim.Native.Nat.{ℕ, ◌*◌, ◌-◌, ◌≤◌}
use native.Mathlib.Omega.{arith}
use borrow.Author.Tests.{lt-ltb, le-ltb}
use lib.ListN.{length, drop, replicate}
use lib.Seq.{sets}
use Rattle.std.specs.Prelude.{None, Some, Ok, Err}
use Rattle.spec_charts.specs.declared.Refusal.TheVariants.{TooManyPairs}
use Rattle.spec_charts.specs.Refusals.{refuse_if}
use Rattle.spec_charts.specs.Overlay.{Pair, pair_numbers, max_pairs, within_pairs}
use Rattle.spec_calls.specs.Buffers.{padded, pairs_length}
use Rattle.spec_calls.specs.Calls.{pairs_refused, overlaid_by}
use Rattle.base_answers.specs.Outcomes.{overlaid_of}
use Rattle.laws_calls.proofs.PaddedLaws.{padded-sets}
use Rattle.overlay_pairs.specs.Pairs.{Wrote}
use Rattle.overlay_pairs.proofs.WroteLaws.{numbers-length}

-- zeros over all pairs
zeros : (n : ℕ) (mid before : List ℕ) → n ≤ length mid → drop n mid ≡ drop n before → sets mid 0 (replicate (n - 0) 0) ≡ padded n [] before
unfolding padded
zeros n mid before h e = padded-sets n [] mid (omega arith) h ∙ ap (λ r. [] ++ replicate (n - length {A = ℕ} []) 0 ++ r) e

module _ {ps : List Pair} {before mid : List ℕ} (room : pairs_length ≤ length mid) (m : ℕ) (after : List ℕ) where
  -- too many pairs
  pub finish-over : Wrote ps 0 None before mid → after ≡ sets mid 0 (replicate (pairs_length - 0) 0)
      → overlaid_of (Err TooManyPairs) after ≡ overlaid_by before (within_pairs ps m)
  unfolding overlaid_by within_pairs refuse_if pairs_refused
  finish-over w e =
      rw (lt-ltb max_pairs (length ps) (omega (arith, w.count)))
      (λ i. record { number = 12; pair_count = 0; meets = 0; pairs = (e ∙ zeros pairs_length mid before room w.beyond) i })

  -- not too many
  pub finish-done : {found : ℕ} → Wrote ps 0 (Some found) before mid → after ≡ sets mid (2 * found) (replicate (pairs_length - 2 * found) 0)
      → overlaid_of (Ok (record { pairs = found; meetings = m })) after ≡ overlaid_by before (within_pairs ps m)
  unfolding overlaid_by within_pairs refuse_if
  finish-done {found} w e =
      let few : length ps ≤ max_pairs = omega (arith, w.count.0, w.count.1) in
      let n : found ≡ length ps = omega (arith, w.count.0) in
      let size : 2 * found ≡ length (pair_numbers ps) = omega (arith, numbers-length ps) in
      let written = e
      ∙ ap (λ k. sets mid k (replicate (pairs_length - k) 0)) size
      ∙ ap (λ l. sets l (length (pair_numbers ps)) (replicate (pairs_length - length (pair_numbers ps)) 0)) (w.stored (omega arith))
      ∙ padded-sets pairs_length (pair_numbers ps) before (omega arith) (omega (arith, w.kept)) in
      rw (le-ltb max_pairs (length ps) few) (λ i. record { number = 0; pair_count = n i; meets = m; pairs = written i })
