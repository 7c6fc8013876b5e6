-- Commands 6 and 7 on charts that hold the tables of a state: what they print.
-- Assumes nothing.
use mathlib.Core.Path.{◌≡◌, refl, sym, ◌∙◌, ap}
use mathlib.Core.Bool.{Bool, true, false, true≢false}
use mathlib.Core.List.{List, [], ◌∷◌, ◌++◌}
use Prim.Native.Nat.{ℕ, zero, suc, ◌≤◌}
use native.Mathlib.Omega.{arith}
use borrow.Author.Tests.{ltb-false, eq-eqb, ne_eqb}
use lib.Dec.{ltb}
use lib.ListN.{length}
use Rattle.spec_plane.specs.declared.Point.{Point}
use Rattle.spec_plane.specs.Position.{position_number}
use Rattle.spec_charts.specs.declared.Refusal.{Refusal}
use Rattle.spec_charts.specs.declared.Refusal.TheVariants.{TooManyPairs}
use Rattle.spec_charts.specs.Refusals.{Outcome, done, refuse_if, row_of}
use Rattle.laws_charts.proofs.OutcomeLaws.{row-positive}
use Rattle.spec_charts.specs.Overlay.{Pair, OverlayAnswer, pairs_listed, overlay_of, within_pairs, max_pairs}
use Rattle.spec_calls.specs.Buffers.{Chart, chart_table, chart_entries, pairs_length}
use Rattle.spec_calls.specs.Calls.{locate_call, overlay_call, overlaid_by}
use Rattle.spec_calls.specs.Calls as Calls
use Rattle.spec_log.specs.Log.{State, line, table_in, located_numbers, locate_step, overlay_step}
use Rattle.std.specs.Prelude.{Result, Ok, Err, Some, None}
use Rattle.std.specs.Prelude.{Option as Std·Option}
use Rattle.base_answers.specs.declared.Found.{Found}
use Rattle.base_answers.specs.declared.Overlaid.{Overlaid}
use Rattle.base_answers.specs.Outcomes.{located_of, found_number, is_found, overlaid_of}
use Rattle.log_lines.specs.Bytes.{pair_lines}
use Rattle.log_state.specs.State.{Charts, chart_in, located_line, overlaid_lines}
use Rattle.log_state.proofs.HoldingLaws.{locate-told, overlay-told}

-- ---- command 6

-- the chart that c names
pub in-first : (c : ℕ) (d e : Chart) (p : Point) → c ≡ 0 → locate_call d p ≡ locate_call (chart_in c d e) p
unfolding chart_in
in-first c d e p z = rw z

pub in-second : (c : ℕ) (d e : Chart) (p : Point) → (c ≡ 0 → ⊥) → locate_call e p ≡ locate_call (chart_in c d e) p
unfolding chart_in
in-second zero d e p z = absurd (z refl)
in-second (suc c) d e p z = refl

-- the line where a triangle was found, and where none was
pub found-line : (l : Result (Std·Option Found) Refusal) {n i k : ℕ} → is_found (located_of l).found ≡ true
    → n ≡ (located_of l).number → i ≡ found_number (located_of l).found → k ≡ position_number (located_of l).position
    → line 6 (n ∷ i ∷ k ∷ []) ≡ located_line (located_of l)
unfolding located_line located_numbers
found-line (Ok (Some d)) f g h e = rw (g, h, e)
found-line (Ok None) f g h e = absurd (true≢false (sym f))
found-line (Err r) f g h e = absurd (true≢false (sym f))

pub nowhere-line : (l : Result (Std·Option Found) Refusal) {n i : ℕ} → is_found (located_of l).found ≡ false
    → n ≡ (located_of l).number → i ≡ found_number (located_of l).found → line 6 (n ∷ i ∷ []) ≡ located_line (located_of l)
unfolding located_line located_numbers
nowhere-line (Ok (Some d)) f g h = absurd (true≢false f)
nowhere-line (Ok None) f g h = rw (g, h)
nowhere-line (Err r) f g h = rw (g, h)

pub locate-printed : (c : ℕ) (p : Point) {l : Calls.Located} {d e : Chart} → l ≡ locate_call (chart_in c d e) p
    → (s : State) → Charts s d e → located_line l ≡ (locate_step c p s).printed
unfolding chart_in locate_step table_in located_line
locate-printed zero p q s h = ap located_line (q ∙ locate-told h.first p)
locate-printed (suc c) p q s h = ap located_line (q ∙ locate-told h.second p)

-- ---- command 7

-- an overlay never gives more than 4,096 pairs
module _ (before : List ℕ) where
  few-unless : (b : Bool) (r : Refusal) (o : Outcome OverlayAnswer) → (overlaid_by before o).pair_count ≤ max_pairs
      → (overlaid_by before (refuse_if b r o)).pair_count ≤ max_pairs
  unfolding refuse_if overlaid_by
  few-unless true r o h = omega arith
  few-unless false r o h = h

  few-within : (ps : List Pair) (m : ℕ) (b : Bool) → ltb max_pairs (length ps) ≡ b
      → (overlaid_by before (refuse_if b TooManyPairs (done (record { pairs = ps; meets = m })))).pair_count ≤ max_pairs
  unfolding refuse_if overlaid_by
  few-within ps m true e = omega arith
  few-within ps m false e = ltb-false max_pairs (length ps) e

pub overlay-few : (c d : Chart) (before : List ℕ) → (overlay_call c d before).pair_count ≤ max_pairs
unfolding overlay_call overlay_of within_pairs
overlay-few c d before =
    let ps = pairs_listed (chart_table c) (chart_entries c) (chart_table d) (chart_entries d) in
    few-unless before _ _ _ (few-unless before _ _ _ (few-within before ps _ (ltb max_pairs (length ps)) refl))

pub overlay-printed : {o : Calls.Overlaid} {d e : Chart} (before : List ℕ) → pairs_length ≤ length before → o ≡ overlay_call d e before
    → (s : State) → Charts s d e → overlaid_lines o ≡ (overlay_step s).printed
unfolding overlay_step
overlay-printed before room q s h = ap overlaid_lines q ∙ overlay-told h.first h.second before room

-- the lines by the answer
pub lines-done : (o : Overlaid) (pairs : List ℕ) {n : ℕ} → n ≡ 0
    → line 7 (n ∷ o.pairs ∷ o.meetings ∷ []) ++ pair_lines pairs o.pairs ≡ overlaid_lines (overlaid_of (Ok o) pairs)
unfolding overlaid_lines
lines-done o pairs z = rw z refl

pub lines-refused : (r : Refusal) (pairs : List ℕ) {n : ℕ} → n ≡ (row_of r).number → line 7 (n ∷ []) ≡ overlaid_lines (overlaid_of (Err r) pairs)
unfolding overlaid_lines
lines-refused r pairs z = let p = row-positive r in rw (ne_eqb (row_of r).number 0 (omega arith), z)
