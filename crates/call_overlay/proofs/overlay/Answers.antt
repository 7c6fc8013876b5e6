-- Refusal 1 of all buffers, then 2 of both charts, then the pairs: each return is a case of `overlay_call`. What the merge marks is
-- what is listed together, so the marked pairs that have a common interior point are the pairs listed.
use mathlib.Core.Path.{◌≡◌, refl, sym, ◌∙◌, ap₂}
use mathlib.Core.Bool.{Bool, ◌&&◌, ◌||◌}
use mathlib.Core.List.{List}
use Prim.Native.Nat.{ℕ}
use native.Mathlib.Omega.{arith}
use borrow.Author.Rules.{rules}
use lib.Dec.{ltb}
use lib.ListN.{length}
use lib.Seq.{length-take-le}
use Rattle.theory_orthtree.specs.Entries.{span}
use Rattle.spec_squares.specs.Square.{arity, depth}
use Rattle.spec_calls.specs.Buffers.{Chart, too_short, chain_rule, chart_table, chart_entries, pairs_length}
use Rattle.spec_calls.specs.Lent.{viewed}
use Rattle.overlay_marks.specs.PairMarks.{rows_length}
use Rattle.overlay_marks.proofs.BitLaws.{zeros-empty}
use Rattle.call_overlay.proofs.OverlayLaws.{overlay-short, overlay-broken, both-passed, overlay-passed, overlay-same}
use Rattle.overlay_merge.proofs.EntryLaws.{first-fit, merged-first}
use Rattle.call_overlay.proofs.overlay.Goals as goal

-- the keys of the tree of squares end at 2^32
tree-end : span arity depth 0 ≡ 4294967296
unfolding span
tree-end = refl

module _ (first second : Chart) {a b : Bool} where
  -- refusal 1 as it is tested: of both charts' buffers, then of the pairs
  judged : (l : List ℕ) → a ≡ too_short first → b ≡ too_short second
      → a || b || ltb (length l) pairs_length ≡ too_short first || too_short second || ltb (length l) pairs_length
  judged l e f = ap₂ (λ x y. x || y || ltb (length l) pairs_length) e f

  -- and refusal 2, of both charts
  chained : a ≡ chain_rule first → b ≡ chain_rule second → a && b ≡ chain_rule first && chain_rule second
  chained e f = ap₂ ◌&&◌ e f

pub returns-then-too_short-pairs : goal.returns-then-too_short-pairs
returns-then-too_short-pairs c =
    let first = viewed c.args.first in
    let second = viewed c.args.second in
    let l = c.args.pairs.now in
    overlay-short first second l (sym (judged first second l c.too_short.ensures c.too_short-2.ensures) ∙ c.if-too_short-pairs.true)

pub returns-then-not-first_fine-second_fine : goal.returns-then-not-first_fine-second_fine
returns-then-not-first_fine-second_fine c =
    let first = viewed c.args.first in
    let second = viewed c.args.second in
    let l = c.args.pairs.now in
    let long = sym (judged first second l c.too_short.ensures c.too_short-2.ensures) ∙ c.if-too_short-pairs.false in
    overlay-broken first second l long
    (sym (chained first second c.chain_rule-first_fine.ensures c.chain_rule-second_fine.ensures) ∙ c.if-not-first_fine-second_fine.true)

pub slice_bounds-first_entries-end : goal.slice_bounds-first_entries-end
slice_bounds-first_entries-end c =
    let chart = viewed c.args.first in
    let passed = both-passed (viewed c.args.first) (viewed c.args.second) c.args.pairs.now c.too_short.ensures c.too_short-2.ensures c.if-too_short-pairs.false c.chain_rule-first_fine.ensures c.chain_rule-second_fine.ensures c.if-not-first_fine-second_fine.false in
    sym (length-take-le chart.entry_count chart.keys passed.0.lists.for_keys)

pub slice_bounds-first_entries-end-2 : goal.slice_bounds-first_entries-end-2
slice_bounds-first_entries-end-2 c =
    let chart = viewed c.args.first in
    let passed = both-passed (viewed c.args.first) (viewed c.args.second) c.args.pairs.now c.too_short.ensures c.too_short-2.ensures c.if-too_short-pairs.false c.chain_rule-first_fine.ensures c.chain_rule-second_fine.ensures c.if-not-first_fine-second_fine.false in
    sym (length-take-le chart.entry_count chart.items passed.0.lists.for_items)

pub slice_bounds-second_entries-end : goal.slice_bounds-second_entries-end
slice_bounds-second_entries-end c =
    let chart = viewed c.args.second in
    let passed = both-passed (viewed c.args.first) (viewed c.args.second) c.args.pairs.now c.too_short.ensures c.too_short-2.ensures c.if-too_short-pairs.false c.chain_rule-first_fine.ensures c.chain_rule-second_fine.ensures c.if-not-first_fine-second_fine.false in
    sym (length-take-le chart.entry_count chart.keys passed.1.lists.for_keys)

pub slice_bounds-second_entries-end-2 : goal.slice_bounds-second_entries-end-2
slice_bounds-second_entries-end-2 c =
    let chart = viewed c.args.second in
    let passed = both-passed (viewed c.args.first) (viewed c.args.second) c.args.pairs.now c.too_short.ensures c.too_short-2.ensures c.if-too_short-pairs.false c.chain_rule-first_fine.ensures c.chain_rule-second_fine.ensures c.if-not-first_fine-second_fine.false in
    sym (length-take-le chart.entry_count chart.items passed.1.lists.for_items)

pub mark_pairs-meetings-requires-clause-entries_fit : goal.mark_pairs-meetings-requires-clause-entries_fit
mark_pairs-meetings-requires-clause-entries_fit c =
    let chart = viewed c.args.first in
    let p = (both-passed (viewed c.args.first) (viewed c.args.second) c.args.pairs.now c.too_short.ensures c.too_short-2.ensures c.if-too_short-pairs.false c.chain_rule-first_fine.ensures c.chain_rule-second_fine.ensures c.if-not-first_fine-second_fine.false).0 in
    first-fit chart.keys chart.items chart.entry_count p.entries p.lists.for_keys p.lists.for_items

pub mark_pairs-meetings-requires-clause-entries_fit_2 : goal.mark_pairs-meetings-requires-clause-entries_fit_2
mark_pairs-meetings-requires-clause-entries_fit_2 c =
    let chart = viewed c.args.second in
    let p = (both-passed (viewed c.args.first) (viewed c.args.second) c.args.pairs.now c.too_short.ensures c.too_short-2.ensures c.if-too_short-pairs.false c.chain_rule-first_fine.ensures c.chain_rule-second_fine.ensures c.if-not-first_fine-second_fine.false).1 in
    first-fit chart.keys chart.items chart.entry_count p.entries p.lists.for_keys p.lists.for_items

pub mark_pairs-meetings-requires-clause-empty_rows : goal.mark_pairs-meetings-requires-clause-empty_rows
mark_pairs-meetings-requires-clause-empty_rows c = record { room = search rules; unmarked = λ k h. zeros-empty rows_length k }

pub put_pairs-found-requires-clause-drawn : goal.put_pairs-found-requires-clause-drawn
put_pairs-found-requires-clause-drawn c =
    let passed = both-passed (viewed c.args.first) (viewed c.args.second) c.args.pairs.now c.too_short.ensures c.too_short-2.ensures c.if-too_short-pairs.false c.chain_rule-first_fine.ensures c.chain_rule-second_fine.ensures c.if-not-first_fine-second_fine.false in
    (passed.0.drawn, passed.1.drawn)

pub returns : goal.returns
unfolding chart_table chart_entries
returns c =
    let first = viewed c.args.first in
    let second = viewed c.args.second in
    let l = c.args.pairs.now in
    let long = sym (judged first second l c.too_short.ensures c.too_short-2.ensures) ∙ c.if-too_short-pairs.false in
    let rules = sym (chained first second c.chain_rule-first_fine.ensures c.chain_rule-second_fine.ensures) ∙ c.if-not-first_fine-second_fine.false in
    let passed = both-passed (viewed c.args.first) (viewed c.args.second) c.args.pairs.now c.too_short.ensures c.too_short-2.ensures c.if-too_short-pairs.false c.chain_rule-first_fine.ensures c.chain_rule-second_fine.ensures c.if-not-first_fine-second_fine.false in
    let p = passed.0 in
    let q = passed.1 in
    let o =
    merged-first first.keys first.items first.entry_count second.keys second.items second.entry_count p.lists.for_keys q.lists.for_keys c.mark_pairs-meetings.ensures arity depth (omega arith) tree-end first.levels second.levels p.lists.for_levels q.lists.for_levels first.triangle_count second.triangle_count p.chained q.chained
    in
    c.finish.ensures _ l c.put_pairs-found.ensures
    ∙ overlay-same first.table first.triangle_count second.table second.triangle_count o p.drawn.few q.drawn.few l
    ∙ overlay-passed first second l long rules
