-- The answer of an overlay: at each refusal, and from what is marked.
-- Assumes nothing.
use mathlib.Core.Path.{◌≡◌, refl, sym, ◌∙◌, ap, ap₂, subst}
use mathlib.Core.Bool.{Bool, true, false, not, ◌&&◌, ◌||◌}
use mathlib.Core.List.{List, map, flat_map}
use Prim.Native.Nat.{ℕ, ◌≤◌, ◌<◌}
use native.Mathlib.Omega.{arith}
use borrow.Author.Tests.{ltb-false}
use lib.Dec.{T, ltb}
use lib.ListN.{length, take}
use Rattle.theory_lists.specs.Lists.{filter, up_to}
use Rattle.theory_lists.proofs.Reflects.{or-neither}
use Rattle.theory_lists.proofs.FilterLaws.{filter-agree}
use Rattle.theory_lists.proofs.ListsLaws.{up_to-to}
use Rattle.theory_lists.proofs.EveryLaws.{flat_map-agree}
use Rattle.theory_orthtree.specs.Entries.{Entry, chain}
use Rattle.spec_squares.specs.Square.{arity, depth}
use Rattle.spec_plane.specs.Interior.{interiors_meet}
use Rattle.spec_charts.specs.Table.{Drawn, max_triangles, table_of}
use Rattle.spec_charts.specs.Cells.{max_entries}
use Rattle.spec_charts.specs.declared.Refusal.TheVariants.{ShortBuffer, BrokenChain}
use Rattle.spec_charts.specs.Refusals.{refuse_if}
use Rattle.spec_charts.specs.Overlay.{Pair, pair_listed, pairs_listed, within_pairs, overlay_of}
use Rattle.laws_charts.proofs.TableLaws.{table_of-length, numbered-at}
use Rattle.spec_calls.specs.Buffers.{Chart, Roomy, too_short, zip_entries, chain_rule, chart_table, chart_entries, pairs_length}
use Rattle.spec_calls.specs.Calls.{pairs_refused, overlaid_by, overlay_call}
use Rattle.laws_calls.proofs.BufferLaws.{ruled, rule-drawn, searchable}
use Rattle.std.specs.Prelude.{Err}
use Rattle.base_answers.specs.Outcomes.{overlaid_of}
use Rattle.overlay_merge.specs.Merge.{Overlapping}
use Rattle.overlay_pairs.specs.Pairs.{meets_at, row_pairs, marked_pairs}
use Rattle.overlay_candidates.specs.RowCandidates.{marked_at}

-- both of two tests
both : (a b : Bool) → a && b ≡ true → (a ≡ true) × (b ≡ true)
both true b e = (refl, e)
both false b e = absurd (subst (λ b. T b) (sym e) tt)

-- ---- refusals 1 and 2

-- what a chart has that neither refuses
pub record Passed (c : Chart) : Type 0 where
  pub drawn : Drawn c.table c.triangle_count
  pub entries : c.entry_count ≤ max_entries
  pub lists : Roomy c.entry_count c.keys c.levels c.items
  pub chained : chain arity depth c.triangle_count (take c.entry_count (zip_entries c.keys c.levels c.items)) ≡ true

passed : (c : Chart) → too_short c ≡ false → chain_rule c ≡ true → Passed c
passed c s e =
    let l = searchable c s e in record { drawn = rule-drawn c s e; entries = (ruled c e).entries; lists = l.0; chained = l.1 }

module _ (c d : Chart) (pairs : List ℕ) where
  pub overlay-short : too_short c || too_short d || ltb (length pairs) pairs_length ≡ true
      → overlaid_of (Err ShortBuffer) pairs ≡ overlay_call c d pairs
  unfolding overlay_call overlaid_by refuse_if pairs_refused
  overlay-short h = rw h

  -- where 1 does not refuse
  module _ (long : too_short c || too_short d || ltb (length pairs) pairs_length ≡ false) where
    pub first-long : too_short c ≡ false
    first-long = (or-neither (too_short c) (too_short d) (or-neither (too_short c || too_short d) (ltb (length pairs) pairs_length) long).0).0

    pub second-long : too_short d ≡ false
    second-long = (or-neither (too_short c) (too_short d) (or-neither (too_short c || too_short d) (ltb (length pairs) pairs_length) long).0).1

    pub pairs-long : pairs_length ≤ length pairs
    pairs-long = ltb-false (length pairs) pairs_length (or-neither (too_short c || too_short d) (ltb (length pairs) pairs_length) long).1

    pub overlay-broken : chain_rule c && chain_rule d ≡ false
        → overlaid_of (Err BrokenChain) pairs ≡ overlay_call c d pairs
    unfolding overlay_call overlaid_by refuse_if pairs_refused
    overlay-broken h = rw (long, either (chain_rule c) (chain_rule d) h)
      where
        either : (a b : Bool) → a && b ≡ false → not a || not b ≡ true
        either true true e = absurd (subst (λ b. T b) e tt)
        either true false e = refl
        either false b e = refl

    -- where 2 does not refuse either
    module _ (rules : chain_rule c && chain_rule d ≡ true) where
      pub first-passed : Passed c
      first-passed = passed c first-long (both (chain_rule c) (chain_rule d) rules).0

      pub second-passed : Passed d
      second-passed = passed d second-long (both (chain_rule c) (chain_rule d) rules).1

      pub overlay-passed : overlaid_by pairs (overlay_of (chart_table c) (chart_entries c) (chart_table d) (chart_entries d)) ≡ overlay_call c d pairs
      unfolding overlay_call refuse_if
      overlay-passed = rw (long, (both (chain_rule c) (chain_rule d) rules).0, (both (chain_rule c) (chain_rule d) rules).1)

-- what both charts have where neither refuses
pub both-passed : (c d : Chart) (pairs : List ℕ) {s t : Bool} → s ≡ too_short c → t ≡ too_short d → s || t || ltb (length pairs) pairs_length ≡ false
    → {a b : Bool} → a ≡ chain_rule c → b ≡ chain_rule d → a && b ≡ true → Passed c × Passed d
both-passed c d pairs p q s e f r =
    let long = sym (ap₂ (λ x y. x || y || ltb (length pairs) pairs_length) p q) ∙ s in
    let rules = sym (ap₂ ◌&&◌ e f) ∙ r in
    (first-passed c d pairs long rules, second-passed c d pairs long rules)

-- ---- the marked pairs are those of the overlay

module _ (first : List ℕ) (n : ℕ) (second : List ℕ) (m : ℕ) {es fs : List Entry} {rows : List ℕ} {r : ℕ} (o : Overlapping arity depth es fs rows r)
    (few : n ≤ max_triangles) (few' : m ≤ max_triangles) where
  same_test : (i j : ℕ) → i < n → j < m
      → meets_at first second i j && marked_at rows i j ≡ pair_listed (table_of first n) es (table_of second m) fs i j
  unfolding pair_listed
  same_test i j h k =
      ap₂ ◌&&◌ (ap₂ interiors_meet (sym (numbered-at first n i h)) (sym (numbered-at second m j k))) (o.marks i j (omega arith) (omega arith))

  same_row : (i : ℕ) → i < n
      → row_pairs first second m rows i ≡ map (λ j. record { i = i; j = j }) (filter (λ j. pair_listed (table_of first n) es (table_of second m) fs i j) (up_to (length (table_of second m))))
  unfolding row_pairs
  same_row i h =
      ap (map (λ j. record { i = i; j = j }))
      (filter-agree (λ j. meets_at first second i j && marked_at rows i j) (λ j. pair_listed (table_of first n) es (table_of second m) fs i j) (up_to m)
      (λ j s. same_test i j h (up_to-to s))
      ∙ ap (λ k. filter (λ j. pair_listed (table_of first n) es (table_of second m) fs i j) (up_to k)) (sym (table_of-length second m)))

  same-pairs : marked_pairs first n second m rows ≡ pairs_listed (table_of first n) es (table_of second m) fs
  unfolding marked_pairs pairs_listed
  same-pairs =
      let row : ℕ → List Pair = λ i. map (λ j. record { i = i; j = j }) (filter (λ j. pair_listed (table_of first n) es (table_of second m) fs i j) (up_to (length (table_of second m)))) in
      flat_map-agree (λ i. row_pairs first second m rows i) row (up_to n) (λ i s. same_row i (up_to-to s))
      ∙ ap (λ k. flat_map row (up_to k)) (sym (table_of-length first n))

  -- so what is answered from them is the overlay
  pub overlay-same : (before : List ℕ) → overlaid_by before (within_pairs (marked_pairs first n second m rows) r)
      ≡ overlaid_by before (overlay_of (table_of first n) es (table_of second m) fs)
  unfolding overlay_of
  overlay-same before = ap₂ (λ ps k. overlaid_by before (within_pairs ps k)) same-pairs o.count
