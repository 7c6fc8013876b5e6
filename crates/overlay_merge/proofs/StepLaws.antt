-- Two lists of entries merged block by block: what is marked and counted up to the places reached is what is listed together, and
-- what meets, up to there.
-- The idea: at each step both lists are cut at one key, and a block adds its own pairs alone. They end together.
-- Assumes nothing.
use mathlib.Core.Path.{◌≡◌, refl, sym, ◌∙◌, ap₂, subst}
use mathlib.Core.Bool.{true, false, true≢false, ◌&&◌, ◌||◌}
use mathlib.Core.List.{List}
use Prim.Native.Nat.{ℕ, ◌+◌, ◌*◌, ◌-◌, ◌≤◌, ◌<◌}
use native.Mathlib.Decide.{dec_lt}
use native.Mathlib.Nat.{mul-le-mul}
use native.Mathlib.Omega.{arith}
use lib.Dec.{T, ltb}
use lib.ListN.{length, get_or, take, drop, length-take}
use lib.Seq.{take_all}
use Rattle.theory_lists.specs.Lists.{any, sum_of, filter}
use Rattle.theory_lists.proofs.Reflects.{reflects-and, reflects-ltb, reflects-true}
use Rattle.theory_orthtree.specs.Entries.{Entry, span, chain, cell_heads, meetings, listed_together}
use Rattle.theory_orthtree.proofs.EntriesLaws.{no_entry}
use Rattle.theory_orthtree.specs.KeyCells.{CellEnd, RunEnd, key_cells, key_from}
use Rattle.theory_orthtree.proofs.KeyCellsLaws.{KeysOf, keys-at}
use Rattle.theory_orthtree.proofs.CutLaws.{Cut, cut-start, cut-ends}
use Rattle.theory_orthtree.proofs.RunLaws.{starts-before, cell-ends}
use Rattle.theory_orthtree.proofs.NextBlock.{Block, next-block}
use Rattle.theory_orthtree.proofs.BlockLaws.{block-together, block-meetings}
use Rattle.overlay_marks.specs.Bits.{has_bit}
use Rattle.overlay_merge.specs.Runs.{RunOf}
use Rattle.overlay_merge.specs.Merge.{KeyedItems, with_levels, EntriesFit, EmptyRows, BlockMarked, Overlapping, Merged}
use Rattle.overlay_merge.specs.declared.Marked.{Marked}
use Rattle.overlay_merge.proofs.WalkLaws.{key_cells-few}
use Rattle.spec_charts.specs.Table.{max_triangles}
use Rattle.spec_charts.specs.Cells.{max_entries}
use Rattle.overlay_merge.proofs.EntryLaws.{EntriesOf, entries-of, some-listed}

-- both lists are cut at one key, and the rows and the count are those of what comes before it
pub record Reached (arity depth : ℕ) (es fs : List Entry) (a b : ℕ) (rows : List ℕ) (count : ℕ) : Type 0 where
  pub key : ℕ
  pub first : Cut arity depth key a es
  pub second : Cut arity depth key b fs
  pub before : Overlapping arity depth (take a es) (take b fs) rows count

module _ (arity depth : ℕ) (pos : 0 < arity) where
  -- a run of a cut list starts below the key at which the larger cell ends, and so do the keys of its first cell
  run-below : (c : ℕ) {es : List Entry} → T (chain arity depth c es) → {ks : List ℕ} {n : ℕ} → KeysOf ks n es → {a p e r : ℕ} → a < n → CellEnd ks n a p
      → key_from ks n (span arity depth 0) p ≤ e → RunEnd ks n p e r → RunEnd ks n a e r
  run-below c {es} rule {ks} {n} x {a} {p} {e} h cell w run = record {
    from = omega (arith, run.from, cell.after);
    within = run.within;
    below = λ i l g. elim (dec_lt i p) [
      | yes s ↦ omega (arith, cell.same i l s, keys-at x no_entry a h, starts-before arity depth pos (get_or es a no_entry), cell-ends arity depth pos c es rule no_entry x a p cell)
      | no s ↦ run.below i (omega arith) g
    ];
    reached = run.reached;
  }

  module _ (c d : ℕ) (es fs : List Entry) (rule : T (chain arity depth c es)) (rule₂ : T (chain arity depth d fs)) where
    -- nothing is passed yet
    reached-start : (rows : List ℕ) → ((k : ℕ) → k < max_triangles * max_triangles → has_bit rows k ≡ false) → Reached arity depth es fs 0 0 rows 0
    unfolding listed_together meetings cell_heads any filter sum_of
    reached-start rows empty = record {
      key = 0;
      first = cut-start arity depth pos c es rule;
      second = cut-start arity depth pos d fs rule₂;
      before = record { marks = λ i j h l. empty (max_triangles * i + j) (omega arith); count = refl };
    }

    -- one block more
    reached-next : {s t : KeyedItems} → EntriesOf s es → EntriesOf t fs → {a b : ℕ} {rows : List ℕ} {count : ℕ}
        → Reached arity depth es fs a b rows count → a < s.count → b < t.count → {m : Marked} {after : List ℕ}
        → BlockMarked (span arity depth 0) s a t b m rows after → Reached arity depth es fs m.first m.second after (count + m.pairs)
    reached-next {s} {t} x y {a} {b} {rows} {count} r h l {m} {after} marked = record {
      key = marked.end;
      first = block.first;
      second = block.second;
      before = record {
        marks = λ i j u v. marked.marks.bits i j v
            ∙ ap₂ ◌||◌ (r.before.marks i j u v)
            (ap₂ ◌&&◌ (some-listed x a m.first (omega (arith, block.first_grows)) marked.first.within i u)
            (some-listed y b m.second (omega (arith, block.second_grows)) marked.second.within j v))
            ∙ sym (block-together arity depth pos es fs r.first r.second block i j);
        count = ap₂ ◌+◌ r.before.count marked.count
            ∙ sym (block-meetings arity depth pos es fs r.first r.second block c d rule rule₂ x.keys y.keys);
      };
    }
      where
        first_run : RunEnd s.keys s.count a marked.end m.first
        first_run = run-below c rule x.keys h marked.ends.first (omega (arith, marked.ends.end)) marked.first

        second_run : RunEnd t.keys t.count b marked.end m.second
        second_run = run-below d rule₂ y.keys l marked.ends.second (omega (arith, marked.ends.end)) marked.second

        block : Block arity depth marked.end a b m.first m.second es fs
        block =
            next-block arity depth pos c d es fs rule rule₂ x.keys y.keys r.first r.second h l marked.ends.first marked.ends.second marked.ends.end
            first_run second_run

    -- where one list ends both do
    reached-end : {s t : KeyedItems} → EntriesOf s es → EntriesOf t fs → {a b : ℕ} {rows : List ℕ} {count : ℕ}
        → Reached arity depth es fs a b rows count → a ≤ s.count → b ≤ t.count → (a < s.count → b < t.count → ⊥) → Overlapping arity depth es fs rows count
    reached-end {s} {t} x y {a} {b} {rows} {count} r first_in second_in over =
        let first_ends : a ≡ length es = elim (dec_lt a s.count) [
          | yes h ↦ cut-ends arity depth pos c fs es rule r.second r.first (elim (dec_lt b t.count) [
            | yes l ↦ absurd (over h l)
            | no l ↦ omega (arith, y.keys.count)
          ])
          | no h ↦ omega (arith, x.keys.count)
        ] in
        let second-ends = cut-ends arity depth pos d es fs rule₂ r.first r.second first_ends in
        subst (λ gs. Overlapping arity depth gs fs rows count) (take_all a es (omega arith))
        (subst (λ gs. Overlapping arity depth (take a es) gs rows count) (take_all b fs (omega arith)) r.before)

-- pairs of a block added to pairs of all before
pairs-more : (a b x y count pairs : ℕ) → count ≤ a * b → pairs ≤ x * y → count + pairs ≤ (a + x) * (b + y)
pairs-more a b x y count pairs h l = omega arith

-- the cells of a run are no more than its entries
pub run-cells : (ks : List ℕ) (a r : ℕ) → key_cells (take (r - a) (drop a ks)) ≤ r - a
run-cells ks a r = omega (arith, key_cells-few (take (r - a) (drop a ks)), length-take (r - a) (drop a ks))

-- a product of cells of two runs fits into 64 bits
pub cells_fit : {ks : List ℕ} {n p e r cells : ℕ} {ls : List ℕ} {m q f s cells₂ : ℕ} → RunOf ks n p e r cells → RunOf ls m q f s cells₂
    → 1 ≤ p → 1 ≤ q → n ≤ max_entries → m ≤ max_entries → cells * cells₂ ≤ max_entries * max_entries
cells_fit x y h l g k =
    mul-le-mul {n₂ = max_entries} {m₂ = max_entries} (omega (arith, x.few, x.ends.within)) (omega (arith, y.few, y.ends.within))

-- a number of pairs fits into 64 bits
pub pairs-fit : {count p q : ℕ} → count ≤ p * q → p ≤ max_entries → q ≤ max_entries → count ≤ max_entries * max_entries
pairs-fit {count} {p} {q} h l g = omega (arith, mul-le-mul {n₁ = p} {m₁ = q} {n₂ = max_entries} {m₂ = max_entries} l g)

-- both places are within their lists
pub both_below : {a n b m : ℕ} → ltb a n && ltb b m ≡ true → (a < n) × (b < m)
both_below {a} {n} {b} {m} e = (reflects-and (reflects-ltb a n) (reflects-ltb b m)).to (rw e tt)

-- or one is not
pub not-both : {a n b m : ℕ} → ltb a n && ltb b m ≡ false → a < n → b < m → ⊥
not-both {a} {n} {b} {m} e h l = true≢false (sym (reflects-true (reflects-and (reflects-ltb a n) (reflects-ltb b m)) (h, l)) ∙ e)

-- the merge up to places a and b: what is reached, in every tree whose keys end at tree_end
pub record Merging (tree_end : ℕ) (s t : KeyedItems) (start rows : List ℕ) (count a b : ℕ) : Type 0 where
  pub first_in : a ≤ s.count
  pub second_in : b ≤ t.count
  pub few : count ≤ a * b
  pub kept : length rows ≡ length start
  pub reached : (arity depth : ℕ) → 0 < arity → span arity depth 0 ≡ tree_end → (es fs : List Entry) → EntriesOf s es → EntriesOf t fs → (c d : ℕ)
      → T (chain arity depth c es) → T (chain arity depth d fs) → Reached arity depth es fs a b rows count

module _ (tree_end : ℕ) (s t : KeyedItems) where
  pub merging_start : (rows : List ℕ) → EmptyRows rows → Merging tree_end s t rows rows 0 0 0
  merging_start rows empty = record {
    first_in = omega arith;
    second_in = omega arith;
    few = omega arith;
    kept = refl;
    reached = λ arity depth pos end es fs x y c d rule rule₂.
        reached-start arity depth pos c d es fs rule rule₂ rows (λ k h. empty.unmarked k (omega arith));
  }

  module _ {start rows : List ℕ} {count a b : ℕ} (g : Merging tree_end s t start rows count a b) where
    module _ {m : Marked} {after : List ℕ} (marked : BlockMarked tree_end s a t b m rows after) where
      -- the pairs so far are no more than those of the entries passed
      pub merging-few : count + m.pairs ≤ m.first * m.second
      merging-few =
          let p = m.first in
          let q = m.second in
          let x : a + (p - a) ≡ p = omega (arith, marked.first.from, marked.ends.first.after) in
          let y : b + (q - b) ≡ q = omega (arith, marked.second.from, marked.ends.second.after) in
          let u = mul-le-mul (run-cells s.keys a p) (run-cells t.keys b q) in
          rw (x, y) at (pairs-more a b (p - a) (q - b) count m.pairs g.few (omega (arith, marked.count)))

      pub merging-next : a < s.count → b < t.count → Merging tree_end s t start after (count + m.pairs) m.first m.second
      merging-next h l = record {
        first_in = marked.first.within;
        second_in = marked.second.within;
        few = merging-few;
        kept = marked.marks.kept ∙ g.kept;
        reached = λ arity depth pos end es fs x y c d rule rule₂.
            reached-next arity depth pos c d es fs rule rule₂ x y (g.reached arity depth pos end es fs x y c d rule rule₂) h l
            (subst (λ e. BlockMarked e s a t b m rows after) (sym end) marked);
      }

    -- where one list ends both do
    pub merging-end : EntriesFit s → EntriesFit t → (a < s.count → b < t.count → ⊥) → Merged tree_end s t rows count
    merging-end first second over = record {
      overlapping = λ arity depth pos end us vs us-long vs-long c d rule rule₂.
          let x = entries-of s first us us-long in
          let y = entries-of t second vs vs-long in
          let chained : T (chain arity depth c (with_levels s us)) = rw rule tt in
          let chained₂ : T (chain arity depth d (with_levels t vs)) = rw rule₂ tt in
          reached-end arity depth pos c d (with_levels s us) (with_levels t vs) chained chained₂ x y
          (g.reached arity depth pos end (with_levels s us) (with_levels t vs) x y c d chained chained₂) g.first_in g.second_in over;
    }
