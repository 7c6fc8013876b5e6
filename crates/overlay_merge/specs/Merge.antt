-- The blocks into which two lists of entries are cut, marked in rows of bits (document 01, "Overlay"). The end of the tree's keys is
-- all that is said of the tree, so that it serves every tree whose keys end there.
-- Assumes nothing.
use Rattle.std.specs.Prelude.{◌≡◌, true, false, List, ℕ, ◌+◌, ◌*◌, ◌-◌, ◌≤◌, ◌<◌, length, take, drop}
use Rattle.theory_lists.specs.Lists.{part}
use Rattle.theory_orthtree.specs.Entries.{Entry, span, chain, meetings, listed_together}
use Rattle.theory_orthtree.specs.KeyCells.{RunEnd, key_cells}
use Rattle.spec_charts.specs.Table.{max_triangles}
use Rattle.spec_charts.specs.Cells.{max_entries}
use Rattle.spec_calls.specs.Buffers.{zip_entries}
use Rattle.overlay_marks.specs.Bits.{has_bit}
use Rattle.overlay_marks.specs.PairMarks.{rows_length, PartsMarked}
use Rattle.overlay_merge.specs.declared.ChartEntries.{ChartEntries}
use Rattle.overlay_merge.specs.declared.Marked.{Marked}
use Rattle.overlay_merge.specs.Runs.{BlockEnd}

-- the keys and items of so many entries
pub record KeyedItems : Type 0 where
  pub keys : List ℕ
  pub items : List ℕ
  pub count : ℕ

-- those of a chart's entries
abbrev pub keyed : ChartEntries → KeyedItems
keyed entries = record { keys = entries.keys.now; items = entries.items.now; count = length entries.keys.now }

-- the entries, with these levels
abbrev pub with_levels : KeyedItems → List ℕ → List Entry
with_levels s levels = take s.count (zip_entries s.keys levels s.items)

-- they are at most 16,384, and all there
pub record EntriesFit (s : KeyedItems) : Type 0 where
  pub few : s.count ≤ max_entries
  pub for_keys : s.count ≤ length s.keys
  pub for_items : s.count ≤ length s.items

-- rows for all pairs, without a mark
pub record EmptyRows (rows : List ℕ) : Type 0 where
  pub room : rows_length ≤ length rows
  pub unmarked : (k : ℕ) → k < 64 * rows_length → has_bit rows k ≡ false

-- the block that starts at places a and b, marked in the rows: where it ends, and its pairs of cells
pub record BlockMarked (tree_end : ℕ) (s : KeyedItems) (a : ℕ) (t : KeyedItems) (b : ℕ) (r : Marked) (before after : List ℕ) : Type 0 where
  pub end : ℕ
  pub ends : BlockEnd tree_end s.keys s.count a t.keys t.count b end
  pub first : RunEnd s.keys s.count ends.p end r.first
  pub second : RunEnd t.keys t.count ends.q end r.second
  pub count : r.pairs ≡ key_cells (take (r.first - a) (drop a s.keys)) * key_cells (take (r.second - b) (drop b t.keys))
  pub marks : PartsMarked before (part a r.first s.items) (part b r.second t.items) after

-- the rows have a bit for each pair of items that are listed together, and r is the number of meetings
pub record Overlapping (arity depth : ℕ) (es fs : List Entry) (rows : List ℕ) (r : ℕ) : Type 0 where
  pub marks : (i j : ℕ) → i < max_triangles → j < max_triangles → has_bit rows (max_triangles * i + j) ≡ listed_together arity depth es fs i j
  pub count : r ≡ meetings arity depth es fs

-- the same of keys and items that satisfy the chain rule of a tree whose keys end at tree_end, whatever levels and triangle counts they
-- do so with
pub record Merged (tree_end : ℕ) (s t : KeyedItems) (rows : List ℕ) (r : ℕ) : Type 0 where
  pub overlapping : (arity depth : ℕ) → 0 < arity → span arity depth 0 ≡ tree_end
      → (us vs : List ℕ) → s.count ≤ length us → t.count ≤ length vs → (c d : ℕ)
      → chain arity depth c (with_levels s us) ≡ true → chain arity depth d (with_levels t vs) ≡ true
      → Overlapping arity depth (with_levels s us) (with_levels t vs) rows r
