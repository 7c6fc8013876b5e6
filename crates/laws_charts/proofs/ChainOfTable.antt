-- The entries of a table: how many a cell has, that they satisfy the chain rule, and the bounds of their numbers.
-- The idea: the cells are the leaves of the tree of squares, so the laws on those hold of them.
-- Assumes nothing.
use mathlib.Core.Path.{◌≡◌, refl, ◌∙◌}
use mathlib.Core.List.Memᴰ
use mathlib.Core.List.{List, [], ◌∷◌}
use mathlib.Core.Logic.{◌⊎◌, inl, inr}
use Prim.Native.Nat.{ℕ, ◌^◌, ◌≤◌, ◌<◌, max}
use native.Mathlib.Omega.{arith}
use lib.Dec.{T}
use lib.ListN.{length, length-map}
use Rattle.theory_lists.proofs.ListsLaws.{Every}
use Rattle.theory_lists.proofs.EveryLaws.{every_map, every-flat_map}
use Rattle.theory_lists.proofs.Order.{Rising, rising_none, rising-more, rising-members, places-rising}
use Rattle.theory_orthtree.specs.Entries.{Entry, empty_mark, chain}
use Rattle.theory_orthtree.proofs.ChainTilingLaws.{Listing, marked, listed}
use Rattle.spec_plane.specs.Box.{triangle_meets}
use Rattle.spec_squares.specs.declared.Square.{Square}
use Rattle.spec_squares.specs.Square.{arity, depth, square_key, square_box, Aligned}
use Rattle.spec_squares.proofs.ZOrderLaws.{z_order-bound}
use Rattle.spec_squares.proofs.SquareLeavesLaws.{leaves-aligned, squares-chain}
use Rattle.spec_charts.specs.Table.{Table, max_triangles}
use Rattle.spec_charts.specs.Cells.{stopped, cells_in, cells, triangles_meeting, or_mark, entry_of, cell_entries, entries_of}

or_mark-count : (is : List ℕ) → length (or_mark is) ≡ max 1 (length is)
unfolding or_mark
or_mark-count [] = refl
or_mark-count (i ∷ is) = omega arith

-- a cell has one entry where no triangle meets it, and otherwise as many as triangles
pub cell_entries-count : (table : Table) (s : Square) → length (cell_entries table s) ≡ max 1 (length (triangles_meeting table s))
unfolding cell_entries
cell_entries-count table s = length-map (or_mark (triangles_meeting table s)) (entry_of s) ∙ or_mark-count (triangles_meeting table s)

listing-of : {n : ℕ} {is : List ℕ} → Rising 0 n is → Listing n (or_mark is)
unfolding or_mark
listing-of rising_none = marked
listing-of (rising-more a b r) = listed (rising-more a b r)

-- the numbers of the triangles that meet a square ascend and are below the count
pub meeting-rising : (table : Table) (s : Square) → Rising 0 (length table) (triangles_meeting table s)
unfolding triangles_meeting
meeting-rising table s = places-rising (λ t. triangle_meets t (square_box s)) table

-- the entries of a table satisfy the chain rule
pub entries-chain : (table : Table) → length table ≤ max_triangles → T (chain arity depth (length table) (entries_of table))
unfolding entries_of cells cells_in cell_entries entry_of empty_mark
entries-chain table few =
    squares-chain (λ s. stopped table s) (length table) (omega arith) (λ s. or_mark (triangles_meeting table s))
    (λ s m. listing-of (meeting-rising table s))

-- each cell is a square of the tree
pub cells-aligned : (table : Table) → Every (λ s. Aligned s) (cells table)
unfolding cells cells_in
cells-aligned table = leaves-aligned (λ s. stopped table s)

-- an entry of a table: its key and level are those of a square, its item is below the count or the mark
pub record EntryBounds (count : ℕ) (e : Entry) : Type 0 where
  pub key : e.key < 2 ^ 32
  pub level : e.level ≤ 16
  pub item : (e.item < count) ⊎ (e.item ≡ empty_mark)

listed-items : {n : ℕ} {is : List ℕ} → Listing n is → Every (λ i. (i < n) ⊎ (i ≡ empty_mark)) is
listed-items {n} marked i m = inr (Memᴰ.eq_of_singleton m)
listed-items {n} (listed r) i m = inl (rising-members r i m).1

-- each entry of a table is such an entry
pub entries-bounds : (table : Table) → Every (λ e. EntryBounds (length table) e) (entries_of table)
unfolding entries_of cell_entries entry_of square_key
entries-bounds table =
    every-flat_map (λ s. cell_entries table s) (cells table) (λ s m.
    every_map (EntryBounds (length table)) (entry_of s) (or_mark (triangles_meeting table s)) (λ i n. record {
      key = z_order-bound (record { x = s.x; y = s.y });
      level = (cells-aligned table s m).deep;
      item = listed-items (listing-of (meeting-rising table s)) i n;
    }))
