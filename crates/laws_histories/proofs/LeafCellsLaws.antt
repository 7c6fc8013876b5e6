-- The cells of a table, the triangles of each, and the triangle under a point, by places and by membership.
-- Assumes nothing.
use mathlib.Core.Path.{◌≡◌, sym, ◌∙◌}
use mathlib.Core.Bool.{Bool, true≢false}
use mathlib.Core.List.{List, Memᴰ}
use mathlib.Core.Logic.{◌↔◌}
use mathlib.Core.Option.{none, some}
use Prim.Native.Nat.{ℕ, ◌^◌, ◌<◌}
use native.Mathlib.Omega.{arith}
use lib.Dec.{T}
use lib.ListN.{length}
use Rattle.theory_lists.specs.Lists.{first, up_to}
use Rattle.theory_lists.proofs.Reflects.{test-true, test-false}
use Rattle.theory_lists.proofs.ListsLaws.{up_to-to, up_to-from}
use Rattle.theory_lists.proofs.MemberLaws.{filter-to, filter-from}
use Rattle.theory_lists.proofs.Order.{ordered_at, rising-ordered}
use Rattle.theory_lists.proofs.OrderLaws.{up_to-ordered}
use Rattle.theory_lists.proofs.LowestLaws.{Lowest, LowestAt, lowest-found, lowest-nowhere, lowest-is, lowest-none, first-lowest}
use Rattle.theory_orthtree.proofs.TilingLaws.{Tiles, done, next, tiles-first, tiles-next, tiles-last}
use Rattle.spec_plane.specs.declared.Point.{Point}
use Rattle.spec_plane.specs.Triangle.{holds}
use Rattle.spec_plane.specs.Box.{triangle_meets}
use Rattle.spec_squares.specs.declared.Square.{Square}
use Rattle.spec_squares.specs.Square.{whole_square, square_key, square_box}
use Rattle.spec_charts.specs.Table.{Table, numbered}
use Rattle.spec_charts.specs.Cells.{cells, triangles_meeting, cell_entries, entries_of}
use Rattle.spec_charts.specs.Overlay.{keys_of}
use Rattle.laws_charts.proofs.EntriesOfTable.{meeting-filter}
use Rattle.laws_charts.proofs.ChainOfTable.{meeting-rising}
use Rattle.laws_charts.proofs.MeetingsOfTable.{cells-tile}
use Rattle.spec_calls.specs.Buffers.{Chart, chart_table, chart_entries}
use Rattle.laws_histories.specs.LeafCells.{InZOrder, AllMeeting, LeafCells, LowestHolding}

-- what tiles the keys stands in Z-order
tiles-order : (ss : List Square) → Tiles (λ s. square_key s) (λ s. keys_of s) 0 ss (2 ^ 32) → InZOrder ss
tiles-order ss t =
    record {
      some = any t;
      first = tiles-first (λ s. square_key s) (λ s. keys_of s) whole_square t (any t);
      next = λ n l. tiles-next (λ s. square_key s) (λ s. keys_of s) whole_square n t l;
      last = λ n l. tiles-last (λ s. square_key s) (λ s. keys_of s) whole_square n t l;
    }
  where
    any : {ss : List Square} → Tiles (λ s. square_key s) (λ s. keys_of s) 0 ss (2 ^ 32) → 0 < length ss
    any (done e) = absurd (omega arith)
    any (next e t) = omega arith

-- the cells of a table do
cells-order : (table : Table) → InZOrder (cells table)
cells-order table = tiles-order (cells table) (cells-tile table)

-- the triangles that meet a square, by membership
meeting-iff : (table : Table) (s : Square) (i : ℕ)
    → Memᴰ i (triangles_meeting table s) ↔ ((i < length table) × T (triangle_meets (numbered table i) (square_box s)))
meeting-iff table s i =
    let meets : ℕ → Bool = λ i. triangle_meets (numbered table i) (square_box s) in
    rw (← meeting-filter table s) (
      (λ m. let h = filter-to meets (up_to (length table)) m in (up_to-to h.0, h.1)),
      λ h. filter-from meets (up_to (length table)) (up_to-from h.0) h.1,
    )

-- they are all of them, ascending
meeting-all : (table : Table) (s : Square) → AllMeeting table s (triangles_meeting table s)
meeting-all table s = record {
  exactly = meeting-iff table s;
  ascending = λ m n h l. ordered_at m n 0 (rising-ordered (meeting-rising table s)) h l;
}

-- a chart with the entries of its table holds its leaf cells
pub table-leaves : (d : Chart) → chart_entries d ≡ entries_of (chart_table d) → LeafCells d
unfolding entries_of cell_entries
table-leaves d e = record {
  items = λ s. triangles_meeting (chart_table d) s;
  meeting = λ s m. meeting-all (chart_table d) s;
  order = cells-order (chart_table d);
  entries = e;
}

module _ (table : Table) (p : Point) where
  abbrev test : ℕ → Bool
  test i = holds (numbered table i) p

  -- what the search from triangle 0 on finds
  abbrev lowest : Lowest test (up_to (length table)) (first test (up_to (length table)))
  lowest = first-lowest test (up_to-ordered (length table))

  lowest-to : {i : ℕ} → LowestAt test (up_to (length table)) i → LowestHolding table p i
  lowest-to {i} a =
      let b = up_to-to a.member in
      record {
        below = b;
        holding = rw a.passes tt;
        lowest = λ j l h. let g = a.lowest j (up_to-from (omega arith)) (test-true h) in omega arith;
      }

  lowest-from : {i : ℕ} → LowestHolding table p i → LowestAt test (up_to (length table)) i
  lowest-from {i} h = record {
    member = up_to-from h.below;
    passes = test-true h.holding;
    lowest = λ j m t. let n : j < i → ⊥ = λ l. h.lowest j l (rw t tt) in omega arith;
  }

  -- is the lowest numbered triangle that holds the point
  pub first_found : (i : ℕ) → (first test (up_to (length table)) ≡ some i) ↔ LowestHolding table p i
  first_found i = (
    (λ e. lowest-to (lowest-found test (rw e at lowest))),
    λ h. lowest-is test lowest (lowest-from h),
  )

  -- and nothing where none holds it
  pub first-nowhere : (first test (up_to (length table)) ≡ none) ↔ ((i : ℕ) → i < length table → T (test i) → ⊥)
  first-nowhere = (
    (λ e i l t. true≢false (sym (test-true t) ∙ lowest-nowhere test (rw e at lowest) i (up_to-from l))),
    λ n. lowest-none test lowest (λ j m. test-false (λ t. n j (up_to-to m) t)),
  )
