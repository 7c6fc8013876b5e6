-- Nothing of demand 2 is free: leaf cells with all their triangles are one list of entries, their keys rise, and an accepted event leaves
-- one chart.
-- The idea: the triangles that meet a cell and their order determine its list.
-- Assumes nothing.
use mathlib.Core.Path.{◌≡◌, sym, ◌∙◌, ap, subst}
use mathlib.Core.List.{List, map, flat_map, Memᴰ}
use Prim.Native.Nat.{ℕ, suc, ◌<◌}
use native.Mathlib.Omega.{arith}
use lib.ListN.{length, get_or}
use Rattle.theory_lists.proofs.EveryLaws.{flat_map-agree}
use Rattle.theory_lists.proofs.Order.{Ordered, ordered-places}
use Rattle.theory_lists.proofs.OrderLaws.{ordered-unique}
use Rattle.theory_orthtree.specs.Entries.{Entry}
use Rattle.theory_orthtree.proofs.EntriesLaws.{span-positive}
use Rattle.spec_squares.specs.declared.Square.{Square}
use Rattle.spec_squares.specs.Square.{arity, depth, whole_square, square_key}
use Rattle.spec_charts.specs.Table.{Table}
use Rattle.spec_charts.specs.Cells.{cells, or_mark, entry_of}
use Rattle.spec_charts.specs.Edits.{Event}
use Rattle.laws_charts.proofs.OutcomeLaws.{done-same}
use Rattle.spec_calls.specs.Buffers.{Chart, chart_table, chart_entries, indexed_chart}
use Rattle.laws_histories.specs.LeafCells.{AllMeeting, LeafCells, AcceptedLeaves}

module _ {table : Table} {s : Square} where
  items-ascend : {is : List ℕ} → AllMeeting table s is → Ordered (λ i j. i < j) is
  items-ascend {is} a = ordered-places is 0 (λ m n h l. a.ascending m n (omega arith) (omega arith))

  -- all the triangles that meet a square are one list
  one_list : {is js : List ℕ} → AllMeeting table s is → AllMeeting table s js → is ≡ js
  one_list a b =
      ordered-unique (λ i j l g. omega arith) (items-ascend a) (items-ascend b) (λ i m. (b.exactly i).1 ((a.exactly i).0 m))
      (λ i m. (a.exactly i).1 ((b.exactly i).0 m))

-- the entries of cells by their items
abbrev cells_entries : (Square → List ℕ) → List Square → List Entry
cells_entries items ss = flat_map (λ s. map (λ i. entry_of s i) (or_mark (items s))) ss

-- two charts of one table that hold its leaf cells have the same entries
pub one_index : {c d : Chart} → LeafCells c → LeafCells d → chart_table c ≡ chart_table d → chart_entries c ≡ chart_entries d
one_index {c} {d} a b e =
    let other = subst (λ t. (s : Square) → Memᴰ s (cells t) → AllMeeting t s (b.items s)) (sym e) b.meeting in
    a.entries
    ∙ flat_map-agree _ _ (cells (chart_table c)) (λ s m. ap (λ is. map (λ i. entry_of s i) (or_mark is)) (one_list (a.meeting s m) (other s m)))
    ∙ ap (λ t. cells_entries b.items (cells t)) e
    ∙ sym b.entries

-- in Z-order the keys of the cells rise
pub keys-rise : {d : Chart} → LeafCells d → (n : ℕ) → suc n < length (cells (chart_table d))
    → square_key (get_or (cells (chart_table d)) n whole_square) < square_key (get_or (cells (chart_table d)) (suc n) whole_square)
keys-rise {d} l n h =
    let s = get_or (cells (chart_table d)) n whole_square in
    omega (arith, l.order.next n h, span-positive arity depth s.level (omega arith))

-- an accepted event leaves one chart
pub one-chart : (e : Event) (c : Chart) {d d' : Chart} → AcceptedLeaves e c d → AcceptedLeaves e c d' → d ≡ d'
one-chart e c a b = a.is ∙ ap (indexed_chart c) (done-same (sym a.made ∙ b.made)) ∙ sym b.is
