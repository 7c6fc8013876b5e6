-- What the statement of demand 2 says where the table is written out, and what it rules out: examples for its fields.
-- Assumes nothing.
use mathlib.Core.Path.{◌≡◌, refl, subst, ap, ◌∙◌}
use mathlib.Core.Bool.{true, false}
use mathlib.Core.List.{[], ◌∷◌, map, flat_map, Memᴰ}
use mathlib.Core.Option.{none}
use Prim.Native.Nat.{ℕ, ◌<◌}
use native.Mathlib.Nat.{le_refl}
use native.Mathlib.Omega.{arith}
use lib.ListN.{length, get_or}
use Rattle.theory_lists.proofs.ListsLaws.{get_or-member}
use Rattle.spec_plane.specs.declared.Point.{Point}
use Rattle.spec_plane.specs.declared.Position.TheVariants.{Inside, AtC, Outside}
use Rattle.spec_squares.specs.declared.Square.{Square}
use Rattle.spec_squares.specs.Square.{whole_square, top_left, bottom_left, bottom_right}
use Rattle.spec_charts.specs.Table.{Table}
use Rattle.spec_charts.specs.Cells.{cells, triangles_meeting, or_mark, entry_of}
use Rattle.spec_charts.specs.Refusals.{Outcome, done}
use Rattle.spec_charts.specs.Edits.{load}
use Rattle.spec_charts.proofs.Written.{at}
use Rattle.spec_calls.specs.Buffers.{Chart, too_short, chain_rule, indexed, chart_table, chart_entries, indexed_chart}
use Rattle.spec_calls.specs.Calls.{Located, locate_call}
use Rattle.spec_calls.proofs.Evaluate.{evaluate}
use Rattle.laws_calls.proofs.LongBufferExamples.{numbers_a, dirty, indexed_a}
use Rattle.laws_histories.specs.LeafCells.{InZOrder, LeafCells, LowestHolding, FoundUnder, AcceptedLeaves}
use Rattle.laws_histories.proofs.Examples.{two}

-- ---- an accepted load into buffers that held sevens

module _ (d : Chart) (h : AcceptedLeaves (load numbers_a) dirty d) where
  -- the table given
  event-made-example : ◌≡◌ {A = Outcome Table} (done two) (done (chart_table d))
  unfolding evaluate
  event-made-example = h.made

  -- every list and both counts
  event-chart-example : chart_table d ≡ two → d ≡ indexed_a
  unfolding evaluate
  event-chart-example e = h.is ∙ ap (indexed_chart dirty) e

  -- it passes refusals 1, 2 and 3
  event-passes-example : (too_short d ≡ false) × ((chain_rule d ≡ true) × (indexed d ≡ true))
  event-passes-example = (h.long, (h.chained, h.same))

-- ---- the leaf cells of its table

-- cell 16 of the 19: both triangles meet it
abbrev sixteen : Square
sixteen = get_or (cells two) 16 whole_square

-- cell 0, which none meets
abbrev zeroth : Square
zeroth = get_or (cells two) 0 whole_square

module _ (h : LeafCells indexed_a) where
  -- all the triangles that meet it
  meeting-listed-example : Memᴰ 1 (h.items sixteen)
  unfolding evaluate
  meeting-listed-example = ((h.meeting sixteen (get_or-member (cells two) 16 whole_square (omega arith))).exactly 1).1 (le_refl 2, tt)

  -- and no other
  unmeeting-left-out-example : Memᴰ 0 (h.items zeroth) → ⊥
  unfolding evaluate
  unmeeting-left-out-example m = (((h.meeting zeroth (get_or-member (cells two) 0 whole_square (omega arith))).exactly 0).0 m).1

  -- ascending
  items-descending-example : h.items sixteen ≡ 1 ∷ 0 ∷ [] → ⊥
  unfolding evaluate
  items-descending-example e =
      let a = (h.meeting sixteen (get_or-member (cells two) 16 whole_square (omega arith))).ascending 0 1 (le_refl 1) (rw e (le_refl 2)) in
      let b : 1 < 0 = subst (λ is. get_or is 0 0 < get_or is 1 0) e a in omega arith

-- there is a cell, the first starts at key 0, and the last ends at 2^32
no-cells-example : InZOrder [] → ⊥
no-cells-example h = omega (arith, h.some)

late-cells-example : InZOrder (bottom_right whole_square ∷ []) → ⊥
unfolding evaluate
late-cells-example h = let e : ◌≡◌ {A = ℕ} 3221225472 0 = h.first in omega arith

short-cells-example : InZOrder (top_left whole_square ∷ []) → ⊥
unfolding evaluate
short-cells-example h = let e : ◌≡◌ {A = ℕ} 1073741824 4294967296 = h.last 0 refl in omega arith

-- no quarter is passed over
cells-gap-example : InZOrder (top_left whole_square ∷ bottom_left whole_square ∷ []) → ⊥
unfolding evaluate
cells-gap-example h = let e : ◌≡◌ {A = ℕ} 2147483648 1073741824 = h.next 0 (le_refl 2) in omega arith

-- cell after cell, with the mark where none meets it
leaf-entries-example : (d : Chart) (h : LeafCells d) → chart_table d ≡ two → h.items ≡ (λ s. triangles_meeting two s)
    → chart_entries d ≡ chart_entries indexed_a
unfolding evaluate
leaf-entries-example d h e f =
    h.entries
    ∙ ap (λ t. flat_map (λ s. map (λ i. entry_of s i) (or_mark (h.items s))) (cells t)) e
    ∙ ap (λ items. flat_map (λ s. map (λ i. entry_of s i) (or_mark (items s))) (cells two)) f

-- ---- the triangle under a point

-- both triangles have this corner: the lower numbered is found
lowest-found-example : FoundUnder indexed_a (at 60000 45000) → LowestHolding two (at 60000 45000) 0
unfolding evaluate
lowest-found-example h = (h.found 0).0 refl

second-not-lowest-example : LowestHolding two (at 60000 45000) 1 → ⊥
unfolding evaluate
second-not-lowest-example h = h.lowest 0 (le_refl 1) tt

-- nowhere where no triangle holds the point
found-nowhere-example : (d : Chart) (p : Point) → FoundUnder d p → chart_table d ≡ []
    → ◌≡◌ {A = Located} (locate_call d p) (record { number = 0; found = none; position = Outside })
found-nowhere-example d p h e =
    let n = h.nowhere.1 (λ i l t. let z : i < 0 = subst (λ table. i < length table) e l in omega arith) in
    λ i. record { number = h.number i; found = n i; position = h.outside n i }

-- at corner c of triangle 0, and inside triangle 1, where each is found
position-found-example : FoundUnder indexed_a (at 60000 45000) → (locate_call indexed_a (at 60000 45000)).position ≡ AtC
unfolding evaluate
position-found-example h = (h.position 0 refl AtC).1 refl

inside-found-example : FoundUnder indexed_a (at 50000 50000) → (locate_call indexed_a (at 50000 50000)).position ≡ Inside
unfolding evaluate
inside-found-example h = (h.position 1 refl Inside).1 tt
