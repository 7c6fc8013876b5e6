-- Locate finds the lowest numbered of the triangles listed in the point's cell that hold the point, on every chart that passes
-- checks 1 and 2; on an indexed chart that is the lowest numbered of the whole table.
-- The laws before the last of each kind speak of any test, not only of whether a triangle holds the point.
-- Assumes nothing.
use mathlib.Core.Path.{◌≡◌, refl, sym, ◌∙◌, ap}
use mathlib.Core.Bool.{Bool, true, false}
use Prim.Native.Nat.{ℕ}
use lib.Dec.{T}
use lib.ListN.{length}
use Rattle.theory_lists.specs.Lists.{first, up_to}
use Rattle.theory_lists.proofs.LowestLaws.{Lowest}
use Rattle.spec_plane.specs.declared.Point.{Point}
use Rattle.spec_plane.specs.Triangle.{holds}
use Rattle.spec_plane.proofs.ExtremeLaws.{OnGrid}
use Rattle.spec_charts.specs.Table.{numbered}
use Rattle.spec_charts.specs.Cells.{entries_of}
use Rattle.spec_charts.specs.Reading.{listing, located, found_position}
use Rattle.laws_charts.proofs.LocateOfChain.{first-listed}
use Rattle.laws_charts.proofs.LocateOfTable.{first-of-table}
use Rattle.laws_charts.proofs.TableLaws.{table_of-length}
use Rattle.spec_calls.specs.Buffers.{Chart, too_short, chain_rule, indexed, chart_table, chart_entries}
use Rattle.spec_calls.specs.Calls.{locate_call}
use Rattle.laws_calls.proofs.EntriesLaws.{same_entries-reflects}
use Rattle.laws_calls.proofs.BufferLaws.{ruled}
use Rattle.laws_calls.proofs.ReaderLaws.{located-done}

-- a table has as many triangles as its count says
pub chart-table-length : (c : Chart) → length (chart_table c) ≡ c.triangle_count
unfolding chart_table
chart-table-length c = table_of-length c.table c.triangle_count

-- a chart whose entries are those of its table
pub entries-indexed : (c : Chart) → indexed c ≡ true → chart_entries c ≡ entries_of (chart_table c)
unfolding indexed
entries-indexed c f = (same_entries-reflects (chart_entries c) (entries_of (chart_table c))).to (rw f tt)

-- the position is that of the point by the triangle found, "as outside when the answer is nowhere, refusals included"
pub locate-position : (c : Chart) (p : Point) → (locate_call c p).position ≡ found_position (chart_table c) p (locate_call c p).found
unfolding locate_call
locate-position c p = refl

module _ (c : Chart) (p : Point) (r : chain_rule c ≡ true) where
  -- of the triangles listed in the point's cell, the first that passes a test is the lowest numbered that passes it
  pub lowest-listed : (f : ℕ → Bool) → Lowest f (listing (chart_entries c) p) (first f (listing (chart_entries c) p))
  lowest-listed f = first-listed c.triangle_count (chart_entries c) (ruled c r).chained p f

  -- on an indexed chart, for a test that only triangles pass that hold the point, that is the first of the whole table
  pub first-indexed : OnGrid p → indexed c ≡ true → (f : ℕ → Bool) → ((i : ℕ) → T (f i) → T (holds (numbered (chart_table c) i) p))
      → first f (listing (chart_entries c) p) ≡ first f (up_to (length (chart_table c)))
  first-indexed g e f only =
      let rule = ruled c r in
      ap (λ es. first f (listing es p)) (entries-indexed c e)
      ∙ first-of-table (chart_table c) (rw chart-table-length rule.triangles) p g rule.good f only

  module _ (s : too_short c ≡ false) where
    found_first : (locate_call c p).found ≡ first (λ i. holds (numbered (chart_table c) i) p) (listing (chart_entries c) p)
    unfolding located
    found_first = sym (ap (λ a. a.found) (located-done c s r p))

    -- the triangle found is the lowest numbered of those listed that hold the point; nowhere is answered only if none of them holds it
    pub locate-lowest-listed : Lowest (λ i. holds (numbered (chart_table c) i) p) (listing (chart_entries c) p) (locate_call c p).found
    locate-lowest-listed = rw found_first (lowest-listed (λ i. holds (numbered (chart_table c) i) p))

    -- on an indexed chart it is the lowest numbered of the whole table that holds the point
    pub locate-lowest : OnGrid p → indexed c ≡ true
        → (locate_call c p).found ≡ first (λ i. holds (numbered (chart_table c) i) p) (up_to (length (chart_table c)))
    locate-lowest g e = found_first ∙ first-indexed g e (λ i. holds (numbered (chart_table c) i) p) (λ i h. h)
