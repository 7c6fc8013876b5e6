-- Locating a point in any list of entries that satisfies the chain rule, indexed from a table or not: the first listed triangle that
-- passes a test is the lowest numbered listed one that passes it.
-- The idea: the numbers of a cell listing ascend strictly.
-- Assumes nothing.
use mathlib.Core.Bool.{Bool}
use mathlib.Core.List.{List}
use Prim.Native.Nat.{ℕ, ◌<◌}
use native.Mathlib.Omega.{arith}
use lib.Dec.{T}
use Rattle.theory_lists.specs.Lists.{first}
use Rattle.theory_lists.proofs.ListsLaws.{Every}
use Rattle.theory_lists.proofs.EveryLaws.{every-imp}
use Rattle.theory_lists.proofs.Order.{Rising, rising-members, rising-ordered}
use Rattle.theory_lists.proofs.LowestLaws.{Lowest, first-lowest}
use Rattle.theory_orthtree.specs.Entries.{Entry, chain}
use Rattle.theory_orthtree.proofs.ChainItemsLaws.{cell-items-rising}
use Rattle.spec_plane.specs.declared.Point.{Point}
use Rattle.spec_plane.specs.Triangle.{holds}
use Rattle.spec_squares.specs.Square.{arity, depth, z_order}
use Rattle.spec_charts.specs.Table.{Table, numbered}
use Rattle.spec_charts.specs.Reading.{cell_of, listing, located}

module _ (count : ℕ) (es : List Entry) (rule : T (chain arity depth count es)) (p : Point) where
  -- the numbers of a cell listing ascend strictly, below the triangle count
  pub listing-rising : Rising 0 count (listing es p)
  unfolding listing cell_of
  listing-rising = cell-items-rising arity depth count (omega arith) es rule (z_order p)

  -- each listed number is below the count
  pub listed_below : Every (λ i. i < count) (listing es p)
  listed_below = every-imp (λ i h. h.1) (rising-members listing-rising)

  -- the first listed triangle that passes a test is the lowest numbered of those listed that pass it
  pub first-listed : (f : ℕ → Bool) → Lowest f (listing es p) (first f (listing es p))
  first-listed f = first-lowest f (rising-ordered listing-rising)

  -- locate gives the lowest numbered of the listed triangles that hold the point, and nowhere only if none of them holds it
  pub located-lowest : (table : Table) → Lowest (λ i. holds (numbered table i) p) (listing es p) (located table es p)
  unfolding located
  located-lowest table = first-listed (λ i. holds (numbered table i) p)
