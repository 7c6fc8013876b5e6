-- What `listing` hands back by keys alone is, in lists that satisfy the chain rule, the listing of the cell that the point lies in: the
-- laws over any arity and depth, for the tree of squares and the key Z(p).
-- Assumes nothing.
use mathlib.Core.Path.{◌≡◌, sym, ◌∙◌}
use mathlib.Core.List.{List}
use Prim.Native.Nat.{ℕ, ◌-◌, ◌<◌}
use native.Mathlib.Decide.{ℕ_discrete}
use native.Mathlib.Omega.{arith}
use borrow.Author.Tests.{eq-eqb, ne_eqb}
use lib.ListN.{get_or, take, drop}
use Rattle.theory_lists.specs.Lists.{count_from}
use Rattle.theory_orthtree.specs.Entries.{empty_mark, span}
use Rattle.spec_plane.specs.declared.Point.{Point}
use Rattle.spec_squares.specs.Square.{arity, depth, z_order}
use Rattle.spec_squares.proofs.ZOrderLaws.{z_order-bound}
use Rattle.spec_charts.specs.Reading.{cell_of, listing}
use Rattle.spec_calls.specs.Buffers.{zip_entries}
use Rattle.read_cells.specs.Keys.{Listable, LastCell}
use Rattle.read_cells.specs.Place.{listed_places, cell_items, cell_places, CellListed, CellPart}
use Rattle.read_cells.proofs.ListingLaws.{ChainLists, listable, items-listed, none-listed, items-places, none-places}

-- Z(p) is a key of the tree
z_order-low : (p : Point) → z_order p < span arity depth 0
unfolding span
z_order-low p = z_order-bound p

four : 0 < arity
four = omega arith

-- the keys and items of a chain can be searched
pub chain-listable : {count : ℕ} {ks ls is : List ℕ} {n : ℕ} → ChainLists arity depth count ks ls is n → Listable ks is n
chain-listable r = listable four r

module _ {count : ℕ} {ks ls is : List ℕ} {n : ℕ} (r : ChainLists arity depth count ks ls is n) (p : Point) {from to : ℕ} (c : LastCell ks n (z_order p) from to) where
  -- the cell's items
  point-items : cell_items is from to ≡ listing (take n (zip_entries ks ls is)) p
  unfolding cell_items listing cell_of
  point-items = elim (ℕ_discrete (get_or is from 0) empty_mark) [
    | yes m ↦ rw (eq-eqb (get_or is from 0) empty_mark m) (none-listed four r c.ends (z_order-low p) c.starts m)
    | no m ↦ rw (ne_eqb (get_or is from 0) empty_mark m) (items-listed four r c.ends (z_order-low p) c.starts m)
  ]

  -- and where they are
  point-places : cell_places is from to ≡ listed_places (take n (zip_entries ks ls is)) p
  unfolding cell_places listed_places count_from
  point-places = elim (ℕ_discrete (get_or is from 0) empty_mark) [
    | yes m ↦ rw (eq-eqb (get_or is from 0) empty_mark m) (sym (none-places four r c.ends (z_order-low p) c.starts m))
    | no m ↦ rw (ne_eqb (get_or is from 0) empty_mark m) (sym (items-places four r c.ends (z_order-low p) c.starts m))
  ]

module _ {count : ℕ} {ks ls is : List ℕ} {n : ℕ} (r : ChainLists arity depth count ks ls is n) (p : Point) where
  -- what is handed back is the cell's listing
  pub part-listed : {part : List ℕ} → CellListed ks n (z_order p) is part → part ≡ listing (take n (zip_entries ks ls is)) p
  part-listed c = c.listed ∙ point-items r p c.cell

  module _ {start stop : ℕ} (c : CellPart ks n (z_order p) is start stop) where
    -- so are the items from the one place up to the other
    pub part-taken : take (stop - start) (drop start is) ≡ listing (take n (zip_entries ks ls is)) p
    part-taken = c.listed ∙ point-items r p c.cell

    -- and these are the places of the cell's own entries
    pub part-places : count_from start (stop - start) ≡ listed_places (take n (zip_entries ks ls is)) p
    part-places = c.places ∙ point-places r p c.cell
