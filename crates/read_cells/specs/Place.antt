-- The items of a cell, by its keys alone, and where the part that cell listing hands back lies: at the places of the cell's own
-- entries, in the caller's list itself.
-- Assumes nothing.
use Rattle.std.specs.Prelude.{◌≡◌, cond, not, ◌&&◌, List, [], ℕ, ◌+◌, ◌*◌, ◌-◌, ◌≤◌, eqb, length, get_or, take, drop}
use Rattle.std.specs.Borrow.{Bor}
use Rattle.theory_lists.specs.Lists.{places_from, count_from}
use Rattle.theory_orthtree.specs.Entries.{Entry, empty_mark, is_mark, covers}
use Rattle.spec_plane.specs.declared.Point.{Point}
use Rattle.spec_squares.specs.Square.{arity, depth, z_order}
use Rattle.read_cells.specs.Keys.{LastCell}

-- the places of the entries that a cell listing of p lists: those of the cell whose key range has Z(p), without the mark
unfoldable pub listed_places : List Entry → Point → List ℕ
listed_places es p = places_from (λ e. covers arity depth (z_order p) e && not (is_mark e)) 0 es

-- "a part of the caller's own list": the part's elements are those of the list at these places, where they lie in memory. What
-- points to a list is the piece of memory and the byte of it where its first element lies, and a 16-bit number takes 2 bytes
pub record OwnPart (list part : Bor (List ℕ)) (places : List ℕ) : Type 0 where
  pub from : ℕ
  pub memory : part.ref_ptr.0 ≡ list.ref_ptr.0
  pub byte : part.ref_ptr.1 ≡ list.ref_ptr.1 + from * 2
  pub within : from + length part.now ≤ length list.now
  pub numbers : places ≡ count_from from (length part.now)

-- the items of a cell whose entries are those from place from up to place to: none where the first is the mark
unfoldable pub cell_items : List ℕ → ℕ → ℕ → List ℕ
cell_items items from to = cond (eqb (get_or items from 0) empty_mark) [] (take (to - from) (drop from items))

-- and their places
unfoldable pub cell_places : List ℕ → ℕ → ℕ → List ℕ
cell_places items from to = cond (eqb (get_or items from 0) empty_mark) [] (count_from from (to - from))

-- of the first n entries, the items from place start up to place stop are those of the last cell at or below the key k; 0 and 0 where
-- there are none
pub record CellPart (keys : List ℕ) (n k : ℕ) (items : List ℕ) (start stop : ℕ) : Type 0 where
  pub from : ℕ
  pub to : ℕ
  pub cell : LastCell keys n k from to
  pub ordered : start ≤ stop
  pub within : stop ≤ length items
  pub listed : take (stop - start) (drop start items) ≡ cell_items items from to
  pub places : count_from start (stop - start) ≡ cell_places items from to
  pub nothing : start ≡ stop → start ≡ 0

-- of the first n entries, these are the items of the last cell at or below the key k
pub record CellListed (keys : List ℕ) (n k : ℕ) (items part : List ℕ) : Type 0 where
  pub from : ℕ
  pub to : ℕ
  pub cell : LastCell keys n k from to
  pub listed : part ≡ cell_items items from to
