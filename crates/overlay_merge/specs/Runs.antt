-- Where the blocks and runs of two lists of entries end, by their keys.
-- Assumes nothing.
use Rattle.std.specs.Prelude.{◌≡◌, List, ℕ, ◌+◌, ◌-◌, ◌≤◌, max, take, drop}
use Rattle.theory_orthtree.specs.KeyCells.{CellEnd, RunEnd, key_cells, key_from}

-- the key at which the larger of the cells at places a and b ends, where the tree's keys end at tree_end
pub record BlockEnd (tree_end : ℕ) (ks : List ℕ) (n a : ℕ) (ls : List ℕ) (m b e : ℕ) : Type 0 where
  pub p : ℕ
  pub q : ℕ
  pub first : CellEnd ks n a p
  pub second : CellEnd ls m b q
  pub end : e ≡ max (key_from ks n tree_end p) (key_from ls m tree_end q)

-- the run that goes on at place p, where its first cell ends, up to the key e, and its cells, the first among them
pub record RunOf (ks : List ℕ) (n p e r cells : ℕ) : Type 0 where
  pub ends : RunEnd ks n p e r
  pub few : cells + p ≤ r + 1
  pub count : (a : ℕ) → CellEnd ks n a p → cells ≡ key_cells (take (r - a) (drop a ks))
