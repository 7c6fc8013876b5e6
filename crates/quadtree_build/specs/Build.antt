-- Building a square: the triangles that it starts from, what it asks, and what it leaves.
-- Assumes nothing.
use Rattle.std.specs.Prelude.{◌≡◌, List, map, ℕ, ◌+◌, ◌*◌, ◌-◌, ◌≤◌, ◌<◌, length, take}
use Rattle.std.specs.Prelude.{Option, Some, None}
use Rattle.std.proofs.lemmas.List.Edits.{sets}
use Rattle.theory_lists.specs.Lists.{filter, part}
use Rattle.theory_orthtree.specs.Entries.{Entry}
use Rattle.spec_plane.specs.Box.{triangle_meets}
use Rattle.spec_squares.specs.declared.Square.{Square}
use Rattle.spec_squares.specs.Square.{depth, square_box}
use Rattle.spec_charts.specs.Table.{table_of, numbered}
use Rattle.spec_charts.specs.Cells.{triangles_meeting}
use Rattle.base_entries.specs.Packed.{packed}
use Rattle.quadtree_shapes.specs.Shape.{coordinates}
use Rattle.quadtree_prepare.specs.Prepare.{ShapeRoom}
use Rattle.quadtree_cells.specs.declared.quarters.KeyedSquare.{KeyedSquare}
use Rattle.quadtree_cells.specs.Stack.{Ready, Prepared}
use Rattle.quadtree_cells.specs.Quarters.{Keyed}
use Rattle.quadtree_stopping.specs.Stopping.{triangle_total}

-- the lists of candidates that the stack may hold: that of the whole table, and one for each level from 0 to the deepest
abbrev pub stack_levels : ℕ
stack_levels = depth + 2

-- of these, the lists of a square of this level and of those below it
abbrev pub levels_from : ℕ → ℕ
levels_from level = depth + 1 - level

-- the triangles that meet the square are among the candidates from f up to t
pub record Candidates (n f t : ℕ) (table stack : List ℕ) (s : Square) : Type 0 where
  pub few : t - f ≤ n
  pub among : filter (λ i. triangle_meets (numbered (table_of table n) i) (square_box s)) (part f t stack) ≡ triangles_meeting (table_of table n) s

-- what building a square asks: its candidates, those from f up to t, and room on the stack for the lists of its levels
pub record Buildable (f t : ℕ) (corners shape offsets stack : List ℕ) (s : KeyedSquare) : Type 0 where
  pub ready : Ready (triangle_total corners) f t (coordinates corners) shape offsets stack
  pub prepared : Prepared (triangle_total corners) (coordinates corners) shape offsets
  pub candidates : Candidates (triangle_total corners) f t (coordinates corners) stack s.square
  pub keyed : Keyed s
  pub room : t + levels_from s.square.level * triangle_total corners ≤ length stack

-- room for all that building a table of n triangles works out: the numbers of its triangles, and the stack
pub record BuildRoom (n : ℕ) (shape offsets corners stack : List ℕ) : Type 0 where
  pub numbers : ShapeRoom n shape offsets corners
  pub levels : stack_levels * n ≤ length stack

-- what building a square leaves: its entries, and the place after them, where they fit below place `most`, or none; the stack is
-- kept up to t
pub record Built (es : List Entry) (most at : ℕ) (r : Option ℕ) (t : ℕ) (out out' stack stack' : List ℕ) : Type 0 where
  pub fits : at + length es ≤ most → (r ≡ Some (at + length es)) × (out' ≡ sets out at (map (λ e. packed e) es))
  pub over : most < at + length es → r ≡ None
  pub kept : take t stack' ≡ take t stack
  pub outs : length out' ≡ length out
  pub stacks : length stack' ≡ length stack
