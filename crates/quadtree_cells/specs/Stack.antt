-- The stack of candidates: the numbers of triangles that may meet a square, and what code asks of them.
-- Assumes nothing.
use Rattle.std.specs.Prelude.{◌≡◌, Bool, List, ℕ, ◌+◌, ◌*◌, ◌-◌, ◌≤◌, ◌<◌, T, length, get_or}
use Rattle.std.proofs.lemmas.List.Edits.{sets}
use Rattle.theory_lists.specs.Lists.{all, filter, only, part}
use Rattle.spec_plane.specs.Triangle.{proper}
use Rattle.spec_plane.specs.Box.{Box, Framed}
use Rattle.spec_charts.specs.Table.{numbers_per_triangle, table_of}
use Rattle.quadtree_shapes.specs.Shape.{triangle_sides, shape_numbers, Shaped}

-- a list of c numbers for each triangle has those of the candidates from f up to t of the stack
abbrev pub Rows : ℕ → ℕ → ℕ → List ℕ → List ℕ → Type 0
Rows c f t list stack = (k : ℕ) → f ≤ k → k < t → c * get_or stack k 0 + c ≤ length list

-- the candidates from f up to t of the stack have their numbers in the two lists
pub record Fits (f t : ℕ) (shape offsets stack : List ℕ) : Type 0 where
  pub order : f ≤ t
  pub within : t ≤ length stack
  pub shapes : Rows shape_numbers f t shape stack
  pub offs : Rows triangle_sides f t offsets stack

-- what narrowing asks: room for all candidates on top of the stack, and a box of the grid
pub record Narrowable (f t : ℕ) (shape offsets stack : List ℕ) (b : Box) : Type 0 where
  pub fits : Fits f t shape offsets stack
  pub room : t + (t - f) ≤ length stack
  pub framed : Framed b

-- a number is pushed on a stack that ends at top, where the test passes
pub record Pushed (b : Bool) (i : ℕ) (stack stack' : List ℕ) (top top' : ℕ) : Type 0 where
  pub stored : stack' ≡ sets stack top (only b i)
  pub end : top' ≡ top + length (only b i)

-- of the candidates from f up to t, those before place k that pass a test are stored from t on, up to top
pub record Narrowing (m : ℕ → Bool) (stack stack' : List ℕ) (f t k top : ℕ) : Type 0 where
  pub low : f ≤ k
  pub high : k ≤ t
  pub stored : stack' ≡ sets stack t (filter m (part f k stack))
  pub end : top ≡ t + length (filter m (part f k stack))

-- what the functions over a list of candidates on the stack, from f up to t, ask: the numbers are those of triangles, and
-- the lists are long enough
pub record Ready (n f t : ℕ) (table shape offsets stack : List ℕ) : Type 0 where
  pub order : f ≤ t
  pub within : t ≤ length stack
  pub held : (k : ℕ) → f ≤ k → k < t → get_or stack k 0 < n
  pub tables : numbers_per_triangle * n ≤ length table
  pub shapes : shape_numbers * n ≤ length shape
  pub offs : triangle_sides * n ≤ length offsets

-- the first n triangles of the table have D > 0 and grid points for corners, and the two lists keep their numbers
pub record Prepared (n : ℕ) (table shape offsets : List ℕ) : Type 0 where
  pub small : (k : ℕ) → get_or table k 0 < 65536
  pub good : T (all (λ t. proper t) (table_of table n))
  pub shaped : Shaped (table_of table n) shape offsets
