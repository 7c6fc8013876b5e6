-- Document 01, "Grid, points, triangles": tables of triangles, and the numbers that stand for them.
-- Assumes nothing.
use Rattle.std.specs.Prelude.{◌≡◌, Bool, true, ℕ, ◌+◌, ◌*◌, ◌≤◌, T, ltb, length, get_or}
use mathlib.Core.List.{List, [], ◌∷◌, map, flat_map}
use Rattle.theory_lists.specs.Lists.{all, up_to}
use Rattle.spec_plane.specs.declared.Point.{Point}
use Rattle.spec_plane.specs.Triangle.{Triangle, Side, sides, proper}

-- "A table is 0 to 512 triangles, numbered from 0"
abbrev pub Table : Type 0
Table = List Triangle

-- the most triangles of a table
abbrev pub max_triangles : ℕ
max_triangles = 512

-- "each six 16-bit numbers ax, ay, bx, by, cx, cy"
abbrev pub numbers_per_triangle : ℕ
numbers_per_triangle = 6

-- the numbers of a full table
abbrev pub table_length : ℕ
table_length = 3072

-- "16-bit numbers": each number of the list is below 2^16. Code says it by its types; of lists of naturals it is said here
unfoldable pub sixteen_bit : List ℕ → Bool
sixteen_bit ns = all (λ n. ltb n 65536) ns

-- the point at places k and k + 1 of a list of numbers
unfoldable pub point_at : List ℕ → ℕ → Point
point_at ns k = record { x = get_or ns k 0; y = get_or ns (k + 1) 0 }

-- triangle i of a list of numbers
unfoldable pub triangle_at : List ℕ → ℕ → Triangle
triangle_at ns i = record {
  a = point_at ns (numbers_per_triangle * i);
  b = point_at ns (numbers_per_triangle * i + 2);
  c = point_at ns (numbers_per_triangle * i + 4);
}

-- the table of the first n triangles of a list of numbers
unfoldable pub table_of : List ℕ → ℕ → Table
table_of ns n = map (λ i. triangle_at ns i) (up_to n)

-- the six numbers of a triangle
unfoldable pub triangle_numbers : Triangle → List ℕ
triangle_numbers t = t.a.x ∷ t.a.y ∷ t.b.x ∷ t.b.y ∷ t.c.x ∷ t.c.y ∷ []

-- the numbers of a table, six for each triangle
unfoldable pub table_numbers : Table → List ℕ
table_numbers table = flat_map (λ t. triangle_numbers t) table

-- a table of document 01: "0 to 512 triangles", each with "D(a,b,c) > 0" and of "16-bit numbers"
pub record IsTable (table : Table) : Type 0 where
  pub few : length table ≤ max_triangles
  pub oriented : T (all (λ t. proper t) table)
  pub words : T (sixteen_bit (table_numbers table))

-- a table of code: the first n triangles of a list of numbers, at most 512, all of them there, each with D > 0
pub record Drawn (ns : List ℕ) (n : ℕ) : Type 0 where
  pub few : n ≤ max_triangles
  pub room : numbers_per_triangle * n ≤ length ns
  pub oriented : all (λ t. proper t) (table_of ns n) ≡ true

-- a triangle that no table number has: what a look-up past the end gives
unfoldable pub no_triangle : Triangle
no_triangle =
    record { a = record { x = 0; y = 0 }; b = record { x = 0; y = 0 }; c = record { x = 0; y = 0 } }

-- the triangle with number i
unfoldable pub numbered : Table → ℕ → Triangle
numbered table i = get_or table i no_triangle

-- the sides of a table. "Sides with the same two end points are one side": a side that repeats changes no definition
unfoldable pub table_sides : Table → List Side
table_sides table = flat_map (λ t. sides t) table
