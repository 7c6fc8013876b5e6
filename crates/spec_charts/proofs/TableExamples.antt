-- Examples of Table.antt: from numbers to points, triangles and tables, and back.
-- Assumes nothing.
use mathlib.Core.Path.{◌≡◌, refl}
use mathlib.Core.Bool.{true, false}
use mathlib.Core.List.{List, [], ◌∷◌, map}
use Prim.Native.Nat.{ℕ}
use lib.Dec.{le→leb, leb→le}
use lib.ListN.{replicate}
use Rattle.spec_plane.specs.Triangle.{Triangle}
use Rattle.spec_charts.specs.Table.{IsTable, max_triangles, numbers_per_triangle, table_length, sixteen_bit, point_at, triangle_at, table_of, triangle_numbers, table_numbers, no_triangle, numbered, table_sides}
use Rattle.spec_charts.specs.Cells.{max_entries}
use Rattle.spec_charts.specs.Overlay.{max_pairs}
use Rattle.spec_charts.proofs.Evaluate.{evaluate}
use Rattle.spec_charts.proofs.Written.{at}

-- 512 triangles, 6 numbers each, 3,072 numbers, 16,384 entries, 4,096 pairs
limits-example : max_triangles ∷ numbers_per_triangle ∷ table_length ∷ max_entries ∷ max_pairs ∷ [] ≡ 512 ∷ 6 ∷ 3072 ∷ 16384 ∷ 4096 ∷ []
limits-example = refl

-- 65,535 is a 16-bit number and 65,536 is not, in first and in last place; of no numbers all are
sixteen-bit-example :
    map (λ ns. sixteen_bit ns) ((65535 ∷ 0 ∷ 65535 ∷ []) ∷ (65536 ∷ 0 ∷ 0 ∷ []) ∷ (0 ∷ 0 ∷ 65536 ∷ []) ∷ [] ∷ [])
    ≡ true ∷ false ∷ false ∷ true ∷ []
unfolding evaluate
sixteen-bit-example = refl

-- thirteen numbers: two triangles and one number more
abbrev thirteen : List ℕ
thirteen = 11 ∷ 12 ∷ 13 ∷ 14 ∷ 15 ∷ 16 ∷ 17 ∷ 18 ∷ 19 ∷ 20 ∷ 21 ∷ 22 ∷ 23 ∷ []

abbrev one : Triangle
one = record { a = at 11 12; b = at 13 14; c = at 15 16 }

abbrev two : Triangle
two = record { a = at 17 18; b = at 19 20; c = at 21 22 }

-- x before y; past the end each coordinate is 0
point-example : map (λ k. point_at thirteen k) (0 ∷ 3 ∷ 12 ∷ 13 ∷ []) ≡ at 11 12 ∷ at 14 15 ∷ at 23 0 ∷ at 0 0 ∷ []
unfolding evaluate
point-example = refl

triangle-example : map (λ i. triangle_at thirteen i) (0 ∷ 1 ∷ 2 ∷ [])
    ≡ one ∷ two ∷ record { a = at 23 0; b = at 0 0; c = at 0 0 } ∷ []
unfolding evaluate
triangle-example = refl

-- as many triangles as asked, in order
table-example : map (λ n. table_of thirteen n) (0 ∷ 1 ∷ 2 ∷ []) ≡ [] ∷ (one ∷ []) ∷ (one ∷ two ∷ []) ∷ []
unfolding evaluate
table-example = refl

numbers-example : triangle_numbers two ∷ table_numbers (two ∷ one ∷ []) ∷ table_numbers [] ∷ []
    ≡ (17 ∷ 18 ∷ 19 ∷ 20 ∷ 21 ∷ 22 ∷ [])
    ∷ (17 ∷ 18 ∷ 19 ∷ 20 ∷ 21 ∷ 22 ∷ 11 ∷ 12 ∷ 13 ∷ 14 ∷ 15 ∷ 16 ∷ [])
    ∷ []
    ∷ []
unfolding evaluate
numbers-example = refl

-- a number past the end has the triangle of six zeros
numbered-example : map (λ i. numbered (one ∷ two ∷ []) i) (0 ∷ 1 ∷ 2 ∷ [])
    ≡ one ∷ two ∷ record { a = at 0 0; b = at 0 0; c = at 0 0 } ∷ []
unfolding evaluate
numbered-example = refl

none-example : no_triangle ≡ record { a = at 0 0; b = at 0 0; c = at 0 0 }
unfolding evaluate
none-example = refl

-- ab, bc, ca of each triangle
sides-example : table_sides (two ∷ one ∷ [])
    ≡ record { start = at 17 18; end = at 19 20 }
    ∷ record { start = at 19 20; end = at 21 22 }
    ∷ record { start = at 21 22; end = at 17 18 }
    ∷ record { start = at 11 12; end = at 13 14 }
    ∷ record { start = at 13 14; end = at 15 16 }
    ∷ record { start = at 15 16; end = at 11 12 }
    ∷ []
unfolding evaluate
sides-example = refl

-- What a table of document 01 is

-- a triangle with D > 0, one with D < 0, and one with a number that is no 16-bit number
abbrev good : Triangle
good = record { a = at 0 0; b = at 65535 1; c = at 2 3 }

abbrev turned : Triangle
turned = record { a = at 65535 1; b = at 0 0; c = at 2 3 }

abbrev wide : Triangle
wide = record { a = at 0 0; b = at 65536 1; c = at 2 3 }

-- none and 512 triangles are a table
empty-table : IsTable []
unfolding evaluate
empty-table = record { few = leb→le 0 512 tt; oriented = tt; words = tt }

full-table : IsTable (replicate 512 good)
unfolding evaluate
full-table = record { few = leb→le 512 512 tt; oriented = tt; words = tt }

-- 513 are not, nor is a table with one turned triangle, nor one with 65,536
too_many : IsTable (replicate 513 good) → ⊥
unfolding evaluate
too_many h = le→leb 513 512 h.few

one-turned : IsTable (good ∷ turned ∷ []) → ⊥
unfolding evaluate
one-turned h = h.oriented

one-wide : IsTable (wide ∷ good ∷ []) → ⊥
unfolding evaluate
one-wide h = h.words
