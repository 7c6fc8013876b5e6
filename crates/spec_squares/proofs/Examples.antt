-- Examples of the definitions, none symmetric in x and y.
-- Assumes nothing.
use mathlib.Core.Path.{◌≡◌, refl}
use mathlib.Core.List.{List, [], ◌∷◌, map, flat_map}
use Prim.Native.Nat.{ℕ}
use lib.ListN.{length}
use native.Mathlib.Omega.{arith}
use Rattle.theory_orthtree.specs.Morton.{lowest_bits, morton_key, key_coordinate}
use Rattle.spec_squares.specs.declared.Square.{Square}
use Rattle.spec_squares.specs.Square.{depth, arity, side_at, whole_square, top_left, top_right, bottom_left, bottom_right, quarters, z_order, square_key, square_of_key, square_box, Aligned}

abbrev square : ℕ → ℕ → ℕ → Square
square x y level = record { x = x; y = y; level = level }

abbrev numbers_of : Square → List ℕ
numbers_of s = s.x ∷ s.y ∷ s.level ∷ []

-- Z(5,3), Z(3,5), Z(40000,9), Z(65535,0); a coordinate has 16 bits
z_order-example : map (λ p. z_order p) (record { x = 5; y = 3 } ∷ record { x = 3; y = 5 } ∷ record { x = 40000; y = 9 } ∷ record { x = 65535; y = 0 } ∷ record { x = 65536; y = 3 } ∷ [])
    ≡ 27 ∷ 39 ∷ 1095766146 ∷ 1431655765 ∷ 10 ∷ []
unfolding z_order morton_key lowest_bits
z_order-example = refl

-- the quarters of the square of level 3 at (8192, 40960), whose side is 8192
quarters-example : flat_map (λ s. numbers_of s) (quarters (square 8192 40960 3))
    ≡ 8192 ∷ 40960 ∷ 4 ∷ 12288 ∷ 40960 ∷ 4 ∷ 8192 ∷ 45056 ∷ 4 ∷ 12288 ∷ 45056 ∷ 4 ∷ []
unfolding quarters top_left top_right bottom_left bottom_right side_at flat_map
quarters-example = refl

-- as many quarters as the arity, and the side of the deepest level is 1
tree-example : length (quarters whole_square) ∷ side_at 0 ∷ side_at 15 ∷ side_at depth ∷ [] ≡ arity ∷ 65536 ∷ 2 ∷ 1 ∷ []
unfolding quarters side_at
tree-example = refl

-- keys of the quarters go on where the one before ends: 4^12 keys each
keys-example : map (λ s. square_key s) (quarters (square 8192 40960 3)) ≡ 2348810240 ∷ 2365587456 ∷ 2382364672 ∷ 2399141888 ∷ []
unfolding square_key z_order morton_key lowest_bits quarters top_left top_right bottom_left bottom_right side_at
keys-example = refl

-- the squares of these keys and of the first and the last, whatever the level
square_of_key-example :
    flat_map (λ s. numbers_of s)
    (square_of_key 2348810240 4 ∷ square_of_key 2365587456 4 ∷ square_of_key 2382364672 4 ∷ square_of_key 2399141888 3 ∷ square_of_key 0 0 ∷ square_of_key 4294967295 16 ∷ square_of_key 1431655765 16 ∷ [])
    ≡ 8192 ∷ 40960 ∷ 4 ∷ 12288 ∷ 40960 ∷ 4 ∷ 8192 ∷ 45056 ∷ 4 ∷ 12288 ∷ 45056 ∷ 3 ∷ 0 ∷ 0 ∷ 0 ∷ 65535 ∷ 65535 ∷ 16 ∷ 65535 ∷ 0 ∷ 16 ∷ []
unfolding square_of_key key_coordinate flat_map
square_of_key-example = refl

-- the whole square with its border reaches 65,536
whole-example : square_box whole_square ∷ square_box (square 8192 40960 3) ∷ []
    ≡ record { left = 0; top = 0; right = 65536; bottom = 65536 } ∷ record { left = 8192; top = 40960; right = 16384; bottom = 49152 } ∷ []
unfolding square_box whole_square side_at
whole-example = refl

-- squares of the tree, at the right end of the grid and at the bottom
aligned-example : Aligned (square 65535 3 16)
unfolding side_at
aligned-example = record { deep = omega arith; across = refl; down = refl; right = omega arith; bottom = omega arith }

aligned-bottom-example : Aligned (square 8192 57344 3)
unfolding side_at
aligned-bottom-example = record { deep = omega arith; across = refl; down = refl; right = omega arith; bottom = omega arith }
