-- Morton keys: the bits of a point's coordinates interleaved (document 01, "Squares and Z-order": Z).
-- Over any number d of coordinates; two give arity 4, three give arity 8. The inverse gives the coordinates of a key.
-- Assumes nothing.
use Rattle.std.specs.Prelude.{List, [], ◌∷◌, map, ℕ, zero, suc, ◌+◌, ◌*◌, ◌/◌, ◌%◌, ◌^◌, length}

-- the lowest bits of the coordinates as one digit: that of coordinate j at place j, coordinates counted from 0
unfoldable pub lowest_bits : List ℕ → ℕ
lowest_bits [] = 0
lowest_bits (c ∷ cs) = c % 2 + 2 * lowest_bits cs

-- bit k of coordinate j at place d × k + j, for the given number of bits of each of d coordinates
unfoldable pub morton_key : ℕ → List ℕ → ℕ
morton_key zero cs = 0
morton_key (suc bits) cs = lowest_bits cs + 2 ^ length cs * morton_key bits (map (λ c. c / 2) cs)

-- the inverse: coordinate j of a key of d coordinates, for the given number of bits of each; its bit k is the key's bit d × k + j
unfoldable pub key_coordinate : ℕ → ℕ → ℕ → ℕ → ℕ
key_coordinate d j zero key = 0
key_coordinate d j (suc bits) key = key / 2 ^ j % 2 + 2 * key_coordinate d j bits (key / 2 ^ d)
