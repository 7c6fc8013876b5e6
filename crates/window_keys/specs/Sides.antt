-- A window's sides as keys of one coordinate, and cells that lie beyond one of them by the bits of their keys.
-- Assumes nothing.
use Rattle.std.specs.Prelude.{Bool, ◌||◌, ℕ, ◌-◌, ltb}
use Rattle.std.specs.Int.Bits.{bit_and, bit_or}
use Rattle.theory_orthtree.specs.Entries.{span}
use Rattle.spec_plane.specs.Box.{Box}
use Rattle.spec_squares.specs.Square.{arity, depth, z_order}
use Rattle.window_keys.specs.declared.KeySides.{KeySides}

-- the key of x alone, and of y alone
abbrev pub across_key : ℕ → ℕ
across_key x = z_order (record { x = x; y = 0 })

abbrev pub down_key : ℕ → ℕ
down_key y = z_order (record { x = 0; y = y })

-- the sides of a window: right and bottom, and what is one less than left and top, or 0
abbrev pub sides_of : Box → KeySides
sides_of w = record { left = across_key (w.left - 1); top = down_key (w.top - 1); right = across_key w.right; bottom = down_key w.bottom }

-- the bits of x in a key, and those of y
abbrev pub across_bits : ℕ → ℕ
across_bits k = bit_and k 1431655765

abbrev pub down_bits : ℕ → ℕ
down_bits k = bit_and k 2863311530

-- the last key of a cell whose key is aligned
abbrev pub last_key : ℕ → ℕ → ℕ
last_key key level = bit_or key (span arity depth level - 1)

-- a cell lies beyond a side
unfoldable pub beyond : KeySides → ℕ → ℕ → Bool
beyond s key level =
    ltb (across_bits (last_key key level)) s.left
    || ltb s.right (across_bits key)
    || ltb (down_bits (last_key key level)) s.top
    || ltb s.bottom (down_bits key)
