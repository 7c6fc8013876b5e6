-- Examples of the definitions.
-- Assumes nothing.
use mathlib.Core.Path.{◌≡◌, refl}
use mathlib.Core.Bool.{true, false}
use mathlib.Core.List.{[], ◌∷◌, map}
use Rattle.overlay_marks.specs.Bits.{word_bit, has_bit}

-- the bits of 6: the second and the third
word-example : map (word_bit 6) (0 ∷ 1 ∷ 2 ∷ 3 ∷ []) ≡ false ∷ true ∷ true ∷ false ∷ []
unfolding word_bit
word-example = refl

-- bits at the ends of two words, and none past the last word
bits-example : map (has_bit (9223372036854775809 ∷ 2 ∷ [])) (0 ∷ 1 ∷ 62 ∷ 63 ∷ 64 ∷ 65 ∷ 66 ∷ 127 ∷ 128 ∷ 129 ∷ [])
    ≡ true ∷ false ∷ false ∷ true ∷ false ∷ true ∷ false ∷ false ∷ false ∷ false ∷ []
unfolding has_bit word_bit
bits-example = refl
