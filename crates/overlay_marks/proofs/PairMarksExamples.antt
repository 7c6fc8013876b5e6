-- Examples of the definitions.
-- Assumes nothing.
use mathlib.Core.Path.{◌≡◌, refl}
use mathlib.Core.Bool.{true, false}
use mathlib.Core.List.{[], ◌∷◌, map}
use Prim.Native.Nat.{◌*◌}
use Rattle.theory_lists.specs.Lists.{any, part}
use Rattle.overlay_marks.specs.PairMarks.{rows_length, place_of, some_at}

-- 512 rows of 8 words and one for the mark
rows-example : rows_length ≡ 8 * 513
rows-example = refl

-- triangles keep their numbers, and the mark takes the place after the last
place-example : map place_of (0 ∷ 7 ∷ 511 ∷ 65535 ∷ []) ≡ 0 ∷ 7 ∷ 511 ∷ 512 ∷ []
place-example = refl

-- of five items those at places 1 and 2, one of them the mark
some-example : map (some_at (part 1 3 (7 ∷ 4 ∷ 65535 ∷ 9 ∷ 3 ∷ []))) (7 ∷ 4 ∷ 512 ∷ 9 ∷ 3 ∷ 0 ∷ []) ≡ false ∷ true ∷ true ∷ false ∷ false ∷ false ∷ []
unfolding some_at any
some-example = refl

-- a part of no place has none
empty-example : some_at (part 1 1 (7 ∷ 4 ∷ [])) 4 ≡ false
unfolding some_at any
empty-example = refl
