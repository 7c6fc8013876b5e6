-- Examples of the definitions: the pairs of two tables of two triangles each.
-- Assumes nothing.
use mathlib.Core.Path.{◌≡◌, refl}
use mathlib.Core.List.{List, [], ◌∷◌, ◌++◌, flat_map}
use Prim.Native.Nat.{ℕ}
use lib.ListN.{replicate}
use Rattle.theory_lists.specs.Lists.{filter, up_to, count_from}
use Rattle.spec_plane.specs.Point.{orient}
use Rattle.spec_plane.specs.Interior.{some_corner_inner, no_side_separates, interiors_meet}
use Rattle.spec_charts.specs.Table.{point_at, triangle_at}
use Rattle.spec_charts.specs.Overlay.{pair_numbers}
use Rattle.overlay_marks.specs.Bits.{word_bit, has_bit}
use Rattle.overlay_pairs.specs.Pairs.{near_pairs, row_pairs, marked_pairs}

-- a large triangle, and a small one in its corner
abbrev first : List ℕ
first = 0 ∷ 0 ∷ 40 ∷ 0 ∷ 0 ∷ 40 ∷ 0 ∷ 0 ∷ 8 ∷ 0 ∷ 0 ∷ 8 ∷ []

-- one that has ground in common with both, and one with the large one alone
abbrev second : List ℕ
second = 1 ∷ 1 ∷ 9 ∷ 1 ∷ 1 ∷ 9 ∷ 20 ∷ 1 ∷ 28 ∷ 1 ∷ 20 ∷ 9 ∷ []

-- rows of 8 words for two triangles, by their first words
abbrev rows : ℕ → ℕ → List ℕ
rows a b = a ∷ replicate 7 0 ++ (b ∷ [])

-- all four pairs are marked: three have a common interior point, ascending by the first number, then the second
pairs-example : pair_numbers (marked_pairs first 2 second 2 (rows 3 3)) ≡ 0 ∷ 0 ∷ 0 ∷ 1 ∷ 1 ∷ 0 ∷ []
unfolding marked_pairs row_pairs pair_numbers flat_map filter up_to count_from has_bit word_bit triangle_at point_at interiors_meet no_side_separates some_corner_inner orient
pairs-example = refl

-- a pair that is not marked is left out, and so is a triangle beyond the counts
marked-example : pair_numbers (marked_pairs first 2 second 2 (rows 2 1)) ++ pair_numbers (marked_pairs first 1 second 1 (rows 3 3)) ≡ 0 ∷ 1 ∷ 1 ∷ 0 ∷ 0 ∷ 0 ∷ []
unfolding marked_pairs row_pairs pair_numbers flat_map filter up_to count_from has_bit word_bit triangle_at point_at interiors_meet no_side_separates some_corner_inner orient
marked-example = refl

-- of candidates in any order, those with a common interior point, in that order
near-example : pair_numbers (near_pairs first second 0 (1 ∷ 0 ∷ [])) ++ pair_numbers (near_pairs first second 1 (1 ∷ 0 ∷ [])) ≡ 0 ∷ 1 ∷ 0 ∷ 0 ∷ 1 ∷ 0 ∷ []
unfolding near_pairs pair_numbers flat_map filter triangle_at point_at interiors_meet no_side_separates some_corner_inner orient
near-example = refl
