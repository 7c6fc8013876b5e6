-- Examples of Reading.antt: entries that list more than they should, so that each test decides alone.
-- Assumes nothing.
use mathlib.Core.Path.{◌≡◌, refl}
use mathlib.Core.Bool.{true, false}
use mathlib.Core.List.{List, [], ◌∷◌, ◌++◌, map}
use mathlib.Core.Option.{none, some}
use Rattle.theory_orthtree.specs.Entries.{Entry, entry}
use Rattle.spec_plane.specs.declared.Position.TheVariants.{Inside, OnBc, AtA, Outside}
use Rattle.spec_charts.specs.Table.{Table}
use Rattle.spec_charts.specs.Reading.{cell_of, listing, located, found_position, sound, total_area}
use Rattle.spec_charts.proofs.Evaluate.{evaluate}
use Rattle.spec_charts.proofs.Written.{at}
use Rattle.spec_charts.proofs.EditExamples.{pa, pb, pc, pd, pp, tri}

-- four quarters: two triangles, one, the mark, and three
abbrev es : List Entry
es =
    entry 0 1 1
    ∷ entry 0 1 2
    ∷ entry 1073741824 1 5
    ∷ entry 2147483648 1 65535
    ∷ entry 3221225472 1 0
    ∷ entry 3221225472 1 4
    ∷ entry 3221225472 1 6
    ∷ []

-- the last point of the first quarter, the first of the second, third and last
cell_of-example : map (λ p. cell_of es p) (at 32767 32767 ∷ at 32768 0 ∷ at 0 32768 ∷ at 65535 65535 ∷ [])
    ≡ (entry 0 1 1 ∷ entry 0 1 2 ∷ [])
    ∷ (entry 1073741824 1 5 ∷ [])
    ∷ (entry 2147483648 1 65535 ∷ [])
    ∷ (entry 3221225472 1 0 ∷ entry 3221225472 1 4 ∷ entry 3221225472 1 6 ∷ [])
    ∷ []
unfolding evaluate
cell_of-example = refl

-- the mark is no triangle
listing-cells-example : map (λ p. listing es p) (at 32767 32767 ∷ at 32768 0 ∷ at 0 32768 ∷ at 32768 32768 ∷ [])
    ≡ (1 ∷ 2 ∷ []) ∷ (5 ∷ []) ∷ [] ∷ (0 ∷ 4 ∷ 6 ∷ []) ∷ []
unfolding evaluate
listing-cells-example = refl

-- the point is strictly inside 0, at a corner of 1, strictly inside 2, outside 3
abbrev table : Table
table = tri pa pb pc ∷ tri pp pc pa ∷ tri pa pb pc ∷ tri pb pa pd ∷ []

-- the lowest of those listed that holds the point: 0 is not listed, 1 holds it by its border; 3 alone does not hold it
located-listed-example :
    located table (entry 0 0 1 ∷ entry 0 0 2 ∷ entry 0 0 3 ∷ []) pp
    ∷ located table (entry 0 0 2 ∷ entry 0 0 3 ∷ []) pp
    ∷ located table (entry 0 0 3 ∷ []) pp
    ∷ located table (entry 0 0 65535 ∷ []) pp
    ∷ located table (entry 0 1 3 ∷ entry 1073741824 1 0 ∷ []) pp
    ∷ located table (entry 0 0 0 ∷ entry 0 0 1 ∷ []) pp
    ∷ []
    ≡ some 1 ∷ some 2 ∷ none ∷ none ∷ none ∷ some 0 ∷ []
unfolding evaluate
located-listed-example = refl

-- by the triangle found, not by another that holds the point: outside when nowhere, inside 0, at corner a of 1, outside 3, on side bc
-- of 4
found-position-example :
    map (λ o. found_position (table ++ (tri (at 10 40) (at 20 23) (at 40 43) ∷ [])) pp o) (none ∷ some 0 ∷ some 1 ∷ some 3 ∷ some 4 ∷ [])
    ≡ Outside ∷ Inside ∷ AtA ∷ Outside ∷ OnBc ∷ []
unfolding evaluate
found-position-example = refl

-- no triangle, one, two that share a side, the same twice, and two of three that have a common interior point, first and last
sound-pairs-example :
    map (λ t. sound t)
    ([]
    ∷ (tri pa pb pc ∷ [])
    ∷ (tri pa pb pc ∷ tri pb pa pd ∷ [])
    ∷ (tri pa pb pc ∷ tri pa pb pc ∷ [])
    ∷ (tri pa pb pc ∷ tri pb pa pd ∷ tri pa pb pp ∷ [])
    ∷ (tri pb pa pd ∷ tri pa pb pc ∷ tri pa pb pp ∷ [])
    ∷ (tri pa pb pc ∷ tri pa pb pp ∷ tri pb pa pd ∷ [])
    ∷ (tri pa pb pp ∷ tri pb pa pd ∷ tri pb pc pp ∷ tri pc pa pp ∷ [])
    ∷ [])
    ≡ true ∷ true ∷ true ∷ false ∷ false ∷ false ∷ false ∷ true ∷ []
unfolding evaluate
sound-pairs-example = refl

-- apart by a side of one alone: no side of the other separates the two, in either order
sound-one-side-example : sound (tri (at 110 110) (at 300 120) (at 120 300) ∷ tri (at 0 0) (at 200 0) (at 0 200) ∷ []) ≡ true
unfolding evaluate
sound-one-side-example = refl

-- D of each triangle, added
total_area-example : map (λ t. total_area t) ([] ∷ (tri pa pb pc ∷ []) ∷ (tri pb pa pd ∷ []) ∷ (tri pa pb pc ∷ tri pb pa pd ∷ []) ∷ []) ≡ 0 ∷ 2189 ∷ 554 ∷ 2743 ∷ []
unfolding evaluate
total_area-example = refl
