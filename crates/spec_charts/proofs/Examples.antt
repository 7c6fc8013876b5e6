-- Examples of the definitions, none symmetric in x and y: U and V of the marked cases are, and leave much open.
-- Assumes nothing.
use mathlib.Core.Path.{◌≡◌, refl}
use mathlib.Core.Bool.{true, false}
use mathlib.Core.List.{List, [], ◌∷◌, ◌++◌, map}
use Prim.Native.Nat.{ℕ}
use lib.Dec.{eqb}
use lib.ListN.{length, take, replicate}
use Rattle.theory_lists.specs.Lists.{filter}
use Rattle.spec_charts.specs.Table.{Table, table_numbers}
use Rattle.spec_charts.specs.Cells.{entries_of}
use Rattle.spec_charts.specs.Refusals.{outcome_number}
use Rattle.spec_charts.specs.Edits.{given_table, load, insert, take_out, flip, proposed, limited, plain_table}
use Rattle.spec_charts.specs.Overlay.{overlay_of, within_pairs}
use Rattle.spec_charts.specs.Reading.{listing, sound, total_area}
use Rattle.spec_charts.proofs.Evaluate.{evaluate}
use Rattle.spec_charts.proofs.Written.{at, entry_numbers, outcome_numbers, overlay_numbers, located_in, overlaid}

-- Tables that the examples share

-- two triangles with a corner in common
abbrev numbers_a : List ℕ
numbers_a = 40000 ∷ 5000 ∷ 45000 ∷ 5000 ∷ 60000 ∷ 45000 ∷ 65535 ∷ 65535 ∷ 0 ∷ 40000 ∷ 60000 ∷ 45000 ∷ []

abbrev table_a : Table
unfolding evaluate
table_a = given_table numbers_a

-- one triangle that has a common interior point with both, and one with the second only
abbrev table_c : Table
unfolding evaluate
table_c = given_table (30000 ∷ 50000 ∷ 30000 ∷ 0 ∷ 65535 ∷ 30000 ∷ [])

abbrev table_f : Table
unfolding evaluate
table_f = given_table (0 ∷ 60000 ∷ 20000 ∷ 0 ∷ 45000 ∷ 20000 ∷ [])

-- a triangle one unit wide
abbrev numbers_unit : List ℕ
numbers_unit = 1000 ∷ 301 ∷ 1001 ∷ 301 ∷ 1000 ∷ 302 ∷ []

abbrev unit : Table
unfolding evaluate
unit = given_table numbers_unit

-- Cells and entries

entries-example : entry_numbers (entries_of table_a)
    ≡ 0 ∷ 1 ∷ 65535 ∷ 1073741824 ∷ 3 ∷ 0 ∷ 1140850688 ∷ 4 ∷ 65535 ∷ 1157627904 ∷ 4 ∷ 65535 ∷ 1174405120 ∷ 5 ∷ 0 ∷ 1178599424 ∷ 5 ∷ 0 ∷ 1182793728 ∷ 5 ∷ 0 ∷ 1186988032 ∷ 5 ∷ 0 ∷ 1191182336 ∷ 4 ∷ 0 ∷ 1207959552 ∷ 3 ∷ 65535 ∷ 1275068416 ∷ 3 ∷ 0 ∷ 1342177280 ∷ 2 ∷ 0 ∷ 1610612736 ∷ 2 ∷ 0 ∷ 1879048192 ∷ 2 ∷ 0 ∷ 2147483648 ∷ 1 ∷ 1 ∷ 3221225472 ∷ 2 ∷ 1 ∷ 3489660928 ∷ 2 ∷ 0 ∷ 3489660928 ∷ 2 ∷ 1 ∷ 3758096384 ∷ 2 ∷ 1 ∷ 4026531840 ∷ 2 ∷ 1 ∷ []
unfolding evaluate
entries-example = refl

small-example : entry_numbers (entries_of (given_table (5000 ∷ 5000 ∷ 9000 ∷ 5000 ∷ 9000 ∷ 9000 ∷ 1000 ∷ 9000 ∷ 5000 ∷ 5000 ∷ 1000 ∷ 50000 ∷ [])))
    ≡ 0 ∷ 3 ∷ 0 ∷ 0 ∷ 3 ∷ 1 ∷ 67108864 ∷ 4 ∷ 65535 ∷ 83886080 ∷ 4 ∷ 65535 ∷ 100663296 ∷ 5 ∷ 0 ∷ 104857600 ∷ 5 ∷ 65535 ∷ 109051904 ∷ 5 ∷ 0 ∷ 113246208 ∷ 5 ∷ 65535 ∷ 117440512 ∷ 4 ∷ 65535 ∷ 134217728 ∷ 4 ∷ 1 ∷ 150994944 ∷ 4 ∷ 0 ∷ 150994944 ∷ 4 ∷ 1 ∷ 167772160 ∷ 4 ∷ 1 ∷ 184549376 ∷ 4 ∷ 1 ∷ 201326592 ∷ 3 ∷ 0 ∷ 268435456 ∷ 2 ∷ 65535 ∷ 536870912 ∷ 2 ∷ 1 ∷ 805306368 ∷ 2 ∷ 65535 ∷ 1073741824 ∷ 1 ∷ 65535 ∷ 2147483648 ∷ 1 ∷ 1 ∷ 3221225472 ∷ 1 ∷ 65535 ∷ []
unfolding evaluate
small-example = refl

-- the small triangle: 58 entries, and these at level 16
deep-example : length (entries_of unit) ∷ entry_numbers (filter (λ e. eqb e.level 16) (entries_of unit))
    ≡ 58 ∷ 482484 ∷ 16 ∷ 65535 ∷ 482485 ∷ 16 ∷ 0 ∷ 482486 ∷ 16 ∷ 65535 ∷ 482487 ∷ 16 ∷ 0 ∷ 482528 ∷ 16 ∷ 0 ∷ 482529 ∷ 16 ∷ 0 ∷ 482530 ∷ 16 ∷ 0 ∷ 482531 ∷ 16 ∷ 0 ∷ []
unfolding evaluate
deep-example = refl

-- Edits

-- inside triangle 1, which is split; the new ones are appended
insert-example : outcome_numbers (proposed (insert (at 50000 50000)) table_a)
    ≡ 0 ∷ 40000 ∷ 5000 ∷ 45000 ∷ 5000 ∷ 60000 ∷ 45000 ∷ 65535 ∷ 65535 ∷ 0 ∷ 40000 ∷ 50000 ∷ 50000 ∷ 0 ∷ 40000 ∷ 60000 ∷ 45000 ∷ 50000 ∷ 50000 ∷ 60000 ∷ 45000 ∷ 65535 ∷ 65535 ∷ 50000 ∷ 50000 ∷ []
unfolding evaluate
insert-example = refl

-- on side ab of triangle 1
insert-side-example : outcome_numbers (proposed (insert (at 26214 50214)) table_a)
    ≡ 0 ∷ 40000 ∷ 5000 ∷ 45000 ∷ 5000 ∷ 60000 ∷ 45000 ∷ 65535 ∷ 65535 ∷ 26214 ∷ 50214 ∷ 60000 ∷ 45000 ∷ 26214 ∷ 50214 ∷ 0 ∷ 40000 ∷ 60000 ∷ 45000 ∷ []
unfolding evaluate
insert-side-example = refl

-- the three triangles around (9,9) at places 0, 2 and 4; the lowest place stays, the others move down
take_out-example : outcome_numbers
    (proposed (take_out (at 9 9))
    (given_table (30 ∷ 0 ∷ 0 ∷ 30 ∷ 9 ∷ 9 ∷ 100 ∷ 100 ∷ 110 ∷ 100 ∷ 100 ∷ 110 ∷ 0 ∷ 0 ∷ 30 ∷ 0 ∷ 9 ∷ 9 ∷ 200 ∷ 200 ∷ 210 ∷ 200 ∷ 200 ∷ 210 ∷ 0 ∷ 30 ∷ 0 ∷ 0 ∷ 9 ∷ 9 ∷ 300 ∷ 300 ∷ 310 ∷ 300 ∷ 300 ∷ 310 ∷ [])))
    ≡ 0 ∷ 30 ∷ 0 ∷ 0 ∷ 30 ∷ 0 ∷ 0 ∷ 100 ∷ 100 ∷ 110 ∷ 100 ∷ 100 ∷ 110 ∷ 200 ∷ 200 ∷ 210 ∷ 200 ∷ 200 ∷ 210 ∷ 300 ∷ 300 ∷ 310 ∷ 300 ∷ 300 ∷ 310 ∷ []
unfolding evaluate
take_out-example = refl

-- places 1, 2 and 3, in the other order around (9,9), one of them rotated
take_out-other-example : outcome_numbers
    (proposed (take_out (at 9 9)) (given_table (200 ∷ 200 ∷ 210 ∷ 200 ∷ 200 ∷ 210 ∷ 0 ∷ 30 ∷ 0 ∷ 0 ∷ 9 ∷ 9 ∷ 9 ∷ 9 ∷ 0 ∷ 0 ∷ 30 ∷ 0 ∷ 30 ∷ 0 ∷ 0 ∷ 30 ∷ 9 ∷ 9 ∷ [])))
    ≡ 0 ∷ 200 ∷ 200 ∷ 210 ∷ 200 ∷ 200 ∷ 210 ∷ 0 ∷ 30 ∷ 0 ∷ 0 ∷ 30 ∷ 0 ∷ []
unfolding evaluate
take_out-other-example = refl

-- four triangles have the corner; three that do not fit
take_out-refused-example :
    outcome_numbers (proposed (take_out (at 9 9)) (given_table (0 ∷ 0 ∷ 30 ∷ 0 ∷ 9 ∷ 9 ∷ 30 ∷ 0 ∷ 0 ∷ 30 ∷ 9 ∷ 9 ∷ 0 ∷ 30 ∷ 0 ∷ 0 ∷ 9 ∷ 9 ∷ 0 ∷ 30 ∷ 0 ∷ 0 ∷ 9 ∷ 9 ∷ [])))
    ++ outcome_numbers (proposed (take_out (at 9 9)) (given_table (0 ∷ 0 ∷ 30 ∷ 0 ∷ 9 ∷ 9 ∷ 30 ∷ 0 ∷ 0 ∷ 30 ∷ 9 ∷ 9 ∷ 0 ∷ 31 ∷ 0 ∷ 0 ∷ 9 ∷ 9 ∷ [])))
    ≡ 8 ∷ 0 ∷ 8 ∷ 0 ∷ []
unfolding evaluate
take_out-refused-example = refl

-- the quadrilateral (0,0) (60,10) (70,50) (5,40) with the diagonal from (0,0) to (70,50)
abbrev quad : Table
unfolding evaluate
quad = given_table (60 ∷ 10 ∷ 70 ∷ 50 ∷ 0 ∷ 0 ∷ 5 ∷ 40 ∷ 0 ∷ 0 ∷ 70 ∷ 50 ∷ [])

flip-example : outcome_numbers (proposed (flip 0 1) quad) ++ outcome_numbers (proposed (flip 1 0) quad)
    ≡ 0 ∷ 70 ∷ 50 ∷ 5 ∷ 40 ∷ 60 ∷ 10 ∷ 5 ∷ 40 ∷ 0 ∷ 0 ∷ 60 ∷ 10 ∷ 0 ∷ 60 ∷ 10 ∷ 70 ∷ 50 ∷ 5 ∷ 40 ∷ 0 ∷ 0 ∷ 60 ∷ 10 ∷ 5 ∷ 40 ∷ []
unfolding evaluate
flip-example = refl

-- a new triangle would have D = 0; no shared side; the triangle itself; no such triangle
flip-refused-example :
    outcome_numbers (proposed (flip 0 1) (given_table (0 ∷ 10 ∷ 10 ∷ 10 ∷ 0 ∷ 20 ∷ 10 ∷ 10 ∷ 0 ∷ 10 ∷ 20 ∷ 0 ∷ [])))
    ++ outcome_numbers (proposed (flip 0 1) table_a)
    ++ outcome_numbers (proposed (flip 1 1) quad)
    ++ outcome_numbers (proposed (flip 0 2) quad)
    ++ outcome_numbers (proposed (flip 2 0) quad)
    ≡ 9 ∷ 0 ∷ 9 ∷ 0 ∷ 9 ∷ 0 ∷ 6 ∷ 0 ∷ 6 ∷ 0 ∷ []
unfolding evaluate
flip-refused-example = refl

-- a corner of one triangle, the corner of both; no triangle holds the point; a table of 511 is too full for two more, one of 510 is not
insert-refused-example :
    outcome_numbers (proposed (insert (at 45000 5000)) table_a)
    ++ outcome_numbers (proposed (insert (at 60000 45000)) table_a)
    ++ outcome_numbers (proposed (insert (at 5000 45000)) table_a)
    ++ outcome_numbers (proposed (insert (at 2 1)) (replicate 511 (record { a = at 0 0; b = at 9 0; c = at 0 5 })))
    ++ take 1 (outcome_numbers (proposed (insert (at 2 1)) (replicate 510 (record { a = at 0 0; b = at 9 0; c = at 0 5 }))))
    ≡ 14 ∷ 0 ∷ 14 ∷ 0 ∷ 7 ∷ 0 ∷ 10 ∷ 0 ∷ 0 ∷ []
unfolding evaluate
insert-refused-example = refl

-- the lowest faulty triangle of two; nine numbers; 3,072 numbers are not too many, 3,078 are
load-refused-example :
    outcome_numbers (proposed (load (0 ∷ 0 ∷ 5 ∷ 0 ∷ 0 ∷ 7 ∷ 0 ∷ 0 ∷ 5 ∷ 5 ∷ 9 ∷ 9 ∷ 0 ∷ 0 ∷ 0 ∷ 7 ∷ 5 ∷ 0 ∷ [])) [])
    ++ outcome_numbers (proposed (load (replicate 9 1)) [])
    ++ outcome_numbers (proposed (load (replicate 3078 1)) [])
    ++ outcome_numbers (proposed (load (replicate 3072 1)) [])
    ≡ 5 ∷ 1 ∷ 4 ∷ 0 ∷ 4 ∷ 0 ∷ 5 ∷ 0 ∷ []
unfolding evaluate
load-refused-example = refl

-- 16,384 entries are not too many, 16,385 are
limit-of-entries-example : outcome_numbers (limited 16384 unit) ++ outcome_numbers (limited 16385 unit) ≡ 0 ∷ numbers_unit ++ (11 ∷ 0 ∷ [])
unfolding evaluate
limit-of-entries-example = refl

-- Lists of events

-- a refused event changes nothing: the insert is at a corner, the flip has no shared side
history-example : table_numbers (plain_table (load numbers_a ∷ insert (at 45000 5000) ∷ load (1 ∷ []) ∷ flip 0 1 ∷ [])) ≡ numbers_a
unfolding evaluate
history-example = refl

-- Overlay

overlay-example : overlaid table_a table_c ++ overlaid table_c table_a ++ overlaid table_a table_f ++ overlaid table_f table_a
    ≡ 0 ∷ 2 ∷ 19 ∷ 0 ∷ 0 ∷ 1 ∷ 0 ∷ 0 ∷ 2 ∷ 19 ∷ 0 ∷ 0 ∷ 0 ∷ 1 ∷ 0 ∷ 1 ∷ 22 ∷ 1 ∷ 0 ∷ 0 ∷ 1 ∷ 22 ∷ 0 ∷ 1 ∷ []
unfolding evaluate
overlay-example = refl

-- a chart whose one entry is the mark lists no triangle, so no pair, and has one cell
unindexed-example : overlay_numbers (overlay_of table_a (entries_of []) table_c (entries_of table_c)) ≡ 0 ∷ 0 ∷ 4 ∷ []
unfolding evaluate
unindexed-example = refl

-- 4,096 pairs are not too many, 4,097 are
limit-of-pairs-example : map (λ n. outcome_number (within_pairs (replicate n (record { i = 3; j = 5 })) 8)) (4096 ∷ 4097 ∷ []) ≡ 0 ∷ 12 ∷ []
unfolding evaluate
limit-of-pairs-example = refl

-- Reading

-- the common corner, strictly inside the first and the second, on a side, outside
located-example :
    located_in table_a (at 60000 45000)
    ++ located_in table_a (at 52000 25000)
    ++ located_in table_a (at 50000 50000)
    ++ located_in table_a (at 30000 42500)
    ++ located_in table_a (at 30000 5)
    ≡ 1 ∷ 0 ∷ 6 ∷ 1 ∷ 0 ∷ 0 ∷ 1 ∷ 1 ∷ 0 ∷ 1 ∷ 1 ∷ 2 ∷ 0 ∷ 7 ∷ []
unfolding evaluate
located-example = refl

listing-example : map (λ p. listing (entries_of table_a) p) (at 52000 25000 ∷ at 60000 45000 ∷ at 30000 5 ∷ at 0 32768 ∷ at 0 32767 ∷ [])
    ≡ (0 ∷ []) ∷ (0 ∷ 1 ∷ []) ∷ [] ∷ (1 ∷ []) ∷ [] ∷ []
unfolding evaluate
listing-example = refl

sound-example : sound table_a ∷ sound (table_c ++ table_a) ∷ sound (table_a ++ table_a) ∷ [] ≡ true ∷ false ∷ false ∷ []
unfolding evaluate
sound-example = refl

area-example : total_area table_a ≡ 1404425000
unfolding evaluate
area-example = refl
