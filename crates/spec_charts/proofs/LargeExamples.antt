-- Numbers count whole: examples with places, counts, coordinates and triangle numbers beyond 16 and 32 bits, and with tables of more
-- than 512 triangles.
-- Assumes nothing.
use mathlib.Core.Path.{◌≡◌, refl}
use mathlib.Core.Bool.{true, false, false≢true}
use mathlib.Core.List.{List, [], ◌∷◌, ◌++◌, map}
use mathlib.Core.Option.{none, some}
use mathlib.Core.Logic.{inl, inr}
use Prim.Native.Nat.{ℕ}
use native.Mathlib.Omega.{arith}
use lib.IntN.{pos}
use lib.ListN.{length, drop, replicate}
use Rattle.theory_orthtree.specs.Entries.{Entry, entry}
use Rattle.spec_plane.specs.Triangle.{Triangle}
use Rattle.spec_squares.specs.declared.Square.{Square}
use Rattle.spec_plane.specs.declared.Position.TheVariants.{Inside, OnAb, OnBc, AtA}
use Rattle.spec_charts.specs.Table.{Table, Drawn, sixteen_bit, point_at, triangle_at, table_of, triangle_numbers, table_numbers, no_triangle, numbered}
use Rattle.spec_charts.specs.Cells.{cells_in, stopped, or_mark, entry_of}
use Rattle.spec_charts.specs.declared.Refusal.TheVariants.{FaultyTriangle, NoFlip, TableFull, TooManyPairs, AtCorner}
use Rattle.spec_charts.specs.Refusals.{alone, row_of, refused, done, outcome_value, done_or}
use Rattle.spec_charts.specs.Edits.{refuse_faulty, given_table, load_table, merge_around, merge_three, take_out_three, flip_as, flip_with, flip_among, flip_table, within_table, split_at, split_row, side_first, neighbour_or, neighbour_from, side_split_at, side_split_both, side_split_row, lowest_holder, insert_on_side, insert_in, insert_taken, insert_table, flip, proposed, limited}
use Rattle.spec_charts.specs.Overlay.{pair, Earlier, pair_numbers, pair_listed, pairs_listed, within_pairs, SharesGround, keys_of, ranges_overlap}
use Rattle.spec_charts.specs.Reading.{listing, located, found_position, total_area}
use Rattle.spec_charts.proofs.Evaluate.{evaluate}
use Rattle.spec_charts.proofs.Written.{at, outcome_numbers}
use Rattle.spec_charts.proofs.EditExamples.{pa, pb, pc, pd, pp, tri}
use Rattle.spec_charts.proofs.InsertExamples.{neighbour}

-- pp is inside `near`, and `next` has a side of it; `far` is far from both
abbrev near : Triangle
near = tri pa pb pc

abbrev next : Triangle
next = tri pb pa pd

abbrev far : Triangle
far = tri (at 500 600) (at 510 600) (at 500 620)

-- four triangles, and tables in which places 256, 512 and 513 have others than places 0 and 1
abbrev four : Table
four = next ∷ far ∷ near ∷ far ∷ []

abbrev deep256 : Table
deep256 = replicate 256 far ++ (near ∷ [])

abbrev deep : Table
deep = replicate 512 far ++ (near ∷ next ∷ [])

-- the square with the corner x, y
abbrev square : ℕ → ℕ → ℕ → Square
square x y level = record { x = x; y = y; level = level }

-- Tables

sixteen_bit-large : map (λ n. sixteen_bit (n ∷ [])) (65535 ∷ 65536 ∷ 4294967296 ∷ []) ≡ true ∷ false ∷ false ∷ []
unfolding evaluate
sixteen_bit-large = refl

-- at places beyond the end there is 0
point_at-large : map (λ k. point_at (5000000011 ∷ 12 ∷ 6000000013 ∷ []) k) (0 ∷ 1 ∷ 4294967295 ∷ 4294967296 ∷ []) ≡ at 5000000011 12 ∷ at 12 6000000013 ∷ at 0 0 ∷ at 0 0 ∷ []
unfolding evaluate
point_at-large = refl

-- 6 × 2^31 is 3 × 2^32
triangle_at-large : map (λ i. triangle_at (11 ∷ 12 ∷ 13 ∷ 14 ∷ 15 ∷ 16 ∷ []) i) (2147483648 ∷ 4294967296 ∷ []) ≡ no_triangle ∷ no_triangle ∷ []
unfolding evaluate
triangle_at-large = refl

table_of-large : drop 512 (table_of (11 ∷ 12 ∷ 13 ∷ 14 ∷ 15 ∷ 16 ∷ []) 513) ≡ no_triangle ∷ []
unfolding evaluate
table_of-large = refl

triangle_numbers-large : triangle_numbers (tri (at 5000000011 5000000012) (at 5000000013 5000000014) (at 5000000015 5000000016))
    ≡ 5000000011 ∷ 5000000012 ∷ 5000000013 ∷ 5000000014 ∷ 5000000015 ∷ 5000000016 ∷ []
unfolding evaluate
triangle_numbers-large = refl

numbered-large : numbered four 4294967296 ∷ numbered deep 512 ∷ [] ≡ no_triangle ∷ near ∷ []
unfolding evaluate
numbered-large = refl

-- a list of code: more than 512 triangles; fewer numbers than 43, 86, 256 and 512 triangles take; 512 triangles with D = 0; numbers to spare
drawn-few : Drawn (replicate 4608 9) 768 → ⊥
drawn-few h = let l = h.few in omega arith

drawn-room : (Drawn (replicate 2 9) 43 → ⊥) × (Drawn (replicate 4 9) 86 → ⊥)
drawn-room = (λ h. let l = h.room in omega arith, λ h. let l = h.room in omega arith)

drawn-count : (Drawn [] 256 → ⊥) × (Drawn [] 512 → ⊥)
drawn-count = (λ h. let l = h.room in omega arith, λ h. let l = h.room in omega arith)

drawn-oriented : Drawn [] 512 → ⊥
unfolding evaluate
drawn-oriented h = false≢true h.oriented

drawn-long : Drawn (table_numbers (near ∷ []) ++ replicate 506 0) 1
unfolding evaluate
drawn-long = record { few = omega arith; room = omega arith; oriented = refl }

-- Cells

-- 2^32 + 16 is not level 16
stopped-large : stopped (tri (at 1000 301) (at 1001 301) (at 1000 302) ∷ []) (square 1000 301 4294967312) ≡ false
unfolding evaluate
stopped-large = refl

cells_in-large : cells_in (tri (at 1000 301) (at 1001 301) (at 1000 302) ∷ []) (square 1000 301 4294967296) ≡ square 1000 301 4294967296 ∷ []
unfolding evaluate
cells_in-large = refl

or_mark-large : or_mark (5000000003 ∷ 5 ∷ []) ≡ 5000000003 ∷ 5 ∷ []
unfolding evaluate
or_mark-large = refl

entry_of-large : entry_of (square 32768 0 4294967297) 5000000007 ≡ entry 1073741824 4294967297 5000000007
unfolding evaluate
entry_of-large = refl

-- Refusals

row-large : alone 5000000003 ∷ row_of (FaultyTriangle 5000000007) ∷ [] ≡ record { number = 5000000003; value = 0 } ∷ record { number = 5; value = 5000000007 } ∷ []
row-large = refl

outcome_value-large : outcome_value {A = ℕ} (refused (FaultyTriangle 5000000007)) ≡ 5000000007
outcome_value-large = refl

-- Edits

refuse_faulty-large : refuse_faulty (5000000009 ∷ 2 ∷ []) four ≡ refused (FaultyTriangle 5000000009)
unfolding evaluate
refuse_faulty-large = refl

given_table-large : length (given_table (replicate 516 9)) ≡ 86
unfolding evaluate
given_table-large = refl

-- 516 numbers are 86 triangles, here faulty ones; 3,078 are too many
load_table-large : map (λ n. outcome_numbers (load_table (replicate n 9))) (516 ∷ 3078 ∷ []) ≡ (5 ∷ 0 ∷ []) ∷ (4 ∷ 0 ∷ []) ∷ []
unfolding evaluate
load_table-large = refl

merge_around-large : merge_around four 4294967296 4294967297 4294967298 near ≡ four
unfolding evaluate
merge_around-large = refl

-- the three triangles close round pp in either order
merge_three-large :
    merge_three four 4294967296 4294967297 4294967298 (tri pa pb pp) (tri pb pc pp) (tri pc pa pp)
    ∷ merge_three four 4294967296 4294967297 4294967298 (tri pa pb pp) (tri pc pa pp) (tri pb pc pp)
    ∷ []
    ≡ done four ∷ done four ∷ []
unfolding evaluate
merge_three-large = refl

-- triangles beyond the end are three of six zeros, which close round
take_out_three-large : take_out_three pp four (4294967296 ∷ 4294967297 ∷ 4294967298 ∷ []) ≡ done four
unfolding evaluate
take_out_three-large = refl

flip_as-large : flip_as four 4294967296 4294967297 near next ≡ done four
unfolding evaluate
flip_as-large = refl

flip_with-large : flip_with four 4294967296 4294967297 near (some next) (refused NoFlip) ≡ done four
unfolding evaluate
flip_with-large = refl

flip_among-large : flip_among four 4294967296 4294967297 (tri pa pd pb ∷ next ∷ []) (tri pb pc pa ∷ near ∷ []) ≡ done four
unfolding evaluate
flip_among-large = refl

-- no such triangle; the last two of 514
flip_table-large : outcome_numbers (flip_table 4294967296 2 four) ∷ outcome_numbers (flip_table 0 4294967298 four) ∷ [] ≡ (6 ∷ 0 ∷ []) ∷ (6 ∷ 0 ∷ []) ∷ []
unfolding evaluate
flip_table-large = refl

flip_table-last : drop 511 (done_or [] (flip_table 512 513 deep)) ≡ far ∷ tri pa pd pc ∷ tri pd pb pc ∷ []
unfolding evaluate
flip_table-last = refl

-- Insert

within_table-large : map (λ n. within_table (replicate n far)) (513 ∷ 768 ∷ 65536 ∷ []) ≡ replicate 3 (refused TableFull)
unfolding evaluate
within_table-large = refl

-- a place beyond the end is not written
split_at-large : split_at (far ∷ []) 4294967296 near pp ≡ far ∷ tri pb pc pp ∷ tri pc pa pp ∷ []
unfolding evaluate
split_at-large = refl

split_row-large : split_row 4294967296 near pp (far ∷ []) ≡ done (far ∷ tri pb pc pp ∷ tri pc pa pp ∷ [])
unfolding evaluate
split_row-large = refl

side_first-large : side_first OnBc (tri (at 5000000011 12) (at 13 5000000014) (at 5000000015 5000000016))
    ≡ some (tri (at 13 5000000014) (at 5000000015 5000000016) (at 5000000011 12))
unfolding evaluate
side_first-large = refl

neighbour_or-large : neighbour_or 5000000003 (some near) none ∷ neighbour_or 3 none (some (neighbour 5000000005 near)) ∷ []
    ≡ some (neighbour 5000000003 near) ∷ some (neighbour 5000000005 near) ∷ []
unfolding evaluate
neighbour_or-large = refl

-- numbered from 5,000,000,003 on, from 2^32 - 1 on; the last of 514, of which 512 is no neighbour
neighbour_from-large :
    neighbour_from near 5000000003 (next ∷ [])
    ∷ neighbour_from near 5000000003 (far ∷ near ∷ next ∷ [])
    ∷ neighbour_from near 4294967295 (far ∷ next ∷ [])
    ∷ neighbour_from near 0 deep
    ∷ []
    ≡ some (neighbour 5000000003 next) ∷ some (neighbour 5000000005 next) ∷ some (neighbour 4294967296 next) ∷ some (neighbour 513 next) ∷ []
unfolding evaluate
neighbour_from-large = refl

-- a place beyond the end is not written
side_split_at-large : side_split_at (far ∷ []) 4294967296 near pp ≡ far ∷ tri pp pb pc ∷ []
unfolding evaluate
side_split_at-large = refl

-- so it is with the place of the triangle, alone and with a neighbour, and with the neighbour's
side_split_both-large :
    side_split_both (far ∷ far ∷ []) 4294967296 near pp none
    ∷ side_split_both (far ∷ far ∷ []) 4294967296 near pp (some (neighbour 1 next))
    ∷ side_split_both (far ∷ far ∷ []) 1 near pp (some (neighbour 4294967296 next))
    ∷ []
    ≡ (far ∷ far ∷ tri pp pb pc ∷ [])
    ∷ (far ∷ tri pb pp pd ∷ tri pp pb pc ∷ tri pp pa pd ∷ [])
    ∷ (far ∷ tri pa pp pc ∷ tri pp pb pc ∷ tri pp pa pd ∷ [])
    ∷ []
unfolding evaluate
side_split_both-large = refl

-- the neighbour is triangle 0
side_split_row-large :
    side_split_row 4294967297 near pp four ∷ insert_on_side 4294967297 (some near) pp four ∷ insert_in 4294967297 near OnAb pp four ∷ []
    ≡ replicate 3 (done (tri pb pp pd ∷ far ∷ near ∷ far ∷ tri pp pb pc ∷ tri pp pa pd ∷ []))
unfolding evaluate
side_split_row-large = refl

insert_in-large : insert_in 4294967296 near Inside pp (far ∷ []) ≡ done (far ∷ tri pb pc pp ∷ tri pc pa pp ∷ [])
unfolding evaluate
insert_in-large = refl

-- near holds pp as triangle 256 and as triangle 512
lowest_holder-large : map (λ table. lowest_holder pp table) (deep256 ∷ deep ∷ []) ≡ some 256 ∷ some 512 ∷ []
unfolding evaluate
lowest_holder-large = refl

-- of six zeros, which stand for a triangle beyond the end, every point is a corner
insert_taken-large : insert_taken (some 4294967296) pp (near ∷ far ∷ []) ≡ refused AtCorner
unfolding evaluate
insert_taken-large = refl

insert_taken-256 : drop 255 (done_or [] (insert_taken (some 256) pp deep256)) ≡ far ∷ tri pa pb pp ∷ tri pb pc pp ∷ tri pc pa pp ∷ []
unfolding evaluate
insert_taken-256 = refl

-- (30,15) is on the side of both, (30,16) is inside the first
abbrev halved : Triangle
halved = tri (at 10 10) (at 50 20) (at 20 60)

abbrev beyond : Triangle
beyond = tri (at 50 20) (at 10 10) (at 40 3)

-- triangle 256 is taken: with the neighbour 258, the other way, and inside
insert_table-256 :
    map (λ table. drop 255 (done_or [] (insert_table (at 30 15) (replicate 256 far ++ table)))) ((halved ∷ far ∷ beyond ∷ []) ∷ (beyond ∷ far ∷ halved ∷ []) ∷ [])
    ++ (drop 255 (done_or [] (insert_table (at 30 16) (replicate 256 far ++ (halved ∷ beyond ∷ [])))) ∷ [])
    ≡ (far ∷ tri (at 10 10) (at 30 15) (at 20 60) ∷ far ∷ tri (at 50 20) (at 30 15) (at 40 3) ∷ tri (at 30 15) (at 50 20) (at 20 60) ∷ tri (at 30 15) (at 10 10) (at 40 3) ∷ [])
    ∷ (far ∷ tri (at 50 20) (at 30 15) (at 40 3) ∷ far ∷ tri (at 10 10) (at 30 15) (at 20 60) ∷ tri (at 30 15) (at 10 10) (at 40 3) ∷ tri (at 30 15) (at 50 20) (at 20 60) ∷ [])
    ∷ (far ∷ tri (at 10 10) (at 50 20) (at 30 16) ∷ beyond ∷ tri (at 50 20) (at 20 60) (at 30 16) ∷ tri (at 20 60) (at 10 10) (at 30 16) ∷ [])
    ∷ []
unfolding evaluate
insert_table-256 = refl

-- Events

proposed-large : map (λ e. outcome_numbers (proposed e four)) (flip 4294967296 2 ∷ flip 0 4294967298 ∷ []) ≡ replicate 2 (6 ∷ 0 ∷ [])
unfolding evaluate
proposed-large = refl

limited-large : outcome_numbers (limited 4294967296 []) ≡ 11 ∷ 0 ∷ []
unfolding evaluate
limited-large = refl

-- Overlay

pair_numbers-large : pair_numbers (pair 5000000003 6000000005 ∷ []) ≡ 5000000003 ∷ 6000000005 ∷ []
unfolding evaluate
pair_numbers-large = refl

earlier-large : Earlier (pair 1 9) (pair 4294967296 3) × (Earlier (pair 4294967296 3) (pair 4294967296 4) × Earlier (pair 2 3) (pair 2 4294967296))
earlier-large = (inl (omega arith), (inr (refl, omega arith), inr (refl, omega arith)))

later-large : (Earlier (pair 4294967297 9) (pair 2 3) → ⊥) × (Earlier (pair 2 4294967299) (pair 2 4) → ⊥)
later-large = (no_lower, no-lower-j)
  where
    no_lower : Earlier (pair 4294967297 9) (pair 2 3) → ⊥
    no_lower (inl h) = omega arith
    no_lower (inr h) = omega arith

    no-lower-j : Earlier (pair 2 4294967299) (pair 2 4) → ⊥
    no-lower-j (inl h) = omega arith
    no-lower-j (inr h) = omega arith

-- triangle 512 of both charts, listed in one cell
abbrev listed : List Entry
listed = entry 0 0 512 ∷ []

pair_listed-large : pair_listed deep listed deep listed 512 512 ≡ true
unfolding evaluate
pair_listed-large = refl

abbrev alone0 : List Entry
alone0 = entry 0 0 0 ∷ []

pairs_listed-large : pairs_listed deep listed (near ∷ []) alone0 ∷ pairs_listed (near ∷ []) alone0 deep listed ∷ [] ≡ (pair 512 0 ∷ []) ∷ (pair 0 512 ∷ []) ∷ []
unfolding evaluate
pairs_listed-large = refl

within_pairs-large : within_pairs (replicate 65536 (pair 3 5)) 8 ∷ within_pairs [] 5000000008 ∷ []
    ≡ refused TooManyPairs ∷ done (record { pairs = []; meets = 5000000008 }) ∷ []
unfolding evaluate
within_pairs-large = refl

-- (30,33) is inside triangle 512 of both; triangles 2^32 and 2^32 + 2 are not there
shares-large : SharesGround deep deep 512 512
unfolding evaluate
shares-large = record {
  first = omega arith;
  second = omega arith;
  common = record { point = record { X = pos 30; Y = pos 33; W = 1 }; above = omega arith; first = tt; second = tt };
}

no-first-large : SharesGround four four 4294967296 0 → ⊥
no-first-large h = let l = h.first in omega arith

no-second-large : SharesGround four four 0 4294967298 → ⊥
no-second-large h = let l = h.second in omega arith

keys_of-large : map (λ n. keys_of (square 0 0 n)) (0 ∷ 4294967296 ∷ []) ≡ 4294967296 ∷ 1 ∷ []
unfolding evaluate
keys_of-large = refl

-- the whole square overlaps the last quarter, and neighbours of level 2 do not overlap
ranges_overlap-large :
    ranges_overlap (square 0 0 0) (square 49152 49152 2)
    ∷ ranges_overlap (square 49152 49152 2) (square 0 0 0)
    ∷ ranges_overlap (square 32768 49152 2) (square 49152 49152 2)
    ∷ ranges_overlap (square 49152 49152 2) (square 32768 49152 2)
    ∷ []
    ≡ true ∷ true ∷ false ∷ false ∷ []
unfolding evaluate
ranges_overlap-large = refl

-- Reading

listing-large : listing (entry 0 0 5000000005 ∷ []) pp ≡ 5000000005 ∷ []
unfolding evaluate
listing-large = refl

-- triangle 512 holds pp; so do the six zeros that stand for a triangle beyond the end
located-large : located deep listed pp ∷ located (far ∷ []) (entry 0 0 4294967296 ∷ []) pp ∷ [] ≡ some 512 ∷ some 4294967296 ∷ []
unfolding evaluate
located-large = refl

found-position-large : found_position deep pp (some 512) ∷ found_position (far ∷ []) pp (some 4294967296) ∷ [] ≡ Inside ∷ AtA ∷ []
unfolding evaluate
found-position-large = refl

total_area-large : total_area (tri (at 0 0) (at 100000 0) (at 0 100000) ∷ tri (at 0 0) (at 200000 0) (at 0 300000) ∷ []) ≡ 70000000000
unfolding evaluate
total_area-large = refl
