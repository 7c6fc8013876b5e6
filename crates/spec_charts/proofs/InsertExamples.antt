-- Examples of Edits.antt, insert: which triangle is taken, what is made of it inside and on each side, every rotation of the
-- neighbour, which triangles take part, every refusal alone and their order.
-- Assumes nothing.
use mathlib.Core.Path.{◌≡◌, refl}
use mathlib.Core.List.{List, [], ◌∷◌, ◌++◌, map}
use mathlib.Core.Option.{none, some}
use Prim.Native.Nat.{ℕ}
use lib.ListN.{length, replicate}
use Rattle.spec_plane.specs.declared.Point.{Point}
use Rattle.spec_plane.specs.declared.Position.{Position}
use Rattle.spec_plane.specs.declared.Position.TheVariants.{Inside, OnAb, OnBc, OnCa, AtA, AtB, AtC, Outside}
use Rattle.spec_plane.specs.Triangle.{Triangle}
use Rattle.spec_plane.specs.Position.{position}
use Rattle.spec_charts.specs.Table.{Table, table_numbers, numbered}
use Rattle.spec_charts.specs.Cells.{entries_of}
use Rattle.spec_charts.specs.declared.Refusal.TheVariants.{NoHolder, TableFull, AtCorner}
use Rattle.spec_charts.specs.Refusals.{refused, done, outcome_number}
use Rattle.spec_charts.specs.Edits.{rotations, within_table, split_at, split_row, side_first, Neighbour, neighbour_or, neighbour_from, side_split_at, side_split_both, side_split_row, lowest_holder, insert_on_side, insert_in, insert_taken, insert_table, load, insert, take_out, flip, proposed, limited, counted, event_on, plain_table}
use Rattle.spec_charts.proofs.Evaluate.{evaluate}
use Rattle.spec_charts.proofs.Written.{at}
use Rattle.spec_charts.proofs.EditExamples.{pa, pb, pc, pd, pp, tri}

-- a triangle with its number
abbrev pub neighbour : ℕ → Triangle → Neighbour
neighbour k u = record { number = k; rotation = u }

-- The parts

-- a table of 512 triangles is not too full, one of 513 is
within_table-example : (t : Triangle)
    → map (λ n. within_table (replicate n t)) (0 ∷ 512 ∷ 513 ∷ []) ≡ done [] ∷ done (replicate 512 t) ∷ refused TableFull ∷ []
unfolding evaluate
within_table-example t = refl

-- the triangle given, not the one that stands at the place, is cut up; its place gets (a,b,p), the others are appended in order
split_at-example : (q r s : Triangle) (a b c p : Point)
    → split_at (q ∷ r ∷ s ∷ []) 1 (tri a b c) p ≡ q ∷ tri a b p ∷ s ∷ tri b c p ∷ tri c a p ∷ []
unfolding evaluate
split_at-example q r s a b c p = refl

split_row-example : (q r s : Triangle) (a b c p : Point)
    → split_row 1 (tri a b c) p (q ∷ r ∷ s ∷ []) ≡ done (q ∷ tri a b p ∷ s ∷ tri b c p ∷ tri c a p ∷ [])
unfolding evaluate
split_row-example q r s a b c p = refl

-- 510 triangles have room for two more
split_row-full-example : (t u : Triangle) (p : Point) → map (λ n. outcome_number (split_row 3 t p (replicate n u))) (510 ∷ 511 ∷ 512 ∷ []) ≡ 0 ∷ 10 ∷ 10 ∷ []
unfolding evaluate
split_row-full-example t u p = refl

-- on the sides ab, bc and ca, and where there is no such rotation: inside, at each corner, outside
side_first-example : (a b c : Point)
    → map (λ w. side_first w (tri a b c)) (OnAb ∷ OnBc ∷ OnCa ∷ Inside ∷ AtA ∷ AtB ∷ AtC ∷ Outside ∷ [])
    ≡ some (tri a b c) ∷ some (tri b c a) ∷ some (tri c a b) ∷ none ∷ none ∷ none ∷ none ∷ none ∷ []
unfolding evaluate
side_first-example a b c = refl

-- the triangle found comes before all later ones
neighbour_or-example : (u : Triangle) (n : Neighbour)
    → neighbour_or 3 (some u) none ∷ neighbour_or 3 (some u) (some n) ∷ neighbour_or 3 none (some n) ∷ neighbour_or 3 none none ∷ []
    ≡ some (neighbour 3 u) ∷ some (neighbour 3 u) ∷ some n ∷ none ∷ []
unfolding evaluate
neighbour_or-example u n = refl

-- (b,a,d) of (a,b,c) in its three rotations, as the second of a table that is numbered from 5
neighbour_from-rotations-example :
    map (λ u. neighbour_from (tri pa pb pc) 5 (tri pd pc pp ∷ u ∷ [])) (rotations (tri pb pa pd)) ≡ replicate 3 (some (neighbour 6 (tri pb pa pd)))
unfolding evaluate
neighbour_from-rotations-example = refl

-- behind (a,b,c), before it, and the lowest of several, rotated or not
neighbour_from-lowest-example :
    neighbour_from (tri pa pb pc) 0 (tri pa pb pc ∷ tri pd pc pp ∷ tri pd pb pa ∷ [])
    ∷ neighbour_from (tri pa pb pc) 0 (tri pd pb pa ∷ tri pd pc pp ∷ tri pa pb pc ∷ [])
    ∷ neighbour_from (tri pa pb pc) 0 (tri pa pb pc ∷ tri pp pb pa ∷ tri pb pa pd ∷ [])
    ∷ neighbour_from (tri pa pb pc) 0 (tri pb pa pd ∷ tri pp pb pa ∷ tri pa pb pc ∷ tri pb pa pp ∷ [])
    ∷ []
    ≡ some (neighbour 2 (tri pb pa pd)) ∷ some (neighbour 0 (tri pb pa pd)) ∷ some (neighbour 1 (tri pb pa pp)) ∷ some (neighbour 0 (tri pb pa pd)) ∷ []
unfolding evaluate
neighbour_from-lowest-example = refl

-- no triangle; (a,b,c) itself, in each rotation, and another with its side in the same direction; triangles on its other sides; with one end
-- of the side alone, and with another point for either end
neighbour_from-none-example :
    map (λ us. neighbour_from (tri pa pb pc) 0 us)
    ([]
    ∷ rotations (tri pa pb pc)
    ∷ rotations (tri pa pb pd)
    ∷ (tri pc pb pd ∷ tri pa pc pd ∷ [])
    ∷ (tri pb pd pp ∷ tri pd pp pa ∷ [])
    ∷ (tri pb pp pd ∷ tri pp pa pd ∷ [])
    ∷ [])
    ≡ replicate 6 none
unfolding evaluate
neighbour_from-none-example = refl

-- the triangle given, not the one that stands at the place, is cut up; its place gets (a,p,c), and (p,b,c) is appended
side_split_at-example : (q r s : Triangle) (a b c p : Point)
    → side_split_at (q ∷ r ∷ s ∷ []) 1 (tri a b c) p ≡ q ∷ tri a p c ∷ s ∷ tri p b c ∷ []
unfolding evaluate
side_split_at-example q r s a b c p = refl

-- without a neighbour; with one behind and one before: its place gets (b,p,d), and (p,a,d) is appended after (p,b,c)
side_split_both-example : (q r s : Triangle) (a b c d p : Point)
    → side_split_both (q ∷ r ∷ s ∷ []) 1 (tri a b c) p none
    ∷ side_split_both (q ∷ r ∷ s ∷ []) 1 (tri a b c) p (some (neighbour 2 (tri b a d)))
    ∷ side_split_both (q ∷ r ∷ s ∷ []) 1 (tri a b c) p (some (neighbour 0 (tri b a d)))
    ∷ []
    ≡ (q ∷ tri a p c ∷ s ∷ tri p b c ∷ [])
    ∷ (q ∷ tri a p c ∷ tri b p d ∷ tri p b c ∷ tri p a d ∷ [])
    ∷ (tri b p d ∷ tri a p c ∷ s ∷ tri p b c ∷ tri p a d ∷ [])
    ∷ []
unfolding evaluate
side_split_both-example q r s a b c d p = refl

-- Triangles that the examples below share

-- t is (a,b,c); p is on ab, and so is x; z is inside, o is outside, both next to ab
abbrev a : Point
a = at 10 10

abbrev b : Point
b = at 50 20

abbrev c : Point
c = at 20 60

abbrev d : Point
d = at 40 3

abbrev p : Point
p = at 30 15

abbrev x : Point
x = at 34 16

abbrev z : Point
z = at 30 16

abbrev o : Point
o = at 30 14

abbrev t : Triangle
t = tri a b c

-- has all of t strictly inside
abbrev wide : Triangle
wide = tri (at 1 2) (at 120 4) (at 3 130)

-- far from t, each at another place
abbrev q : Triangle
q = tri (at 300 1) (at 900 1) (at 600 80)

abbrev r : Triangle
r = tri (at 301 33) (at 900 2) (at 600 81)

abbrev s : Triangle
s = tri (at 302 3) (at 910 2) (at 610 82)

-- the rotation given, which the triangle at the place need not have, fixes what is made; a neighbour before it and behind it
side_split_row-example :
    map (λ table. side_split_row 1 t p table) ((q ∷ r ∷ s ∷ []) ∷ (q ∷ t ∷ tri a d b ∷ []) ∷ (tri d b a ∷ tri b c a ∷ s ∷ []) ∷ [])
    ≡ done (q ∷ tri a p c ∷ s ∷ tri p b c ∷ [])
    ∷ done (q ∷ tri a p c ∷ tri b p d ∷ tri p b c ∷ tri p a d ∷ [])
    ∷ done (tri b p d ∷ tri a p c ∷ s ∷ tri p b c ∷ tri p a d ∷ [])
    ∷ []
unfolding evaluate
side_split_row-example = refl

-- The triangle taken

-- no triangle; one at the end, in the middle, at the start; inside, on a side and at a corner alike, the lowest of several; outside of all
lowest_holder-example :
    lowest_holder p []
    ∷ map (λ w. lowest_holder w (q ∷ t ∷ tri b a d ∷ t ∷ wide ∷ [])) (at 5 40 ∷ d ∷ z ∷ p ∷ a ∷ b ∷ c ∷ at 600 40 ∷ at 1 1 ∷ [])
    ≡ none ∷ some 4 ∷ some 2 ∷ some 1 ∷ some 1 ∷ some 1 ∷ some 1 ∷ some 1 ∷ some 0 ∷ none ∷ []
unfolding evaluate
lowest_holder-example = refl

-- on each side and next to it, inside and outside
lowest_holder-sides-example :
    map (λ w. lowest_holder w (q ∷ t ∷ [])) (z ∷ at 34 40 ∷ at 16 35 ∷ p ∷ at 35 40 ∷ at 15 35 ∷ o ∷ at 36 40 ∷ at 14 35 ∷ [])
    ≡ replicate 6 (some 1) ++ replicate 3 none
unfolding evaluate
lowest_holder-sides-example = refl

-- no rotation: 14, for any table, a full one too
insert_on_side-example : (table : Table) (i : ℕ) (u : Triangle) (w : Point)
    → insert_on_side i none w table ∷ insert_on_side i (some u) w table ∷ [] ≡ refused AtCorner ∷ side_split_row i u w table ∷ []
unfolding evaluate
insert_on_side-example table i u w = refl

insert_on_side-full-example : insert_on_side 7 none p (replicate 512 t) ∷ insert_on_side 7 (some t) p (replicate 512 t) ∷ []
    ≡ refused AtCorner ∷ refused TableFull ∷ []
unfolding evaluate
insert_on_side-full-example = refl

-- the position, not the point, says what is done
abbrev positions : List Position
positions = Inside ∷ OnAb ∷ OnBc ∷ OnCa ∷ AtA ∷ AtB ∷ AtC ∷ Outside ∷ []

insert_in-example : (i : ℕ) (a b c p : Point) (table : Table)
    → map (λ w. insert_in i (tri a b c) w p table) positions
    ≡ split_row i (tri a b c) p table
    ∷ side_split_row i (tri a b c) p table
    ∷ side_split_row i (tri b c a) p table
    ∷ side_split_row i (tri c a b) p table
    ∷ replicate 4 (refused AtCorner)
unfolding evaluate
insert_in-example i a b c p table = refl

insert_in-places-example :
    map (λ w. insert_in 1 t w (at 31 41) (q ∷ r ∷ s ∷ [])) positions
    ≡ done (q ∷ tri a b (at 31 41) ∷ s ∷ tri b c (at 31 41) ∷ tri c a (at 31 41) ∷ [])
    ∷ done (q ∷ tri a (at 31 41) c ∷ s ∷ tri (at 31 41) b c ∷ [])
    ∷ done (q ∷ tri b (at 31 41) a ∷ s ∷ tri (at 31 41) c a ∷ [])
    ∷ done (q ∷ tri c (at 31 41) b ∷ s ∷ tri (at 31 41) a b ∷ [])
    ∷ replicate 4 (refused AtCorner)
unfolding evaluate
insert_in-places-example = refl

-- none: 7, of a full table too; else the triangle with that number, whether it is the lowest or not
insert_taken-example : (i : ℕ) (w : Point) (table : Table)
    → insert_taken none w table ∷ insert_taken (some i) w table ∷ []
    ≡ refused NoHolder ∷ insert_in i (numbered table i) (position (numbered table i) w) w table ∷ []
unfolding evaluate
insert_taken-example i w table = refl

insert_taken-second-example :
    insert_taken none z (t ∷ t ∷ [])
    ∷ insert_taken none z (replicate 512 t)
    ∷ map (λ w. insert_taken (some 1) w (t ∷ tri b c a ∷ q ∷ [])) (z ∷ p ∷ b ∷ [])
    ≡ refused NoHolder
    ∷ refused NoHolder
    ∷ done (t ∷ tri b c z ∷ q ∷ tri c a z ∷ tri a b z ∷ [])
    ∷ done (t ∷ tri a p c ∷ q ∷ tri p b c ∷ [])
    ∷ refused AtCorner
    ∷ []
unfolding evaluate
insert_taken-second-example = refl

insert_table-example : (w : Point) (table : Table) → insert_table w table ≡ insert_taken (lowest_holder w table) w table
unfolding insert_table
insert_table-example w table = refl

-- One table

-- a table without triangles; next to each side outside, and far away: 7
insert-nowhere-example :
    insert_table p []
    ∷ map (λ w. insert_table w (q ∷ t ∷ tri b a d ∷ [])) (at 36 40 ∷ at 14 35 ∷ at 90 30 ∷ at 65535 65535 ∷ at 65536 65536 ∷ [])
    ≡ replicate 6 (refused NoHolder)
unfolding evaluate
insert-nowhere-example = refl

-- at each corner, t in each rotation: 14
insert-corner-example :
    map (λ u. map (λ w. insert_table w (q ∷ u ∷ s ∷ [])) (a ∷ b ∷ c ∷ [])) (rotations t) ≡ replicate 3 (replicate 3 (refused AtCorner))
unfolding evaluate
insert-corner-example = refl

-- inside, next to each side, and t in another rotation
insert-inside-example :
    map (λ w. insert_table w (q ∷ t ∷ s ∷ [])) (z ∷ at 34 40 ∷ at 16 35 ∷ []) ++ (insert_table z (q ∷ tri b c a ∷ s ∷ []) ∷ [])
    ≡ map (λ w. done (q ∷ tri a b w ∷ s ∷ tri b c w ∷ tri c a w ∷ [])) (z ∷ at 34 40 ∷ at 16 35 ∷ [])
    ++ (done (q ∷ tri b c z ∷ s ∷ tri c a z ∷ tri a b z ∷ []) ∷ [])
unfolding evaluate
insert-inside-example = refl

-- on each side, next to its ends too: (14,11) and (46,19) on ab, (47,24) on bc, (11,15) on ca
insert-sides-example :
    map (λ w. insert_table w (q ∷ t ∷ s ∷ [])) (p ∷ at 14 11 ∷ at 46 19 ∷ at 35 40 ∷ at 47 24 ∷ at 15 35 ∷ at 11 15 ∷ [])
    ≡ map (λ w. done (q ∷ tri a w c ∷ s ∷ tri w b c ∷ [])) (p ∷ at 14 11 ∷ at 46 19 ∷ [])
    ++ map (λ w. done (q ∷ tri b w a ∷ s ∷ tri w c a ∷ [])) (at 35 40 ∷ at 47 24 ∷ [])
    ++ map (λ w. done (q ∷ tri c w b ∷ s ∷ tri w a b ∷ [])) (at 15 35 ∷ at 11 15 ∷ [])
unfolding evaluate
insert-sides-example = refl

-- t in each rotation, and its neighbour in each; where the neighbour has the lower number it is the triangle taken, and t its neighbour
insert-rotations-example :
    map (λ u. insert_table p (q ∷ u ∷ tri a d b ∷ [])) (rotations t)
    ++ map (λ u. insert_table p (q ∷ tri c a b ∷ u ∷ [])) (rotations (tri b a d))
    ++ map (λ u. insert_table p (u ∷ tri b c a ∷ q ∷ [])) (rotations (tri b a d))
    ≡ replicate 6 (done (q ∷ tri a p c ∷ tri b p d ∷ tri p b c ∷ tri p a d ∷ []))
    ++ replicate 3 (done (tri b p d ∷ tri a p c ∷ q ∷ tri p a d ∷ tri p b c ∷ []))
unfolding evaluate
insert-rotations-example = refl

-- the lowest that holds the point is taken, wherever it has it: its corner where a higher one has it inside or on a side is 14, its side
-- where a higher one has it inside or as a corner is split; and the other way
insert-lowest-example :
    map (λ w. insert_table w (t ∷ wide ∷ [])) (a ∷ p ∷ z ∷ [])
    ++ map (λ w. insert_table w (wide ∷ t ∷ [])) (a ∷ p ∷ z ∷ [])
    ++ map (λ table. insert_table p table) ((tri b p d ∷ t ∷ []) ∷ (t ∷ tri b p d ∷ []) ∷ [])
    ≡ refused AtCorner
    ∷ done (tri a p c ∷ wide ∷ tri p b c ∷ [])
    ∷ done (tri a b z ∷ wide ∷ tri b c z ∷ tri c a z ∷ [])
    ∷ map (λ w. done (tri (at 1 2) (at 120 4) w ∷ t ∷ tri (at 120 4) (at 3 130) w ∷ tri (at 3 130) (at 1 2) w ∷ [])) (a ∷ p ∷ z ∷ [])
    ++ (refused AtCorner ∷ done (tri a p c ∷ tri b p d ∷ tri p b c ∷ []) ∷ [])
unfolding evaluate
insert-lowest-example = refl

-- copies of t and a triangle on its side in the same direction stay; so do a second and a third triangle on b, a
insert-copies-example :
    insert_table z (q ∷ t ∷ t ∷ tri b c a ∷ [])
    ∷ insert_table p (q ∷ t ∷ t ∷ tri b c a ∷ tri a b (at 21 62) ∷ [])
    ∷ insert_table p (t ∷ q ∷ tri a d b ∷ tri b a (at 41 2) ∷ t ∷ tri b a d ∷ [])
    ∷ insert_table p (t ∷ t ∷ tri b a (at 41 2) ∷ tri b a d ∷ q ∷ [])
    ∷ []
    ≡ done (q ∷ tri a b z ∷ t ∷ tri b c a ∷ tri b c z ∷ tri c a z ∷ [])
    ∷ done (q ∷ tri a p c ∷ t ∷ tri b c a ∷ tri a b (at 21 62) ∷ tri p b c ∷ [])
    ∷ done (tri a p c ∷ q ∷ tri b p d ∷ tri b a (at 41 2) ∷ t ∷ tri b a d ∷ tri p b c ∷ tri p a d ∷ [])
    ∷ done (tri a p c ∷ t ∷ tri b p (at 41 2) ∷ tri b a d ∷ q ∷ tri p b c ∷ tri p a (at 41 2) ∷ [])
    ∷ []
unfolding evaluate
insert-copies-example = refl

-- triangles of which p is on a longer side, on a shorter one, or a corner: two that meet at x, two that meet at p; all stay
insert-junction-example :
    insert_table p (t ∷ tri (at 90 30) a d ∷ tri b x d ∷ tri x a d ∷ tri b p d ∷ tri p a d ∷ [])
    ≡ done (tri a p c ∷ tri (at 90 30) a d ∷ tri b x d ∷ tri x a d ∷ tri b p d ∷ tri p a d ∷ tri p b c ∷ [])
unfolding evaluate
insert-junction-example = refl

-- the other way: of the two that meet at x the one that has p is taken, and is split on its side alone
insert-shorter-example : insert_table p (tri b x d ∷ tri x a d ∷ t ∷ []) ≡ done (tri b x d ∷ tri x p d ∷ t ∷ tri p a d ∷ [])
unfolding evaluate
insert-shorter-example = refl

-- Refusals in their order

-- 512 copies of t: 14 at each corner, 10 inside and on a side, 7 outside
insert-order-example :
    map (λ w. insert_table w (replicate 512 t)) (a ∷ b ∷ c ∷ z ∷ p ∷ o ∷ [])
    ≡ refused AtCorner ∷ refused AtCorner ∷ refused AtCorner ∷ refused TableFull ∷ refused TableFull ∷ refused NoHolder ∷ []
unfolding evaluate
insert-order-example = refl

-- 511 triangles: on a side alone it is accepted, with a neighbour it is 10, and so it is inside; a corner is 14
insert-full-example :
    map (λ w. insert_table w (t ∷ replicate 510 q)) (p ∷ z ∷ a ∷ [])
    ++ map (λ table. insert_table p table) ((t ∷ replicate 509 q ++ (tri b a d ∷ [])) ∷ (tri b a d ∷ replicate 509 q ++ (t ∷ [])) ∷ [])
    ≡ done (tri a p c ∷ replicate 510 q ++ (tri p b c ∷ []))
    ∷ refused TableFull
    ∷ refused AtCorner
    ∷ refused TableFull
    ∷ refused TableFull
    ∷ []
unfolding evaluate
insert-full-example = refl

-- 510 triangles: inside, and on a side with a neighbour, there are 512 after it, the new ones in their order
insert-last-example :
    insert_table z (t ∷ replicate 509 q) ∷ insert_table p (t ∷ replicate 508 q ++ (tri b a d ∷ [])) ∷ []
    ≡ done (tri a b z ∷ replicate 509 q ++ (tri b c z ∷ tri c a z ∷ []))
    ∷ done (tri a p c ∷ replicate 508 q ++ (tri b p d ∷ tri p b c ∷ tri p a d ∷ []))
    ∷ []
unfolding evaluate
insert-last-example = refl

-- Numbers up to 65,535

-- U and V of document 01, with a side in common
abbrev oo : Point
oo = at 0 0

abbrev ox : Point
ox = at 65535 0

abbrev oy : Point
oy = at 0 65535

abbrev xy : Point
xy = at 65535 65535

abbrev Ut : Triangle
Ut = tri oo ox oy

abbrev Vt : Triangle
Vt = tri xy oy ox

-- "In case 9 the point (32768,32767) is now accepted, as a side split of U"
insert-U-example : map (λ w. insert_table w (Ut ∷ [])) (at 32768 32767 ∷ at 10000 10000 ∷ at 32768 32768 ∷ [])
    ≡ done (tri ox (at 32768 32767) oo ∷ tri (at 32768 32767) oy oo ∷ [])
    ∷ done (tri oo ox (at 10000 10000) ∷ tri ox oy (at 10000 10000) ∷ tri oy oo (at 10000 10000) ∷ [])
    ∷ refused NoHolder
    ∷ []
unfolding evaluate
insert-U-example = refl

-- on the side that they share, U first and V first: the one that is taken has its new triangle appended first
insert-UV-example : map (λ table. insert_table (at 32768 32767) table) ((Ut ∷ Vt ∷ []) ∷ (Vt ∷ Ut ∷ []) ∷ [])
    ≡ done (tri ox (at 32768 32767) oo ∷ tri oy (at 32768 32767) xy ∷ tri (at 32768 32767) oy oo ∷ tri (at 32768 32767) ox xy ∷ [])
    ∷ done (tri oy (at 32768 32767) xy ∷ tri ox (at 32768 32767) oo ∷ tri (at 32768 32767) ox xy ∷ tri (at 32768 32767) oy oo ∷ [])
    ∷ []
unfolding evaluate
insert-UV-example = refl

-- next to the side on either side; on the sides that each has alone; at the corners, of which U has two of V's
insert-UV-sides-example :
    map (λ w. insert_table w (Ut ∷ Vt ∷ []))
    (at 32767 32767 ∷ at 32768 32768 ∷ at 65534 0 ∷ at 0 7 ∷ at 7 65535 ∷ at 65535 65534 ∷ oo ∷ ox ∷ oy ∷ xy ∷ [])
    ≡ done (tri oo ox (at 32767 32767) ∷ Vt ∷ tri ox oy (at 32767 32767) ∷ tri oy oo (at 32767 32767) ∷ [])
    ∷ done (Ut ∷ tri xy oy (at 32768 32768) ∷ tri oy ox (at 32768 32768) ∷ tri ox xy (at 32768 32768) ∷ [])
    ∷ done (tri oo (at 65534 0) oy ∷ Vt ∷ tri (at 65534 0) ox oy ∷ [])
    ∷ done (tri oy (at 0 7) ox ∷ Vt ∷ tri (at 0 7) oo ox ∷ [])
    ∷ done (Ut ∷ tri xy (at 7 65535) ox ∷ tri (at 7 65535) oy ox ∷ [])
    ∷ done (Ut ∷ tri ox (at 65535 65534) oy ∷ tri (at 65535 65534) xy oy ∷ [])
    ∷ replicate 4 (refused AtCorner)
unfolding evaluate
insert-UV-sides-example = refl

-- a steep side from (65535,3) to (65529,65535), with points of the grid on it at every sixth part
abbrev ea : Point
ea = at 65535 3

abbrev eb : Point
eb = at 65529 65535

abbrev ec : Point
ec = at 2 65534

abbrev ep : Point
ep = at 65534 10925

insert-steep-example :
    map (λ w. insert_table w (q ∷ tri ec ea eb ∷ tri xy eb ea ∷ [])) (ep ∷ at 65534 10924 ∷ at 65534 10926 ∷ [])
    ++ (insert_table ep (tri xy eb ea ∷ q ∷ tri ec ea eb ∷ []) ∷ [])
    ≡ done (q ∷ tri ea ep ec ∷ tri eb ep xy ∷ tri ep eb ec ∷ tri ep ea xy ∷ [])
    ∷ done (q ∷ tri ec ea (at 65534 10924) ∷ tri xy eb ea ∷ tri ea eb (at 65534 10924) ∷ tri eb ec (at 65534 10924) ∷ [])
    ∷ done (q ∷ tri ec ea eb ∷ tri xy eb (at 65534 10926) ∷ tri eb ea (at 65534 10926) ∷ tri ea xy (at 65534 10926) ∷ [])
    ∷ done (tri eb ep xy ∷ q ∷ tri ea ep ec ∷ tri ep ea xy ∷ tri ep eb ec ∷ [])
    ∷ []
unfolding evaluate
insert-steep-example = refl

-- Events

-- the event is the insert, and its new table has its entries counted
proposed-insert-example : (table : Table) → proposed (insert p) table ∷ counted (insert p) table ∷ []
    ≡ insert_table p table ∷ limited (length (entries_of table)) table ∷ []
unfolding evaluate
proposed-insert-example table = refl

event_on-insert-example : map (λ w. event_on (insert w) (t ∷ tri b a d ∷ [])) (z ∷ p ∷ c ∷ at 14 35 ∷ [])
    ≡ done (tri a b z ∷ tri b a d ∷ tri b c z ∷ tri c a z ∷ [])
    ∷ done (tri a p c ∷ tri b p d ∷ tri p b c ∷ tri p a d ∷ [])
    ∷ refused AtCorner
    ∷ refused NoHolder
    ∷ []
unfolding evaluate
event_on-insert-example = refl

-- 14 and 10 before 11: its entries are not counted
event_on-full-example : map (λ w. event_on (insert w) (replicate 512 t)) (c ∷ z ∷ p ∷ []) ≡ refused AtCorner ∷ refused TableFull ∷ refused TableFull ∷ []
unfolding evaluate
event_on-full-example = refl

-- all four, refused ones among them: a vertex put on the side and a flip leave three triangles around it, and it is taken out
abbrev loaded : List ℕ
unfolding evaluate
loaded = table_numbers (t ∷ tri b a d ∷ [])

four-events-example :
    map (λ es. plain_table (load loaded ∷ es))
    ((insert p ∷ take_out p ∷ insert b ∷ [])
    ∷ (insert p ∷ flip 1 2 ∷ insert p ∷ [])
    ∷ (insert p ∷ flip 1 2 ∷ take_out p ∷ insert (at 37 28) ∷ insert (at 37 28) ∷ [])
    ∷ (insert p ∷ insert (at 28 24) ∷ insert o ∷ [])
    ∷ (insert z ∷ insert (at 14 35) ∷ take_out z ∷ flip 0 2 ∷ load (1 ∷ []) ∷ [])
    ∷ [])
    ≡ (tri a p c ∷ tri b p d ∷ tri p b c ∷ tri p a d ∷ [])
    ∷ (tri a p c ∷ tri b c d ∷ tri c p d ∷ tri p a d ∷ [])
    ∷ (tri c a d ∷ tri b c (at 37 28) ∷ tri c d (at 37 28) ∷ tri d b (at 37 28) ∷ [])
    ∷ (tri p (at 28 24) a ∷ tri b p d ∷ tri c (at 28 24) b ∷ tri p a o ∷ tri (at 28 24) c a ∷ tri (at 28 24) p b ∷ tri a d o ∷ tri d p o ∷ [])
    ∷ (t ∷ tri b a d ∷ [])
    ∷ []
unfolding evaluate
four-events-example = refl
