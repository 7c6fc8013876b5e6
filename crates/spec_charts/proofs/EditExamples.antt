-- Examples of Edits.antt, the parts: what each step of a load, a take-out and a flip makes of its arguments, and what an event is.
-- Assumes nothing.
use mathlib.Core.Path.{◌≡◌, refl}
use mathlib.Core.Bool.{true, false}
use mathlib.Core.List.{[], ◌∷◌, map}
use mathlib.Core.Option.{none, some}
use lib.ListN.{length}
use Rattle.spec_plane.specs.declared.Point.{Point}
use Rattle.spec_plane.specs.Triangle.{Triangle}
use Rattle.spec_charts.specs.Table.{Table}
use Rattle.spec_charts.specs.Cells.{entries_of}
use Rattle.spec_charts.specs.declared.Refusal.TheVariants.{FaultyTriangle, NotThreeAround, NoFlip}
use Rattle.spec_charts.specs.Refusals.{Outcome, refused, done, and_then, done_or}
use Rattle.spec_charts.specs.Edits.{triangle, rotations, faulty, refuse_faulty, given_table, load_table, has_corner, ending_in, closes_round, merge_around, merge_three, take_out_three, shares_side, flip_as, flip_with, flip_among, Event, load, insert, take_out, flip, sixteen_bit_event, proposed, limited, event_on, after_events}
use Rattle.spec_charts.proofs.Evaluate.{evaluate}
use Rattle.spec_charts.proofs.Written.{at}

-- points, no two with the same x or y
abbrev pub pa : Point
pa = at 10 20

abbrev pub pb : Point
pb = at 50 11

abbrev pub pc : Point
pc = at 31 70

abbrev pub pd : Point
pd = at 24 3

abbrev pub pp : Point
pp = at 30 33

-- a triangle by its corners
abbrev pub tri : Point → Point → Point → Triangle
tri a b c = record { a = a; b = b; c = c }

corners-example : (a b c : Point) → triangle a b c ≡ tri a b c
unfolding evaluate
corners-example a b c = refl

rotations-example : (a b c : Point) → rotations (tri a b c) ≡ tri a b c ∷ tri b c a ∷ tri c a b ∷ []
unfolding evaluate
rotations-example a b c = refl

-- Load

-- D > 0, D = 0, D > 0, D < 0
faulty-example : faulty (tri pa pb pc ∷ tri pa pb pb ∷ tri pc pa pb ∷ tri pb pa pc ∷ []) ≡ 1 ∷ 3 ∷ []
unfolding evaluate
faulty-example = refl

refuse-faulty-example : (t : Table) → refuse_faulty [] t ∷ refuse_faulty (4 ∷ 2 ∷ []) t ∷ [] ≡ done t ∷ refused (FaultyTriangle 4) ∷ []
unfolding evaluate
refuse-faulty-example t = refl

-- a last part of fewer than six numbers is no triangle
given_table-example : given_table (1 ∷ 2 ∷ 3 ∷ 4 ∷ 5 ∷ 6 ∷ 7 ∷ 8 ∷ 9 ∷ 10 ∷ 11 ∷ 12 ∷ 13 ∷ []) ≡ tri (at 1 2) (at 3 4) (at 5 6) ∷ tri (at 7 8) (at 9 10) (at 11 12) ∷ []
unfolding evaluate
given_table-example = refl

load_table-example : map (λ ns. load_table ns) ([] ∷ (10 ∷ 20 ∷ 50 ∷ 11 ∷ 31 ∷ 70 ∷ []) ∷ (10 ∷ 20 ∷ 50 ∷ 11 ∷ 31 ∷ 70 ∷ 31 ∷ 70 ∷ 10 ∷ 20 ∷ 50 ∷ 11 ∷ []) ∷ [])
    ≡ done [] ∷ done (tri pa pb pc ∷ []) ∷ done (tri pa pb pc ∷ tri pc pa pb ∷ []) ∷ []
unfolding evaluate
load_table-example = refl

-- Take out

-- at a, at b, at c, at none
has_corner-example : map (λ t. has_corner pp t) (tri pp pb pc ∷ tri pa pp pc ∷ tri pa pb pp ∷ tri pa pb pc ∷ []) ≡ true ∷ true ∷ true ∷ false ∷ []
unfolding evaluate
has_corner-example = refl

-- at c, at b, at a; c counts before b, and b before a
ending_in-example :
    map (λ t. ending_in pp t) (tri pa pb pp ∷ tri pa pp pc ∷ tri pp pb pc ∷ tri pa pp pp ∷ tri pp pp pc ∷ [])
    ≡ tri pa pb pp ∷ tri pc pa pp ∷ tri pb pc pp ∷ tri pa pp pp ∷ tri pc pp pp ∷ []
unfolding evaluate
ending_in-example = refl

-- (a,b,p) with (b,c,p) and (c,a,p), then each of the three meetings broken alone, and the other order
closes_round-example :
    closes_round (tri pa pb pp) (tri pb pc pp) (tri pc pa pp)
    ∷ closes_round (tri pa pb pp) (tri pd pc pp) (tri pc pa pp)
    ∷ closes_round (tri pa pb pp) (tri pb pc pp) (tri pc pd pp)
    ∷ closes_round (tri pa pb pp) (tri pb pd pp) (tri pc pa pp)
    ∷ closes_round (tri pa pb pp) (tri pc pa pp) (tri pb pc pp)
    ∷ []
    ≡ true ∷ false ∷ false ∷ false ∷ false ∷ []
unfolding evaluate
closes_round-example = refl

-- the place 1 gets t; 2 and 4 go
merge_around-example : (q r s u v w t : Triangle) → merge_around (q ∷ r ∷ s ∷ u ∷ v ∷ w ∷ []) 1 2 4 t ≡ q ∷ t ∷ u ∷ w ∷ []
unfolding evaluate
merge_around-example q r s u v w t = refl

-- the others in either order, and others that do not fit
merge_three-example : (q r s u v w : Triangle)
    → merge_three (q ∷ r ∷ s ∷ u ∷ v ∷ w ∷ []) 1 2 4 (tri pa pb pp) (tri pb pc pp) (tri pc pa pp)
    ∷ merge_three (q ∷ r ∷ s ∷ u ∷ v ∷ w ∷ []) 1 2 4 (tri pa pb pp) (tri pc pa pp) (tri pb pc pp)
    ∷ merge_three (q ∷ r ∷ s ∷ u ∷ v ∷ w ∷ []) 1 2 4 (tri pa pb pp) (tri pc pa pp) (tri pb pd pp)
    ∷ []
    ≡ done (q ∷ tri pa pb pc ∷ u ∷ w ∷ []) ∷ done (q ∷ tri pa pb pc ∷ u ∷ w ∷ []) ∷ refused NotThreeAround ∷ []
unfolding evaluate
merge_three-example q r s u v w = refl

-- 0, 1, 2, 3 and 4 triangles with the corner
abbrev around : Table
around = tri pd pb pc ∷ tri pp pa pb ∷ tri pb pc pp ∷ tri pd pc pb ∷ tri pa pp pc ∷ tri pd pa pc ∷ []

take_out_three-example : map (λ is. take_out_three pp around is) ([] ∷ (1 ∷ []) ∷ (1 ∷ 2 ∷ []) ∷ (1 ∷ 2 ∷ 4 ∷ []) ∷ (1 ∷ 2 ∷ 4 ∷ 5 ∷ []) ∷ [])
    ≡ refused NotThreeAround
    ∷ refused NotThreeAround
    ∷ refused NotThreeAround
    ∷ done (tri pd pb pc ∷ tri pa pb pc ∷ tri pd pc pb ∷ tri pd pa pc ∷ [])
    ∷ refused NotThreeAround
    ∷ []
unfolding evaluate
take_out_three-example = refl

-- Flip

-- (a,b,c) with (b,a,d), then each end broken alone, and the side in the same direction
shares_side-example :
    map (λ u. shares_side (tri pa pb pc) u) (tri pb pa pd ∷ tri pb pp pd ∷ tri pp pa pd ∷ tri pa pb pd ∷ []) ≡ true ∷ false ∷ false ∷ false ∷ []
unfolding evaluate
shares_side-example = refl

-- places 2 and 0 get (a,d,c) and (d,b,c)
flip_as-example : (q r s u : Triangle)
    → flip_as (q ∷ r ∷ s ∷ u ∷ []) 2 0 (tri pa pb pc) (tri pb pa pd) ≡ done (tri pd pb pc ∷ r ∷ tri pa pd pc ∷ u ∷ [])
unfolding evaluate
flip_as-example q r s u = refl

-- with a = (10,10), b = (50,10), c = (20,40): d straight on from c through a, past it, straight on through b, past it, and
-- between: the first new D is 0, below 0, the second is 0, below 0, and both are above 0
flip_as-refused-example :
    map (λ d. flip_as [] 0 0 (tri (at 10 10) (at 50 10) (at 20 40)) (tri (at 50 10) (at 10 10) d))
    (at 8 4 ∷ at 7 4 ∷ at 55 5 ∷ at 56 5 ∷ at 9 4 ∷ at 54 5 ∷ [])
    ≡ refused NoFlip ∷ refused NoFlip ∷ refused NoFlip ∷ refused NoFlip ∷ done [] ∷ done [] ∷ []
unfolding evaluate
flip_as-refused-example = refl

-- the one found is flipped, else the other outcome stands
flip_with-example : (table : Table) (t u : Triangle) (other : Outcome Table)
    → flip_with table 3 5 t none other ∷ flip_with table 3 5 t (some u) other ∷ [] ≡ other ∷ flip_as table 3 5 t u ∷ []
unfolding evaluate
flip_with-example table t u other = refl

-- of three rotations the second fits, of the other three the third
flip_among-example : (q r s : Triangle)
    → flip_among (q ∷ r ∷ s ∷ []) 2 1 (rotations (tri pa pd pb)) (rotations (tri pc pa pb))
    ∷ flip_among (q ∷ r ∷ s ∷ []) 2 1 (rotations (tri pa pb pd)) (rotations (tri pc pa pb))
    ∷ []
    ≡ done (q ∷ tri pd pb pc ∷ tri pa pd pc ∷ []) ∷ refused NoFlip ∷ []
unfolding evaluate
flip_among-example q r s = refl

-- Events

-- only a load's numbers have a range
sixteen-bit-event-example :
    map (λ e. sixteen_bit_event e)
    (load (0 ∷ 65535 ∷ []) ∷ load (0 ∷ 65536 ∷ []) ∷ insert (at 65536 65536) ∷ take_out (at 65536 65536) ∷ flip 65536 65536 ∷ [])
    ≡ true ∷ false ∷ true ∷ true ∷ true ∷ []
unfolding evaluate
sixteen-bit-event-example = refl

-- 11 is judged of every event, by the entries of the table that it would make
limit-example : (e : Event) (table : Table) → event_on e table ≡ and_then (proposed e table) (λ t. limited (length (entries_of t)) t)
unfolding evaluate
limit-example (load ns) table = refl
limit-example (insert p) table = refl
limit-example (take_out p) table = refl
limit-example (flip i j) table = refl

-- a refused event leaves the table, an accepted one makes its own; the next goes on from there
after-example : (e f : Event) (table : Table)
    → after_events (e ∷ f ∷ []) table
    ≡ done_or (done_or table (event_on e table)) (event_on f (done_or table (event_on e table)))
unfolding evaluate
after-example e f table = refl
