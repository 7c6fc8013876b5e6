-- Examples of Edits.antt, take-out, flip and the events: every rotation of the triangles, every order, every refusal alone.
-- Assumes nothing.
use mathlib.Core.Path.{◌≡◌, refl}
use mathlib.Core.List.{List, [], ◌∷◌, ◌++◌, map, flat_map}
use Prim.Native.Nat.{ℕ}
use lib.ListN.{replicate}
use Rattle.spec_plane.specs.Triangle.{Triangle}
use Rattle.spec_charts.specs.Table.{Table, table_numbers}
use Rattle.spec_charts.specs.declared.Refusal.TheVariants.{NoSuchTriangle, NotThreeAround, NoFlip}
use Rattle.spec_charts.specs.Refusals.{refused, done}
use Rattle.spec_charts.specs.Edits.{rotations, take_out_table, flip_table, insert_table, load, insert, take_out, flip, proposed, plain_table}
use Rattle.spec_charts.proofs.Evaluate.{evaluate}
use Rattle.spec_charts.proofs.Written.{at}
use Rattle.spec_charts.proofs.EditExamples.{pa, pb, pc, pd, pp, tri}

-- triangles that have no corner pp, though one x and one y of it
abbrev q : Triangle
q = tri (at 30 1) (at 90 1) (at 60 80)

abbrev r : Triangle
r = tri (at 1 33) (at 90 2) (at 60 81)

abbrev s : Triangle
s = tri (at 2 3) (at 91 2) (at 61 82)

-- Take out

-- three triangles at places 1, 2 and 4 of a table, in all their rotations
abbrev placed : Triangle → Triangle → Triangle → List Table
unfolding evaluate
placed t u v =
    flat_map
    (λ x. flat_map (λ y. map (λ z. q ∷ x ∷ y ∷ r ∷ z ∷ s ∷ []) (rotations v)) (rotations u))
    (rotations t)

-- the point at each corner of each triangle, the others in either order
take_out-rotations-example :
    map (λ t. take_out_table pp t) (placed (tri pa pb pp) (tri pb pc pp) (tri pc pa pp) ++ placed (tri pa pb pp) (tri pc pa pp) (tri pb pc pp))
    ≡ replicate 54 (done (q ∷ tri pa pb pc ∷ r ∷ s ∷ []))
unfolding evaluate
take_out-rotations-example = refl

-- the lowest place fixes the rotation of the answer
take_out-lowest-example :
    take_out_table pp (tri pb pc pp ∷ tri pc pa pp ∷ tri pa pb pp ∷ [])
    ∷ take_out_table pp (q ∷ tri pp pc pa ∷ r ∷ tri pb pp pa ∷ tri pb pc pp ∷ s ∷ [])
    ∷ []
    ≡ done (tri pb pc pa ∷ []) ∷ done (q ∷ tri pc pa pb ∷ r ∷ s ∷ []) ∷ []
unfolding evaluate
take_out-lowest-example = refl

-- 0, 1, 2 and 4 triangles at the point; three of which one is turned over, or has another corner
take_out-eight-example :
    map (λ t. take_out_table pp t)
    ((q ∷ r ∷ [])
    ∷ (q ∷ tri pa pb pp ∷ [])
    ∷ (q ∷ tri pa pb pp ∷ tri pb pc pp ∷ [])
    ∷ (tri pa pb pp ∷ tri pb pc pp ∷ tri pc pa pp ∷ tri pc pa pp ∷ [])
    ∷ (tri pa pb pp ∷ tri pb pc pp ∷ tri pa pc pp ∷ [])
    ∷ (tri pa pb pp ∷ tri pd pc pp ∷ tri pc pa pp ∷ [])
    ∷ (tri pa pb pp ∷ tri pb pc pp ∷ tri pc pd pp ∷ [])
    ∷ (tri pa pb pp ∷ tri pb pd pp ∷ tri pc pa pp ∷ [])
    ∷ (tri pa pb pp ∷ tri pc pd pp ∷ tri pb pc pp ∷ [])
    ∷ [])
    ≡ replicate 9 (refused NotThreeAround)
unfolding evaluate
take_out-eight-example = refl

-- Flip

-- (a,b,c) at place 1 and (b,a,d) at place 2, in all their rotations
abbrev sharing : List Table
unfolding evaluate
sharing = flat_map (λ x. map (λ y. q ∷ x ∷ y ∷ []) (rotations (tri pb pa pd))) (rotations (tri pa pb pc))

flip-rotations-example : map (λ t. flip_table 1 2 t) sharing ≡ replicate 9 (done (q ∷ tri pa pd pc ∷ tri pd pb pc ∷ []))
unfolding evaluate
flip-rotations-example = refl

-- the other way: i is (b,a,d) and j is (a,b,c)
flip-back-example : map (λ t. flip_table 2 1 t) sharing ≡ replicate 9 (done (q ∷ tri pc pa pd ∷ tri pb pc pd ∷ []))
unfolding evaluate
flip-back-example = refl

-- the same direction, no shared side, itself; a number that is the length, first and second
flip-nine-example :
    flip_table 0 1 (tri pa pb pc ∷ tri pa pb pd ∷ [])
    ∷ flip_table 0 1 (tri pa pb pc ∷ tri pb pd pp ∷ [])
    ∷ flip_table 1 1 (tri pa pb pc ∷ tri pb pa pd ∷ [])
    ∷ flip_table 2 1 (tri pa pb pc ∷ tri pb pa pd ∷ [])
    ∷ flip_table 0 2 (tri pa pb pc ∷ tri pb pa pd ∷ [])
    ∷ flip_table 3 3 (tri pa pb pc ∷ tri pb pa pd ∷ [])
    ∷ []
    ≡ refused NoFlip
    ∷ refused NoFlip
    ∷ refused NoFlip
    ∷ refused NoSuchTriangle
    ∷ refused NoSuchTriangle
    ∷ refused NoSuchTriangle
    ∷ []
unfolding evaluate
flip-nine-example = refl

-- Events

-- the event says which edit
proposed-example : (t : Table)
    → map (λ e. proposed e t) (insert pp ∷ take_out pp ∷ flip 3 5 ∷ []) ≡ insert_table pp t ∷ take_out_table pp t ∷ flip_table 3 5 t ∷ []
unfolding evaluate
proposed-example t = refl

-- accepted one after another, a refused one among them: load, flip, insert, a take-out of another point; then the point inserted
-- is taken out; then a load in place of it all
abbrev loaded : List ℕ
unfolding evaluate
loaded = table_numbers (tri pa pb pc ∷ tri pb pa pd ∷ [])

accepted-example :
    plain_table (load loaded ∷ flip 0 1 ∷ insert (at 35 30) ∷ take_out pa ∷ [])
    ∷ plain_table (load loaded ∷ flip 0 1 ∷ insert (at 35 30) ∷ take_out (at 35 30) ∷ flip 1 0 ∷ [])
    ∷ plain_table (load loaded ∷ flip 0 1 ∷ load (31 ∷ 70 ∷ 10 ∷ 20 ∷ 50 ∷ 11 ∷ []) ∷ load (1 ∷ []) ∷ [])
    ∷ []
    ≡ (tri pa pd pc ∷ tri pd pb (at 35 30) ∷ tri pb pc (at 35 30) ∷ tri pc pd (at 35 30) ∷ [])
    ∷ (tri pa pd pb ∷ tri pc pa pb ∷ [])
    ∷ (tri pc pa pb ∷ [])
    ∷ []
unfolding evaluate
accepted-example = refl
