-- An insert or take-out that is accepted has its point on the grid: one at another point changes nothing.
-- The idea: a triangle holds the point that is inserted, and one that is taken out is a corner.
-- Assumes nothing.
use mathlib.Core.Path.{◌≡◌, refl, subst}
use lib.Dec.{T}
use Rattle.spec_plane.specs.declared.Point.{Point}
use Rattle.spec_plane.specs.Triangle.{Triangle}
use Rattle.spec_plane.proofs.ExtremeLaws.{OnGrid, CornersOnGrid}
use Rattle.spec_charts.specs.Table.{Table, IsTable, numbered}
use Rattle.spec_charts.specs.Refusals.{Outcome, refused, done, done_or}
use Rattle.spec_charts.specs.Edits.{Event, load, insert, take_out, flip, triangle, has_corner, ending_in, proposed, event_on, after_event}
use Rattle.laws_charts.proofs.RotationLaws.{rotations-every, ending_in-rotation}
use Rattle.laws_charts.proofs.GridLaws.{IsTriangle, table-proper, numbered-triangle}
use Rattle.laws_charts.proofs.EditLaws.{take_out-done}
use Rattle.laws_charts.proofs.InsertLaws.{insert-done}
use Rattle.laws_charts.proofs.EventTable.{insert-point, event-proposed}

-- the point of an insert or take-out is on the grid
abbrev pub PointOnGrid : Event → Type 0
PointOnGrid (load ns) = Unit {0}
PointOnGrid (insert p) = OnGrid p
PointOnGrid (take_out p) = OnGrid p
PointOnGrid (flip i j) = Unit {0}

-- a corner of a triangle on the grid is on the grid
corner-grid : (p : Point) (t : Triangle) → IsTriangle t → T (has_corner p t) → OnGrid p
unfolding triangle
corner-grid p t h c =
    let e = ending_in-rotation p t c in
    let turned = rotations-every CornersOnGrid (λ p q r g. record { a = g.b; b = g.c; c = g.a }) t (record { a = h.a; b = h.b; c = h.c }) in
    subst OnGrid e.1 (turned (ending_in p t) e.0).c

module _ {table : Table} (h : IsTable table) where
  proposed-point : (e : Event) (next : Table) → proposed e table ≡ done next → PointOnGrid e
  unfolding proposed
  proposed-point (load ns) next d = tt
  proposed-point (insert p) next d = insert-point h p (insert-done p table next (table-proper h) d)
  proposed-point (take_out p) next d =
      let s = take_out-done p table next d in corner-grid p (numbered table s.k) (numbered-triangle h s.k s.below) s.corner_k
  proposed-point (flip i j) next d = tt

  -- an accepted event has its point on the grid
  pub event-point : (e : Event) (next : Table) → event_on e table ≡ done next → PointOnGrid e
  event-point e next d = proposed-point e next (event-proposed e table next d)

  -- so an event whose point is not changes nothing
  pub off-grid-stays : (e : Event) → (PointOnGrid e → ⊥) → after_event e table ≡ table
  unfolding after_event
  off-grid-stays e n = go (event_on e table) (λ next d. n (event-point e next d))
    where
      go : (o : Outcome Table) → ((next : Table) → o ≡ done next → ⊥) → done_or table o ≡ table
      go (refused r) f = refl
      go (done next) f = absurd (f next refl)
