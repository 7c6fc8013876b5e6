-- A point that is an end of every side is an end of the first side that meets: its two ends are the only points to try.
use Rattle.std.proofs.Common.{◌≡◌, ℕ, ◌+◌, ◌-◌, List, length, take, drop, sym, ap, ◌∙◌, arith, length-drop}
use Rattle.std.proofs.lemmas.List.{take_all}
use Rattle.theory_lists.specs.Masks.{mask_of}
use Rattle.spec_charts.specs.Cells.{common_end}
use Rattle.quadtree_shapes.specs.Shape.{frame_box}
use Rattle.quadtree_shapes.specs.Masks.{sides_met}
use Rattle.quadtree_stopping.proofs.EndLaws.{common-read}
use Rattle.quadtree_stopping.proofs.Shapes.common_end.Goals as goal

-- the candidates from k on
rest : (k : ℕ) (l : List ℕ) → take (length l - k) (drop k l) ≡ drop k l
rest k l = take_all (length l - k) (drop k l) (omega (arith, length-drop k l))

pub returns-in-Some : goal.returns-in-Some
returns-in-Some c =
    let v = c.args.self in
    let m = c.in-Some.ensures in
    let mask = m.mask ∙ ap (λ i. mask_of (sides_met v.shape.now v.offsets.now (frame_box c.args.f) i)) (sym c.from.ensures) in
    rw (rest (c.in-Some.met.at + 1) c.args.candidates.now) at c.either_end.ensures
    ∙ common-read c.args.candidates.now c.missed-x.result c.missed-y.result m.none m.place
    (record { number = c.from.ensures; mask = mask; triangle = c.corners_at-t.ensures }) m.some m.below c.start_of-p.ensures c.start_of-q.ensures
    c.missed-x.ensures c.missed-y.ensures

pub returns-in-None : goal.returns-in-None
unfolding common_end
returns-in-None c = sym (ap common_end c.in-None.ensures)
