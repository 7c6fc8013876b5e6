-- Points are the same when their coordinates are.
-- Assumes nothing.
use mathlib.Core.Path.{◌≡◌, ap}
use Rattle.theory_lists.proofs.Reflects.{Reflects, reflects-and, reflects-eqb}
use Rattle.spec_plane.specs.declared.Point.{Point}
use Rattle.spec_plane.specs.Point.{same_point}

pub same_point-reflects : (p q : Point) → Reflects (same_point p q) (p ≡ q)
unfolding same_point
same_point-reflects p q =
    let r = reflects-and (reflects-eqb p.x q.x) (reflects-eqb p.y q.y) in
    record {
      to = λ t. let h = r.to t in λ i. record { x = h.0 i; y = h.1 i };
      from = λ e. r.from (ap (λ s. s.x) e, ap (λ s. s.y) e);
    }
