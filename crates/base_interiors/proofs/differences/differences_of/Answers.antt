use native.Mathlib.Omega.{arith}
use Rattle.spec_plane.specs.Triangle.{triangle_of, corner_at}
use Rattle.base_interiors.proofs.RaisedLaws.{offset-from, raised-from-start, area-raised}
use Rattle.base_interiors.proofs.differences.differences_of.Goals as goal

pub returns : goal.returns
unfolding triangle_of corner_at
returns c =
    let x = c.below-x in
    let y = c.below-y in
    let ab = c.side-ab in
    let ca = c.side-ca in
    let o = c.offset_by in
    let area = c.raised_at-area in
    let seen = offset-from x.result y.result x.ensures.0 y.ensures.0 o.ensures.0.0 o.ensures.0.1 in (
      record {
        x = x.ensures.0;
        y = y.ensures.0;
        ab = ab.ensures.0;
        ca = ca.ensures.0;
        third = area-raised (raised-from-start ab.ensures.0 seen area.ensures.0);
      },
      record {
        x = x.ensures.1;
        y = y.ensures.1;
        ab = ab.ensures.1;
        ca = ca.ensures.1;
        third = record { low = omega (arith, area.ensures.1.low); high = omega (arith, area.ensures.1.high) };
      },
    )
