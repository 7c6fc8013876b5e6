use Rattle.spec_plane.specs.Triangle.{rotated, corner_at}
use Rattle.base_geometry.proofs.Widths.{mod-add}
use Rattle.base_geometry.proofs.geometry.rotated.Goals as goal

pub returns : goal.returns
unfolding rotated corner_at
returns c =
    let t = c.args.t in
    let i = c.args.i in
    rw (mod-add i 1, mod-add i 2)
