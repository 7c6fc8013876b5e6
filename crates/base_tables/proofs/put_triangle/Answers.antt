use Prim.Native.Nat.{◌*◌}
use native.Mathlib.Numerals.{add-two, add-four}
use Rattle.spec_plane.specs.Triangle.{triangle_of, corner_at}
use Rattle.spec_charts.specs.Table.{numbers_per_triangle, triangle_numbers}
use Rattle.base_tables.proofs.put_triangle.Goals as goal

pub returns : goal.returns
unfolding triangle_numbers triangle_of corner_at
returns c =
    let k = numbers_per_triangle * c.args.i in cc (add-two k, add-four k)
