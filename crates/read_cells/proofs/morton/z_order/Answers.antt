-- The low bytes give the lower half of the key, the high bytes the upper half.
use Rattle.read_cells.proofs.SpreadLaws.{z_order-bytes}
use Rattle.read_cells.proofs.morton.z_order.Goals as goal

pub returns : goal.returns
returns c =
    rw (c.interleaved.ensures.0, c.interleaved-2.ensures.0, c.from-x.ensures, c.from-y.ensures)
    (z_order-bytes c.args.p)
