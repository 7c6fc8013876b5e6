-- One less than the keys of the square.
use mathlib.Core.Path.{◌∙◌, ap}
use Prim.Native.Nat.{◌+◌, ◌-◌}
use Rattle.chart_links.proofs.MaskLaws.{span-less}
use Rattle.chart_links.proofs.low_bits.Goals as goal

pub returns : goal.returns
returns c =
    ap (λ x. 4294967295 - x + 1) c.unwrap_or.ensures
    ∙ span-less c.args.level c.checked_shl.result c.requires (rw c.from.ensures at c.checked_shl.ensures)
