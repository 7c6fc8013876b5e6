use mathlib.Core.Path.{refl}
use lib.Bits.{or_lt}
use Rattle.base_interiors.proofs.corners.joined.Goals as goal

pub returns : goal.returns
returns c =
    let h = c.requires in
    record { at = refl; below = or_lt 41 _ _ (or_lt 41 _ _ h.a h.b) h.c }
