-- A word with one bit more, and every other word as it was.
use Rattle.overlay_marks.proofs.BitLaws.{inserted}
use Rattle.overlay_marks.proofs.bitsets.insert.Goals as goal

pub returns : goal.returns
returns c =
    inserted c.args.words.now c.args.k c.requires
