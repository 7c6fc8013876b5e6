-- The second items become a set, which is joined into the row of each of the first.
use Rattle.overlay_marks.proofs.SetLaws.{parts-marked}
use Rattle.overlay_marks.proofs.mark_parts.Goals as goal

pub returns : goal.returns
returns c = parts-marked 9 c.insert_all.ensures c.join_all.ensures
