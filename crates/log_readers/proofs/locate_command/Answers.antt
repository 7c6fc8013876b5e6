use Rattle.log_lines.proofs.LineLaws.{wrote_as}
use Rattle.log_readers.proofs.ReaderCommandLaws.{locate-printed}
use Rattle.log_readers.proofs.locate_command.Goals as goal

pub returns-clause-prints : goal.returns-clause-prints
returns-clause-prints c =
    let a = c.args in
    let written = c.put_located.ensures in
    (λ s h. wrote_as (locate-printed a.c a.p c.locate_in-located.ensures s h) written)
