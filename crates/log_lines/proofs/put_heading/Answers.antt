use Rattle.log_lines.proofs.LineLaws.{heading-is, wrote_as}
use Rattle.log_lines.proofs.put_heading.Goals as goal

pub put_bytes-requires : goal.put_bytes-requires
put_bytes-requires c =
    rw (← heading-is) at c.requires

pub returns : goal.returns
returns c =
    wrote_as heading-is c.put_bytes.ensures
