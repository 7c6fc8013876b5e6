-- The heading's twelve bytes have room.
use Rattle.std.proofs.Common.{length, ap, arith}
use Rattle.log_lines.proofs.LineLaws.{heading-is}
use Rattle.overlay_log.proofs.main.Goals as goal

pub put_heading-at-requires : goal.put_heading-at-requires
put_heading-at-requires c = omega (arith, ap length heading-is)
