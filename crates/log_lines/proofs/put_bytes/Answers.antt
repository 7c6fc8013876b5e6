use Rattle.log_lines.proofs.LineLaws.{wrote-copied}
use Rattle.log_lines.proofs.put_bytes.Goals as goal

pub returns : goal.returns
returns c = wrote-copied c.args.out.now c.args.bytes.now _ c.args.at c.requires c.copy_from_slice.ensures.after
