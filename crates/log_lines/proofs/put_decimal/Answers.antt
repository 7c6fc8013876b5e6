use Rattle.std.proofs.Common.{◌≡◌, length, ap, arith}
use Rattle.spec_log.specs.Log.{decimal}
use Rattle.log_lines.proofs.LineLaws.{text-decimal, wrote_as}
use Rattle.log_lines.proofs.put_decimal.Goals as goal

pub put_bytes-requires : goal.put_bytes-requires
put_bytes-requires c =
    let same : c.as_bytes.result.now ≡ decimal c.args.n = text-decimal (omega arith) c.format.ensures.text c.as_bytes.ensures.value in
    omega (arith, ap length same)

pub returns : goal.returns
returns c = wrote_as (text-decimal (omega arith) c.format.ensures.text c.as_bytes.ensures.value) c.put_bytes.ensures
