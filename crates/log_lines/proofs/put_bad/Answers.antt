use native.Mathlib.Omega.{arith}
use Rattle.log_lines.proofs.LineLaws.{bad-length, wrote-bad, wrote-length}
use Rattle.log_lines.proofs.put_bad.Goals as goal

pub put_bytes-word-requires : goal.put_bytes-word-requires
put_bytes-word-requires c =
    omega (arith, bad-length c.args.offset)

pub put_decimal-number-requires : goal.put_decimal-number-requires
put_decimal-number-requires c =
    let w = c.put_bytes-word.ensures in
    omega (arith, bad-length c.args.offset, w.end, wrote-length w)

pub put_byte-requires : goal.put_byte-requires
put_byte-requires c =
    let w = c.put_bytes-word.ensures in
    let n = c.put_decimal-number.ensures in
    omega (arith, bad-length c.args.offset, w.end, wrote-length w, n.end, wrote-length n)

pub returns : goal.returns
returns c =
    wrote-bad c.args.offset c.put_bytes-word.ensures c.put_decimal-number.ensures c.put_byte.ensures
