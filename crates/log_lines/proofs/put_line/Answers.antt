use native.Mathlib.Omega.{arith}
use Rattle.log_lines.proofs.LineLaws.{line-length, wrote-line, wrote-length}
use Rattle.log_lines.proofs.put_line.Goals as goal

pub put_decimal-number-requires : goal.put_decimal-number-requires
put_decimal-number-requires c =
    omega (arith, line-length c.args.first c.args.others.now)

pub put_spaced-last-requires : goal.put_spaced-last-requires
put_spaced-last-requires c =
    let n = c.put_decimal-number.ensures in
    omega (arith, line-length c.args.first c.args.others.now, n.end, wrote-length n)

pub put_byte-requires : goal.put_byte-requires
put_byte-requires c =
    let n = c.put_decimal-number.ensures in
    let o = c.put_spaced-last.ensures in
    omega (arith, line-length c.args.first c.args.others.now, n.end, wrote-length n, o.end, wrote-length o)

pub returns : goal.returns
returns c =
    wrote-line c.args.first c.args.others.now c.put_decimal-number.ensures c.put_spaced-last.ensures c.put_byte.ensures
