use Rattle.std.proofs.Common.{arith}
use Rattle.log_lines.proofs.LineLaws.{wrote-length, spaced-none, spaced-step, spaced-room}
use Rattle.log_lines.proofs.put_spaced.Goals as goal

pub loop-n-init : goal.loop-n-init
loop-n-init c = spaced-none c.args.numbers.now _ _ (omega arith)

pub put_byte-space-requires : goal.put_byte-space-requires
put_byte-space-requires c =
    omega (arith, spaced-room c.args.numbers.now c.loop-n.n-index (omega arith) c.loop-n.invariant c.requires)

pub put_decimal-next-requires : goal.put_decimal-next-requires
put_decimal-next-requires c =
    let w = c.put_byte-space.ensures in
    omega (arith, spaced-room c.args.numbers.now c.loop-n.n-index (omega arith) c.loop-n.invariant c.requires, w.end, wrote-length w)

pub loop-n-preserved : goal.loop-n-preserved
loop-n-preserved c =
    spaced-step c.args.numbers.now c.loop-n.n-index (omega arith) c.loop-n.invariant c.put_byte-space.ensures c.put_decimal-next.ensures
