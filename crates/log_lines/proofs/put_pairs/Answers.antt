use Rattle.std.proofs.Common.{[], ◌∷◌, ap₂, arith}
use Rattle.spec_log.specs.Log.{line}
use Rattle.log_lines.proofs.LineLaws.{wrote_as, wrote-length, pair-short, pairs-none, pairs-more}
use Rattle.log_lines.proofs.put_pairs.Goals as goal

pub loop-k-init : goal.loop-k-init
loop-k-init c = (omega arith, pairs-none c.args.pairs.now c.args.at _ (omega arith))

pub put_line-next-requires : goal.put_line-next-requires
put_line-next-requires c =
    let s = pair-short c.from-in-loop-k.result c.from.result (omega arith) (omega arith) in
    omega (arith, s, wrote-length c.loop-k.invariant.1)

pub loop-k-preserved : goal.loop-k-preserved
loop-k-preserved c =
    let w = c.put_line-next.ensures in
    let s = pair-short c.from-in-loop-k.result c.from.result (omega arith) (omega arith) in
    let same = ap₂ (λ i j. line i (j ∷ [])) c.from-in-loop-k.ensures c.from.ensures in
    (omega (arith, s, w.end), pairs-more c.args.pairs.now c.loop-k.k c.loop-k.invariant.1 (wrote_as same w))
