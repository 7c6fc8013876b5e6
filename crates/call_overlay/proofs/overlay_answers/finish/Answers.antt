use Prim.Native.Nat.{◌*◌}
use native.Mathlib.Omega.{arith}
use Rattle.laws_calls.proofs.PaddedLaws.{zeros-stored}
use Rattle.call_overlay.proofs.FinishLaws.{finish-over, finish-done}
use Rattle.call_overlay.proofs.overlay_answers.finish.Goals as goal

pub returns-in_default : goal.returns-in_default
returns-in_default c =
    let zeros = zeros-stored c.args.pairs.now {f = 0} {t = 8192} {m = c.fill.new.self} (omega arith) (omega (arith, c.requires.1)) (c.fill.ensures.after (λ y e. e)) in
    λ ps before w. finish-over c.requires.1 c.args.meetings _ (rw c.in_default.is at w) zeros

pub returns : goal.returns
returns c =
    let few = rw c.in-Some.is at c.requires.0 in
    let zeros = zeros-stored c.args.pairs.now {f = 2 * c.in-Some.count} {t = 8192} {m = c.fill-2.new.self} (omega (arith, few)) (omega (arith, c.requires.1)) (c.fill-2.ensures.after (λ y e. e)) in
    λ ps before w. finish-done c.requires.1 c.args.meetings _ (rw c.in-Some.is at w) zeros
