-- Before key 0 there is none.
use native.Mathlib.Omega.{arith}
use Prim.Native.Nat.{◌+◌}
use Rattle.theory_lists.proofs.TestLaws.{eqb_same}
use Rattle.chart_links.proofs.is_next.Goals as goal

pub returns-in-Some : goal.returns-in-Some
returns-in-Some c =
    let before = c.in-Some.before in
    let last = c.args.last in
    let next = c.args.next in
    let e = c.in-Some.ensures in
    eqb_same before last next (last + 1) (λ p. omega (arith, e)) (λ p. omega (arith, e))
