use Rattle.std.proofs.Common.{arith, rules}
use Rattle.spec_calls.specs.Lent.{held}
use Rattle.chart_judge.proofs.MatchLaws.{matched-within, matched-none}
use Rattle.chart_judge.proofs.entry_checks.match_within.Goals as goal

pub returns-in-Some : goal.returns-in-Some
returns-in-Some g c =
    let a = c.args in
    matched-within (held a.table a.keys a.levels a.items a.n a.m) c.in-Some.ensures (search rules) (search rules)
    (record { level = λ k. omega (arith, c.type_inv.levels k); item = λ k. omega (arith, c.type_inv.items k) })
    c.same_entries.ensures

pub returns-in-None : goal.returns-in-None
returns-in-None g c =
    let a = c.args in
    matched-none (held a.table a.keys a.levels a.items a.n a.m) c.in-None.ensures (search rules) (search rules)
