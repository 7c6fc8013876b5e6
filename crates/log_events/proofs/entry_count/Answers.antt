use Rattle.std.proofs.Common.{◌≡◌, arith}
use Rattle.spec_calls.specs.Lent.{viewed_mut}
use Rattle.log_events.proofs.EventLaws.{first_entries, other_entries}
use Rattle.log_events.proofs.entry_count.Goals as goal

pub returns-then-c-eq0 : goal.returns-then-c-eq0
returns-then-c-eq0 c =
    let b = c.args.charts.now in first_entries c.args.c (viewed_mut b.first) (viewed_mut b.second) (omega arith)

pub returns-else-c-eq0 : goal.returns-else-c-eq0
returns-else-c-eq0 c =
    let b = c.args.charts.now in
    let not-0 : c.args.c ≡ 0 → ⊥ = omega arith in
    other_entries c.args.c (viewed_mut b.first) (viewed_mut b.second) not-0
