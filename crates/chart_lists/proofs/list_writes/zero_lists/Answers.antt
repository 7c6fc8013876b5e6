use Rattle.std.proofs.Common.{arith}
use Rattle.laws_calls.proofs.PaddedLaws.{zeros-stored}
use Rattle.chart_lists.proofs.list_writes.zero_lists.Goals as goal

pub returns : goal.returns
returns c =
    let a = c.args in
    record {
      keys = zeros-stored a.keys.now (omega arith) (omega arith) (c.fill.ensures.after (λ y e. e));
      levels = zeros-stored a.levels.now (omega arith) (omega arith) (c.fill-2.ensures.after (λ y e. e));
      items = zeros-stored a.items.now (omega arith) (omega arith) (c.fill-3.ensures.after (λ y e. e));
    }
