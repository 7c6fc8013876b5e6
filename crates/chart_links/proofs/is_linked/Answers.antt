-- Bits of the key that its square does not use are none, and the next key starts where the square ends, unless the next entry is of it.
use Rattle.chart_links.proofs.LinkLaws.{linked-tested}
use borrow.Author.Rules.{rules}
use Rattle.chart_links.proofs.is_linked.Goals as goal

pub returns : goal.returns
returns c =
    let a = c.args in
    let m = c.low_bits-m in
    linked-tested a.key a.level a.item a.next_key a.next_level a.next_item m.result c.requires (search rules) m.ensures c.is_next.ensures
