-- The last key of the square is the tree's last key.
use Rattle.chart_links.proofs.LinkLaws.{last-ends}
use Rattle.chart_links.proofs.ends_tree.Goals as goal

pub returns : goal.returns
returns c =
    let a = c.args in
    let m = c.low_bits-m in
    λ item. last-ends a.key a.level item m.result c.requires m.ensures
