-- An item fits a count above it, and the mark fits every count.
use mathlib.Core.Path.{◌∙◌, ap}
use lib.Dec.{leb}
use Rattle.chart_links.proofs.ItemLaws.{next-given}
use Rattle.chart_links.proofs.count_for.Goals as goal

pub returns : goal.returns
returns c =
    λ count. ap (λ r. leb r count) c.unwrap_or.ensures ∙ next-given c.args.item count c.checked_add.result c.ranges.item.fits c.checked_add.ensures
