use lib.ListN.{get_or}
use Rattle.chart_links.specs.Links.{entry_at}
use Rattle.window_cells.proofs.mark.Goals as goal

pub returns : goal.returns
unfolding entry_at
returns c =
    let a = c.args in
    rw (c.place-p.ensures, c.touches.ensures (get_or a.items.now a.k 0))
