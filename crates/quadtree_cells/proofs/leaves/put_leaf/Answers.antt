use native.Mathlib.Omega.{arith}
use mathlib.Core.Path.{ap}
use Rattle.std.specs.Prelude.{Some}
use Rattle.quadtree_cells.proofs.LeafLaws.{mark-length}
use Rattle.quadtree_cells.proofs.leaves.put_leaf.Goals as goal

pub returns-then-most-at-clause-entries_put : goal.returns-then-most-at-clause-entries_put
returns-then-most-at-clause-entries_put c =
    let e = mark-length c.args.items.now in λ h. absurd (omega arith)

pub put_cell-requires : goal.put_cell-requires
put_cell-requires c =
    let e = mark-length c.args.items.now in omega arith

pub returns-clause-entries_put : goal.returns-clause-entries_put
returns-clause-entries_put c = λ h. (ap Some c.put_cell.ensures.0, c.put_cell.ensures.1)

pub returns-clause-value : goal.returns-clause-value
returns-clause-value c =
    let e = mark-length c.args.items.now in λ h. absurd (omega arith)
