use mathlib.Core.Path.{◌≡◌, refl, ap}
use Prim.Native.Nat.{◌<◌}
use native.Mathlib.Omega.{arith}
use lib.ListN.{length, set}
use borrow.Author.Rules.{rules}
use Rattle.quadtree_cells.proofs.LeafLaws.{mark-none, mark-some, mark-length}
use Rattle.quadtree_cells.proofs.leaves.put_cell.Goals as goal

pub bounds-out-at : goal.bounds-out-at
bounds-out-at c = omega (arith, mark-length c.args.items.now)

pub returns-then-is_empty : goal.returns-then-is_empty
returns-then-is_empty c =
    let a = c.args in
    let none : length a.items.now ≡ 0 = search rules in
    rw (mark-none a.items.now none) (refl, ap (set a.out.now a.at) c.marked.ensures)

pub put_candidates-requires : goal.put_candidates-requires
put_candidates-requires c = omega (arith, mark-length c.args.items.now)

pub returns : goal.returns
returns c =
    let some : 0 < length c.args.items.now = search rules in
    rw (mark-some c.args.items.now some) (refl, c.put_candidates.ensures)
