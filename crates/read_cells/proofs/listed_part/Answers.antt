-- The cell is found by two searches in the keys; where its first item is the mark there are none.
use mathlib.Core.Path.{refl, subst}
use native.Mathlib.Omega.{arith}
use borrow.Author.Tests.{eq-eqb, ne_eqb}
use lib.ListN.{get_or}
use Rattle.theory_lists.specs.Lists.{count_from}
use Rattle.theory_orthtree.specs.Entries.{empty_mark}
use Rattle.read_cells.specs.Keys.{LastCell}
use Rattle.read_cells.specs.Place.{cell_items, cell_places}
use Rattle.read_cells.proofs.listed_part.Goals as goal

pub returns-then-items-cell : goal.returns-then-items-cell
unfolding cell_items cell_places empty_mark count_from
returns-then-items-cell c =
    let r = c.last_cell-cell.result in
    let mark = eq-eqb (get_or c.args.items.now r.from 0) 65535 c.if-items-cell.true in
    record {
      from = r.from;
      to = r.to;
      cell = subst (λ k. LastCell c.args.keys.now c.args.entries k r.from r.to) c.z_order.ensures c.last_cell-cell.ensures;
      ordered = omega arith;
      within = omega arith;
      listed = rw mark refl;
      places = rw mark refl;
      nothing = λ _. refl;
    }

pub returns : goal.returns
unfolding cell_items cell_places empty_mark
returns c =
    let r = c.last_cell-cell.result in
    let no = ne_eqb (get_or c.args.items.now r.from 0) 65535 c.if-items-cell.false in
    let l = subst (λ k. LastCell c.args.keys.now c.args.entries k r.from r.to) c.z_order.ensures c.last_cell-cell.ensures in
    record {
      from = r.from;
      to = r.to;
      cell = l;
      ordered = omega (arith, l.some);
      within = omega (arith, l.ends.within, c.requires.for_items);
      listed = rw no refl;
      places = rw no refl;
      nothing = λ e. omega (arith, e, l.some);
    }
