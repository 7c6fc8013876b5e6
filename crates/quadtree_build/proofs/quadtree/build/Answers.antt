-- All triangles of the table are candidates of the whole square, and the corners that are passed on are those of the table.
use mathlib.Core.Path.{refl}
use Prim.Native.Nat.{ℕ, ◌<◌}
use native.Mathlib.Nat.{zero-add}
use native.Mathlib.Omega.{arith}
use lib.ListN.{length, get_or}
use borrow.Author.Rules.{rules}
use Rattle.spec_charts.specs.Table.{table_of}
use Rattle.spec_charts.specs.Cells.{entries_of}
use Rattle.laws_charts.proofs.EntriesOfTable.{entries_in-whole}
use Rattle.quadtree_build.proofs.KeptLaws.{stored-kept, kept-start}
use Rattle.quadtree_build.proofs.quadtree.build.Goals as goal

pub build_square-requires-clause-buildable : goal.build_square-requires-clause-buildable
build_square-requires-clause-buildable c =
    let a = c.args in
    let p = c.requires in
    let small : (k : ℕ) → get_or a.table.now k 0 < 65536 = λ k. omega (arith, c.type_inv.table k) in
    kept-start a.n a.table.now c.prepare.ensures p.1.0 small _ c.whole.ensures c.put_numbers.ensures refl
    (search rules) p.0.oriented

pub returns : goal.returns
returns c =
    let a = c.args in
    let small : (k : ℕ) → get_or a.table.now k 0 < 65536 = λ k. omega (arith, c.type_inv.table k) in
    let k = stored-kept a.n a.table.now c.prepare.ensures c.requires.1.0 small in
    let f = rw (c.whole.ensures, entries_in-whole, k) at c.build_square.ensures in
    let z = zero-add (length (entries_of (table_of a.table.now a.n))) in
    record { room = c.requires.1.1.places; fits = rw z at f.fits; over = rw z at f.over }
