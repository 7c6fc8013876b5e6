-- The table holds the numbers before i, and else what it held.
use mathlib.Core.Path.{refl, sym, ◌∙◌, ap}
use mathlib.Core.List.{map, map-id}
use native.Mathlib.Nat.{zero-add}
use native.Mathlib.Omega.{arith}
use lib.ListN.{take}
use Rattle.std.proofs.lemmas.List.{get_or-take, length-take-le}
use Rattle.spec_charts.specs.Table.{table_length}
use Rattle.spec_calls.specs.Buffers.{padded}
use Rattle.laws_calls.proofs.PaddedLaws.{padded-stored, zeros-stored}
use Rattle.theory_lists.proofs.CopyLaws.{copying-next, copying-end, images-count}
use Rattle.chart_lists.proofs.table_writes.put_table.Goals as goal

pub loop-i-preserved : goal.loop-i-preserved
loop-i-preserved c =
    let a = c.args in
    let n = length-take-le a.n a.given.now (omega arith) in
    copying-next c.loop-i.invariant (omega (arith, n)) (omega arith) (sym (zero-add c.loop-i.i)) (get_or-take a.n a.given.now c.loop-i.i 0 (omega (arith, n)))

pub returns : goal.returns
returns c =
    let a = c.args in
    let l = c.loop-i in
    let n = length-take-le a.n a.given.now (omega arith) in
    padded-stored table_length (map (λ x. x) (take a.n a.given.now)) a.table.now (images-count (λ x. x) a.given.now a.n (omega arith))
    (omega arith) (omega arith) (copying-end l.invariant (omega (arith, n)))
    (zeros-stored l.table (omega arith) (omega (arith, l.invariant.kept)) (c.fill.ensures.after (λ y e. e)))
    ∙ ap (λ u. padded table_length u a.table.now) (map-id (take a.n a.given.now))
