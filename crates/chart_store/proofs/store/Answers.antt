-- The entries are built first, and the table is written only where they fit: a refusal leaves all as it was.
use native.Mathlib.Omega.{arith}
use Rattle.spec_calls.specs.Lent.{viewed_mut}
use Rattle.spec_calls.specs.Calls.{changed_by}
use Rattle.laws_calls.proofs.BufferLaws.{long-enough}
use Rattle.chart_store.proofs.StoreLaws.{store_many, store-done}
use Rattle.chart_store.proofs.store.Goals as goal

pub build_into-requires-clause-roomy : goal.build_into-requires-clause-roomy
build_into-requires-clause-roomy c = (long-enough (viewed_mut c.args.chart.now) c.requires.long).lists

pub returns-in_default-clause-stored : goal.returns-in_default-clause-stored
unfolding changed_by
returns-in_default-clause-stored c =
    store_many c.args.proposed.now c.args.n c.requires.drawn.room (viewed_mut c.args.chart.now) c.in_default.ensures

pub put_table-requires : goal.put_table-requires
put_table-requires c =
    (omega (arith, c.requires.drawn.room), (omega (arith, c.requires.drawn.few), (long-enough (viewed_mut c.args.chart.now) c.requires.long).table))

pub returns-clause-stored : goal.returns-clause-stored
unfolding changed_by
returns-clause-stored c =
    store-done c.args.proposed.now c.args.n c.requires.drawn.room (viewed_mut c.args.chart.now) c.in-Some.ensures c.put_table.ensures
