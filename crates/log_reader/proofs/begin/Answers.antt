-- Each chart is begun by a load of the empty table.
use Rattle.std.proofs.Common.{refl, arith}
use Rattle.spec_calls.specs.Lent.{viewed_mut}
use Rattle.log_reader.proofs.ReadLaws.{begun-holding, begun-keeps}
use Rattle.log_reader.proofs.begin.Goals as goal

pub returns-clause-begun : goal.returns-clause-begun
returns-clause-begun c =
    let b = c.args.charts.now in
    λ s t waiting. begun-keeps _ (begun-holding (viewed_mut b.first) _ _ c.load-first.ensures.loaded s) (begun-holding (viewed_mut b.second) _ _ c.load-second.ensures.loaded t) waiting

pub returns-clause-ready : goal.returns-clause-ready
returns-clause-ready c =
    (record { places = refl; few = omega arith; whole = record { triangles = omega arith; few = omega arith } }, (omega arith, refl))
