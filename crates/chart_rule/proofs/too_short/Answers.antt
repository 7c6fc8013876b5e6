use mathlib.Core.Path.{refl}
use Rattle.spec_calls.specs.Buffers.{too_short}
use Rattle.chart_rule.proofs.too_short.Goals as goal

pub returns : goal.returns
unfolding too_short
returns c = refl
