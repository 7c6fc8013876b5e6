use mathlib.Core.Path.{◌≡◌, ◌∙◌, ap}
use native.Mathlib.Omega.{arith}
use Rattle.spec_calls.specs.Calls.{locate_call}
use Rattle.spec_calls.specs.Lent.{viewed_mut}
use Rattle.log_readers.proofs.ReaderCommandLaws.{in-first, in-second}
use Rattle.log_readers.proofs.locate_in.Goals as goal

pub returns-then-c-eq0 : goal.returns-then-c-eq0
returns-then-c-eq0 c =
    let a = c.args in
    let b = a.charts.now in
    c.locate.ensures ∙ ap (λ d. locate_call d a.p) c.view.ensures ∙ in-first a.c (viewed_mut b.first) (viewed_mut b.second) a.p (omega arith)

pub returns-else-c-eq0 : goal.returns-else-c-eq0
returns-else-c-eq0 c =
    let a = c.args in
    let b = a.charts.now in
    let not-0 : a.c ≡ 0 → ⊥ = omega arith in
    c.locate-else-c-eq0.ensures ∙ ap (λ d. locate_call d a.p) c.view-else-c-eq0.ensures ∙ in-second a.c (viewed_mut b.first) (viewed_mut b.second) a.p not-0
