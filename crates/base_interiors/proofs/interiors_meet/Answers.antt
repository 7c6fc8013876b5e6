use mathlib.Core.Path.{◌≡◌}
use mathlib.Core.Bool.{Bool}
use mathlib.Core.Logic.{◌↔◌}
use lib.Dec.{T}
use Rattle.spec_plane.specs.Triangle.{Triangle, proper}
use Rattle.spec_plane.specs.Interior.{interiors_meet, CommonInterior}
use Rattle.base_interiors.specs.declared.differences.Differences.{Differences}
use Rattle.base_interiors.specs.Differences.{DifferencesOf}
use Rattle.base_interiors.proofs.InteriorsLaws.{ToldExactly, first-told, others-told, second-told}
use Rattle.base_interiors.proofs.interiors_meet.Goals as goal

-- both promises at once
both : {t : Triangle} {d : Differences} {o : Bool} → ((s : Triangle) → DifferencesOf s d → ToldExactly s t o)
    → ((s : Triangle) → DifferencesOf s d → o ≡ interiors_meet s t)
    × ((s : Triangle) → DifferencesOf s d → T (proper s) → T (proper t) → CommonInterior s t ↔ T o)
both k = (λ s of. (k s of).computed, λ s of. (k s of).exact)

pub returns-then-joined-lt-HIGH : goal.returns-then-joined-lt-HIGH
returns-then-joined-lt-HIGH c =
    let whole = both (λ s of. first-told of c.offsets_by-r.ensures.0 c.of_first-ab.ensures.0 c.joined.ensures c.if-joined-lt-HIGH.true) in
    record { value = whole.0; variant = whole.1 }

pub returns-then-joined-lt-HIGH-2 : goal.returns-then-joined-lt-HIGH-2
returns-then-joined-lt-HIGH-2 c =
    let whole = both (λ s of. others-told of c.offsets_by-r.ensures.0 c.of_first-ab.ensures.0 c.of_first-ca.ensures.0 c.of_third-bc.ensures.0
    c.joined-2.ensures c.joined-3.ensures c.if-joined-lt-HIGH-2.true) in
    record { value = whole.0; variant = whole.1 }

pub returns : goal.returns
returns c =
    let whole = both (λ s of. second-told of c.offsets_by-r.ensures.0 c.of_first-ab.ensures.0 c.of_first-ca.ensures.0 c.of_third-bc.ensures.0
    c.joined.ensures c.joined-2.ensures c.joined-3.ensures c.if-joined-lt-HIGH.false c.if-joined-lt-HIGH-2.false
    c.of_second-p.ensures.0 c.of_second-q.ensures.0 c.of_second-u.ensures.0
    c.joined-4.ensures c.joined-5.ensures c.joined-6.ensures) in
    record { value = whole.0; variant = whole.1 }
