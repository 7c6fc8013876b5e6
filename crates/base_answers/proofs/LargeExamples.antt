-- Numbers count whole: counts, values and triangle numbers beyond 32 bits.
-- Assumes nothing.
use mathlib.Core.Path.{◌≡◌, refl}
use mathlib.Core.List.{[]}
use mathlib.Core.Option.{some}
use Rattle.spec_plane.specs.declared.Position.TheVariants.{OnBc}
use Rattle.spec_charts.specs.declared.Refusal.TheVariants.{FaultyTriangle}
use Rattle.spec_charts.specs.Refusals.{done}
use Rattle.spec_calls.specs.Buffers.{chart_of}
use Rattle.spec_calls.specs.Calls as Calls
use Rattle.std.specs.Prelude.{Ok, Err, Some}
use Rattle.base_answers.specs.Outcomes.{answered, located_outcome, found_number, windowed_of, overlaid_of}

changed-large : answered (Err (FaultyTriangle 5000000003)) (chart_of [] [] [] [] 6000000005 7000000007)
    ≡ record { number = 5; value = 5000000003; chart = chart_of [] [] [] [] 6000000005 7000000007 }
changed-large = refl

located-large : located_outcome (Ok (Some (record { triangle = 5000000003; position = OnBc }))) ≡ done (some 5000000003)
located-large = refl

found-large : found_number (some 5000000003) ≡ 5000000003
found-large = refl

overlaid-large : overlaid_of (Ok (record { pairs = 5000000003; meetings = 6000000005 })) []
    ≡ record { number = 0; pair_count = 5000000003; meets = 6000000005; pairs = [] }
overlaid-large = refl

windowed-large : windowed_of (Ok 5000000003) [] ≡ record { number = 0; listed = 5000000003; list = [] }
windowed-large = refl
