-- Every case of every answer, with its number and what it says.
-- Assumes nothing.
use mathlib.Core.Path.{◌≡◌, refl}
use mathlib.Core.Bool.{true, false}
use mathlib.Core.List.{List, [], ◌∷◌, map}
use mathlib.Core.Option.{none, some}
use Rattle.spec_plane.specs.declared.Position.TheVariants.{Inside, OnCa, AtB, Outside}
use Rattle.spec_charts.specs.declared.Refusal.TheVariants.{ShortBuffer, BrokenChain, FaultyTriangle, TableFull, TooManyPairs, EmptyWindow}
use Rattle.spec_charts.specs.Refusals.{refused, done}
use Rattle.spec_charts.proofs.RefusalsExamples.{rows}
use Rattle.spec_calls.specs.Buffers.{chart_of}
use Rattle.spec_calls.specs.Calls as Calls
use Rattle.base_answers.specs.Outcomes.{outcome_of, answered, located_outcome, located_position, located_of, found_number, is_found, soundness_of, area_of, windowed_row, windowed_of, overlaid_row, overlaid_of}
use Rattle.std.specs.Prelude.{Bool, ℕ, Result, Ok, Err, Some, None}
use Rattle.std.specs.Prelude.{Option as Std·Option}
use Rattle.spec_charts.specs.declared.Refusal.{Refusal}
use Rattle.spec_charts.specs.Refusals.{Outcome}
use Rattle.base_answers.specs.declared.Found.{Found}
use Rattle.spec_calls.proofs.Evaluate.{evaluate}

-- Judging, loads and edits

-- an answer that holds nothing, a yes and a no, a number
outcome-example : map {B = Outcome (Unit {0})} (λ v. outcome_of v) (Ok tt ∷ Err (FaultyTriangle 7) ∷ Err TableFull ∷ [])
    ≡ done tt ∷ refused (FaultyTriangle 7) ∷ refused TableFull ∷ []
outcome-example = refl

outcome-bool-example : map (λ r. outcome_of r) (Ok true ∷ Ok false ∷ Err ShortBuffer ∷ Err BrokenChain ∷ [])
    ≡ done true ∷ done false ∷ refused ShortBuffer ∷ refused BrokenChain ∷ []
outcome-bool-example = refl

outcome-number-example : map (λ r. outcome_of {A = ℕ} r) (Ok 8589672450 ∷ Ok 3 ∷ Err ShortBuffer ∷ Err BrokenChain ∷ [])
    ≡ done 8589672450 ∷ done 3 ∷ refused ShortBuffer ∷ refused BrokenChain ∷ []
outcome-number-example = refl

-- accepted, and every row
abbrev all_verdicts : List (Result (Unit {0}) Refusal)
all_verdicts = Ok tt ∷ map (λ r. Err r) rows

-- a change with 2 triangles and 20 entries, and four lists that differ
abbrev changed : Result (Unit {0}) Refusal → Calls.Changed
changed v = answered v (chart_of (31 ∷ []) (32 ∷ []) (33 ∷ []) (34 ∷ []) 2 20)

-- document 01's numbers, 0 to 12, document 02's 14 and 15, and the triangle beside 5
changed-numbers-example : map (λ v. (changed v).number) all_verdicts ≡ 0 ∷ 1 ∷ 2 ∷ 3 ∷ 4 ∷ 5 ∷ 6 ∷ 7 ∷ 8 ∷ 9 ∷ 10 ∷ 11 ∷ 12 ∷ 14 ∷ 15 ∷ []
changed-numbers-example = refl

changed-values-example : map (λ v. (changed v).value) all_verdicts ≡ 0 ∷ 0 ∷ 0 ∷ 0 ∷ 0 ∷ 7 ∷ 0 ∷ 0 ∷ 0 ∷ 0 ∷ 0 ∷ 0 ∷ 0 ∷ 0 ∷ 0 ∷ []
changed-values-example = refl

-- the lists and the counts, each in its place
changed-example : changed (Err (FaultyTriangle 7))
    ≡ record {
      number = 5;
      value = 7;
      chart = record { table = 31 ∷ []; keys = 32 ∷ []; levels = 33 ∷ []; items = 34 ∷ []; triangle_count = 2; entry_count = 20 };
    }
unfolding evaluate
changed-example = refl

-- Locate

abbrev all_located : List (Result (Std·Option Found) Refusal)
all_located =
    Ok (Some (record { triangle = 9; position = OnCa }))
    ∷ Ok (Some (record { triangle = 0; position = Inside }))
    ∷ Ok (Some (record { triangle = 40031; position = AtB }))
    ∷ Ok None
    ∷ Err ShortBuffer
    ∷ Err BrokenChain
    ∷ []

located-outcome-example : map (λ r. located_outcome r) all_located
    ≡ done (some 9) ∷ done (some 0) ∷ done (some 40031) ∷ done none ∷ refused ShortBuffer ∷ refused BrokenChain ∷ []
located-outcome-example = refl

-- outside when nowhere, refusals included
located-position-example : map (λ r. located_position r) all_located ≡ OnCa ∷ Inside ∷ AtB ∷ Outside ∷ Outside ∷ Outside ∷ []
located-position-example = refl

located-example : map (λ r. located_of r) all_located
    ≡ record { number = 0; found = some 9; position = OnCa }
    ∷ record { number = 0; found = some 0; position = Inside }
    ∷ record { number = 0; found = some 40031; position = AtB }
    ∷ record { number = 0; found = none; position = Outside }
    ∷ record { number = 1; found = none; position = Outside }
    ∷ record { number = 2; found = none; position = Outside }
    ∷ []
located-example = refl

found-number-example : map (λ r. found_number (located_of r).found) all_located ≡ 9 ∷ 0 ∷ 40031 ∷ 65535 ∷ 65535 ∷ 65535 ∷ []
found-number-example = refl

is-found-example : map (λ r. is_found (located_of r).found) all_located ≡ true ∷ true ∷ true ∷ false ∷ false ∷ false ∷ []
is-found-example = refl

-- Soundness

abbrev all_sound : List (Result Bool Refusal)
all_sound =
    Ok true ∷ Ok false ∷ Err ShortBuffer ∷ Err BrokenChain ∷ []

soundness-example : map (λ r. soundness_of r) all_sound
    ≡ record { number = 0; is_sound = true }
    ∷ record { number = 0; is_sound = false }
    ∷ record { number = 1; is_sound = false }
    ∷ record { number = 2; is_sound = false }
    ∷ []
soundness-example = refl

-- Doubled area

abbrev all_areas : List (Result ℕ Refusal)
all_areas = Ok 8589672450 ∷ Ok 3 ∷ Err ShortBuffer ∷ Err BrokenChain ∷ []

area-example : map (λ r. area_of r) all_areas
    ≡ record { number = 0; area = 8589672450 }
    ∷ record { number = 0; area = 3 }
    ∷ record { number = 1; area = 0 }
    ∷ record { number = 2; area = 0 }
    ∷ []
area-example = refl

-- Window

-- the number, how many are listed and the list, each in its place
windowed-example :
    map (λ o. windowed_row {A = ℕ} o 3 (1 ∷ 2 ∷ [])) (done 3 ∷ refused BrokenChain ∷ refused EmptyWindow ∷ [])
    ≡ record { number = 0; listed = 3; list = 1 ∷ 2 ∷ [] }
    ∷ record { number = 2; listed = 3; list = 1 ∷ 2 ∷ [] }
    ∷ record { number = 15; listed = 3; list = 1 ∷ 2 ∷ [] }
    ∷ []
windowed-example = refl

-- and of an answer: nothing is listed at a refusal
windowed-answer-example :
    map (λ v. windowed_of v (1 ∷ 2 ∷ [])) (Ok 3 ∷ Err BrokenChain ∷ Err EmptyWindow ∷ [])
    ≡ record { number = 0; listed = 3; list = 1 ∷ 2 ∷ [] }
    ∷ record { number = 2; listed = 0; list = 1 ∷ 2 ∷ [] }
    ∷ record { number = 15; listed = 0; list = 1 ∷ 2 ∷ [] }
    ∷ []
windowed-answer-example = refl

-- Overlay

-- the number, the counts and the list, each in its place
overlaid-example :
    map (λ o. overlaid_row {A = ℕ} o (record { pairs = 3; meetings = 8 }) (1 ∷ 2 ∷ [])) (done 3 ∷ refused BrokenChain ∷ refused TooManyPairs ∷ [])
    ≡ record { number = 0; pair_count = 3; meets = 8; pairs = 1 ∷ 2 ∷ [] }
    ∷ record { number = 2; pair_count = 3; meets = 8; pairs = 1 ∷ 2 ∷ [] }
    ∷ record { number = 12; pair_count = 3; meets = 8; pairs = 1 ∷ 2 ∷ [] }
    ∷ []
overlaid-example = refl

-- and of an answer: the counts are 0 at a refusal
overlaid-answer-example :
    map (λ v. overlaid_of v (1 ∷ 2 ∷ []))
    (Ok (record { pairs = 3; meetings = 8 }) ∷ Err BrokenChain ∷ Err TooManyPairs ∷ [])
    ≡ record { number = 0; pair_count = 3; meets = 8; pairs = 1 ∷ 2 ∷ [] }
    ∷ record { number = 2; pair_count = 0; meets = 0; pairs = 1 ∷ 2 ∷ [] }
    ∷ record { number = 12; pair_count = 0; meets = 0; pairs = 1 ∷ 2 ∷ [] }
    ∷ []
overlaid-answer-example = refl
