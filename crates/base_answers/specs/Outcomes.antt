-- What each answer of the code says in document 01's terms: done with something, or refused by a row of its table of numbers.
-- Assumes nothing.
use Rattle.std.specs.Prelude.{Bool, true, false, List, ℕ, Result, Ok, Err, Some, None}
use Rattle.std.specs.Prelude.{Option as Std·Option}
use Rattle.std.proofs.Math.Option.{Option, none, some}
use Rattle.spec_plane.specs.declared.Position.{Position}
use Rattle.spec_plane.specs.declared.Position.TheVariants.{Outside}
use Rattle.spec_charts.specs.declared.Refusal.{Refusal}
use Rattle.spec_charts.specs.Refusals.{Outcome, refused, done, outcome_number, outcome_value, done_or}
use Rattle.spec_calls.specs.Buffers.{Chart}
use Rattle.spec_calls.specs.Lent.{Lent}
use Rattle.spec_calls.specs.Calls as Calls
use Rattle.base_answers.specs.declared.Found.{Found}
use Rattle.base_answers.specs.declared.Overlaid.{Overlaid}

-- what an answer comes to: done with what it holds, or refused
abbrev pub outcome_of : {A : Type 0} → Result A Refusal → Outcome A
outcome_of (Ok a) = done a
outcome_of (Err r) = refused r

-- all that a load or an edit gives back: number and value, and the chart
abbrev pub answered : Result (Unit {0}) Refusal → Chart → Calls.Changed
answered r chart = record { number = outcome_number (outcome_of r); value = outcome_value (outcome_of r); chart = chart }

-- locate: done with a triangle or nowhere, or refused
abbrev pub located_outcome : Result (Std·Option Found) Refusal → Outcome (Option ℕ)
located_outcome (Ok (Some f)) = done (some f.triangle)
located_outcome (Ok None) = done none
located_outcome (Err r) = refused r

-- the position of the point by the triangle found, "as outside when the answer is nowhere, refusals included"
abbrev pub located_position : Result (Std·Option Found) Refusal → Position
located_position (Ok (Some f)) = f.position
located_position (Ok None) = Outside
located_position (Err r) = Outside

-- its number, triangle and position; "locate's answer is nowhere" at a refusal
abbrev pub located_of : Result (Std·Option Found) Refusal → Calls.Located
located_of r = record { number = outcome_number (located_outcome r); found = done_or none (located_outcome r); position = located_position r }

-- the triangle found as one number: "the triangle or 65535"
abbrev pub found_number : Option ℕ → ℕ
found_number none = 65535
found_number (some i) = i

-- whether a triangle was found
abbrev pub is_found : Option ℕ → Bool
is_found none = false
is_found (some i) = true

-- soundness: its number and verdict; "soundness is no" at a refusal
abbrev pub soundness_of : Result Bool Refusal → Calls.Soundness
soundness_of r = record { number = outcome_number (outcome_of r); is_sound = done_or false (outcome_of r) }

-- doubled area: its number and sum; "Other numbers returned are 0" at a refusal
abbrev pub area_of : Result ℕ Refusal → Calls.Area
area_of r = record { number = outcome_number (outcome_of r); area = done_or 0 (outcome_of r) }

-- all that a window gives back, each in its place: number, how many are listed, and the list
abbrev pub windowed_row : {A : Type 0} → Outcome A → ℕ → List ℕ → Calls.Windowed
windowed_row o listed list = record { number = outcome_number o; listed = listed; list = list }

-- the same of an answer: none is listed at a refusal
abbrev pub windowed_of : Result ℕ Refusal → List ℕ → Calls.Windowed
windowed_of r list = windowed_row (outcome_of r) (done_or 0 (outcome_of r)) list

-- the same of the list that was lent, as the window leaves it
abbrev pub left_list : Lent → Result ℕ Refusal → Calls.Windowed
left_list list r = windowed_of r list.exit.now

-- the counts of an overlay: "Other numbers returned are 0" at a refusal
abbrev pub overlay_counts : Result Overlaid Refusal → Overlaid
overlay_counts r = done_or (record { pairs = 0; meetings = 0 }) (outcome_of r)

-- all that an overlay gives back, each in its place: number, counts and pairs
abbrev pub overlaid_row : {A : Type 0} → Outcome A → Overlaid → List ℕ → Calls.Overlaid
overlaid_row o counts pairs = record {
  number = outcome_number o;
  pair_count = counts.pairs;
  meets = counts.meetings;
  pairs = pairs;
}

-- the same of an answer
abbrev pub overlaid_of : Result Overlaid Refusal → List ℕ → Calls.Overlaid
overlaid_of r pairs = overlaid_row (outcome_of r) (overlay_counts r) pairs

-- the same of the pairs list that was lent, as the overlay leaves it
abbrev pub left_pairs : Lent → Result Overlaid Refusal → Calls.Overlaid
left_pairs pairs r = overlaid_of r pairs.exit.now
