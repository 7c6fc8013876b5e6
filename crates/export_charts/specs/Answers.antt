-- What the exports of the other calls answer, by the calls' own definitions.
-- Assumes nothing.
use Rattle.std.specs.Prelude.{ℕ, Result, cond}
use Rattle.spec_calls.specs.Lent.{Lent, left_chart}
use Rattle.spec_calls.specs.Calls as Calls
use Rattle.spec_charts.specs.declared.Refusal.{Refusal}
use Rattle.spec_charts.specs.Refusals.{outcome_number, outcome_value}
use Rattle.base_answers.specs.Outcomes.{outcome_of}
use Rattle.export_charts.specs.declared.JirdChanged.{JirdChanged}
use Rattle.export_charts.specs.declared.JirdSounded.{JirdSounded}
use Rattle.export_charts.specs.declared.JirdMeasured.{JirdMeasured}

-- the numbers of a load's or an edit's answer, with the counts that its chart has then
abbrev pub changed_numbers : Result (Unit {0}) Refusal → ℕ → ℕ → JirdChanged
changed_numbers r triangles entries = record {
  number = outcome_number (outcome_of r);
  value = outcome_value (outcome_of r);
  triangles = triangles;
  entries = entries;
}

-- all that a load or an edit gives back: these numbers, and the lists that were lent, as it leaves them
abbrev pub changed_left : Lent → Lent → Lent → Lent → JirdChanged → Calls.Changed
changed_left table keys levels items r = record {
  number = r.number;
  value = r.value;
  chart = left_chart table keys levels items r.triangles r.entries;
}

-- soundness as numbers: 1 for yes
abbrev pub sound_numbers : Calls.Soundness → JirdSounded
sound_numbers s = record { number = s.number; sound = cond s.is_sound 1 0 }

-- doubled area as numbers
abbrev pub area_numbers : Calls.Area → JirdMeasured
area_numbers a = record { number = a.number; area = a.area }
