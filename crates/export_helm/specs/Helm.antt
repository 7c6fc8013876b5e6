-- What the helm's exports answer, by the calls' own definitions.
-- Assumes nothing.
use Rattle.spec_plane.specs.Position.{position_number}
use Rattle.spec_calls.specs.Lent.{Lent}
use Rattle.spec_calls.specs.Calls as Calls
use Rattle.base_answers.specs.Outcomes.{found_number}
use Rattle.export_helm.specs.declared.JirdLocated.{JirdLocated}
use Rattle.export_helm.specs.declared.JirdOverlaid.{JirdOverlaid}
use Rattle.export_helm.specs.declared.JirdWindowed.{JirdWindowed}

-- locate's number, "the triangle or 65535", and "the same numbers, and 7 for outside"
abbrev pub located_numbers : Calls.Located → JirdLocated
located_numbers l = record { number = l.number; triangle = found_number l.found; position = position_number l.position }

-- all that an overlay gives back: the numbers of its answer, and the pairs list that was lent, as it leaves it
abbrev pub overlaid_left : Lent → JirdOverlaid → Calls.Overlaid
overlaid_left pairs r = record { number = r.number; pair_count = r.pairs; meets = r.meetings; pairs = pairs.exit.now }

-- all that a window gives back: the numbers of its answer, and the list that was lent, as it leaves it
abbrev pub windowed_left : Lent → JirdWindowed → Calls.Windowed
windowed_left list r = record { number = r.number; listed = r.listed; list = list.exit.now }
