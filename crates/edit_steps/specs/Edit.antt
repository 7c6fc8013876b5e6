-- The edits of a chart, as events of its plain table.
-- Assumes nothing.
use Rattle.spec_charts.specs.Edits.{Event, insert, take_out, flip}
use Rattle.edit_steps.specs.declared.Edit.{Edit}
use Rattle.edit_steps.specs.declared.Edit.TheVariants.{Insert, TakeOut, Flip}

-- the event of an edit
abbrev pub event_of : Edit → Event
event_of (Insert p) = insert p
event_of (TakeOut p) = take_out p
event_of (Flip i j) = flip i j
