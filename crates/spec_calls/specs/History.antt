-- Document 01, "Overlay": lists of events on a chart.
-- Assumes nothing.
use Rattle.std.specs.Prelude.{List, [], ◌∷◌}
use Rattle.spec_charts.specs.Edits.{Event, load, insert, take_out, flip}
use Rattle.spec_calls.specs.Buffers.{Chart}
use Rattle.spec_calls.specs.Calls.{Changed, load_call, edit_call}

-- the call of an event
unfoldable pub event_call : Event → Chart → Changed
event_call (load ns) c = load_call ns c
event_call (insert p) c = edit_call (insert p) c
event_call (take_out p) c = edit_call (take_out p) c
event_call (flip i j) c = edit_call (flip i j) c

-- "Each later call gets its chart's table, three entry lists and both counts as the call before it on that chart left or
-- returned them"
unfoldable pub chart_after : List Event → Chart → Chart
chart_after [] c = c
chart_after (e ∷ es) c = chart_after es (event_call e c).chart
