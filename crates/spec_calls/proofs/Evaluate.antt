-- `unfolding evaluate` opens these definitions and all that they are written in, so that closed facts about them compute.
-- Assumes nothing.
use Rattle.spec_window.proofs.Evaluate.{evaluate as plainly}
use Rattle.spec_calls.specs.Buffers.{too_short, padded, zip_entries, chart_table, chart_entries, table_rule, entry_count_fits, entries_rule, chain_rule, same_entries, indexed, chart_with, indexed_chart}
use Rattle.spec_calls.specs.Calls.{if_long, if_chained, if_indexed, changed_by, load_call, edit_call, reading, locate_call, listing_call, sound_call, area_call, windowed_by, window_call, pairs_refused, overlaid_by, overlay_call}
use Rattle.spec_calls.specs.History.{event_call, chart_after}

unfoldable pub evaluate : Unit {0}
unfolding plainly too_short padded zip_entries chart_table chart_entries table_rule entry_count_fits entries_rule chain_rule same_entries indexed chart_with indexed_chart if_long if_chained if_indexed changed_by load_call edit_call reading locate_call listing_call sound_call area_call windowed_by window_call pairs_refused overlaid_by overlay_call event_call chart_after
evaluate = tt
