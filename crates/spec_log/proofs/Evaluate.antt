-- `unfolding evaluate` opens these definitions and all that they are written in, so that closed facts about them compute.
-- Assumes nothing.
use Rattle.spec_charts.proofs.Evaluate.{evaluate as plainly}
use Rattle.spec_log.specs.Log.{digits, decimal, spaced, line, heading, bad_line, start_state, table_in, with_chart, with_waiting, refusal_numbers, event_numbers, event_step, wait_step, load_step, located_numbers, locate_step, overlay_lines, overlay_step, point_operand, run_command, known, takes_chart, word_count, chart_bytes, operand_bytes, words_of, well_formed, step_of, log_from, log_of}

unfoldable pub evaluate : Unit {0}
unfolding plainly digits decimal spaced line heading bad_line start_state table_in with_chart with_waiting refusal_numbers event_numbers event_step wait_step load_step located_numbers locate_step overlay_lines overlay_step point_operand run_command known takes_chart word_count chart_bytes operand_bytes words_of well_formed step_of log_from log_of
evaluate = tt
