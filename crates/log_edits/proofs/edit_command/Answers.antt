-- The command byte and its operands are the numbers of its call.
use mathlib.Core.Path.{sym, subst}
use lib.ListN.{get_or}
use Rattle.replay_calls.specs.Encoding.{IsCall}
use Rattle.log_bytes.specs.Words.{word_at}
use Rattle.log_edits.proofs.EditLaws.{edit-call, edit-ran}
use Rattle.log_edits.proofs.edit_command.Goals as goal

pub event_command-requires : goal.event_command-requires
event_command-requires c =
    let h = c.requires.0 in
    let held = c.args.held.now in
    (subst IsCall (sym c.edit_numbers-numbers.ensures) (edit-call (get_or held 0 0) (word_at held 2) (word_at held 4) h.0 h.1), c.requires.1)

pub returns-clause-ran_edit : goal.returns-clause-ran_edit
returns-clause-ran_edit c =
    let h = c.requires.0 in
    let e = c.event_command.ensures.ran_call in
    λ s k. edit-ran c.args.held.now c.edit_numbers-numbers.result c.edit_numbers-numbers.ensures h.0 h.1 s (e s k)
