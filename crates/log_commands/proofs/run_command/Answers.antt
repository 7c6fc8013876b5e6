-- The command byte chooses; each command is a step of the program, and what it does not lend stays.
use Rattle.std.proofs.Common.{◌≡◌, get_or, arith}
use Rattle.log_commands.proofs.CommandLaws.{as-wait, as_load, as-edit, as-locate, as-overlay}
use Rattle.log_commands.proofs.run_command.Goals as goal

pub returns-in-1-clause-ran : goal.returns-in-1-clause-ran
returns-in-1-clause-ran c =
    let bytes = c.args.held.now in
    λ s r. as-wait (get_or bytes 0 0) bytes s c.in-1.is c.wait_command.ensures r

pub returns-in-2-clause-ran : goal.returns-in-2-clause-ran
returns-in-2-clause-ran c =
    let bytes = c.args.held.now in
    let h = c.load_command-at.ensures.ran_load in
    λ s r. as_load (get_or bytes 0 0) bytes s c.load_command-at.new.waiting c.in-2.is (h s r)

pub returns-in-3-to-5-clause-ran : goal.returns-in-3-to-5-clause-ran
returns-in-3-to-5-clause-ran c =
    let bytes = c.args.held.now in
    let h = c.edit_command-at.ensures.ran_edit in
    λ s r. as-edit (get_or bytes 0 0) bytes s (omega arith) (omega arith) r.waits (h s r.charts)

pub returns-in-6-clause-ran : goal.returns-in-6-clause-ran
returns-in-6-clause-ran c =
    let bytes = c.args.held.now in
    let h = c.locate_command-at.ensures.prints in
    λ s r. as-locate (get_or bytes 0 0) bytes s c.word.result c.word-in-6.result c.in-6.is c.word.ensures c.word-in-6.ensures (h s r.charts) r

-- the last command is none of the others
pub returns-in_default-clause-ran : goal.returns-in_default-clause-ran
returns-in_default-clause-ran c =
    let bytes = c.args.held.now in
    let not-1 : get_or bytes 0 0 ≡ 1 → ⊥ = omega arith in
    let not-2 : get_or bytes 0 0 ≡ 2 → ⊥ = omega arith in
    let not-3 : get_or bytes 0 0 ≡ 3 → ⊥ = omega arith in
    let not-4 : get_or bytes 0 0 ≡ 4 → ⊥ = omega arith in
    let not-5 : get_or bytes 0 0 ≡ 5 → ⊥ = omega arith in
    let not-6 : get_or bytes 0 0 ≡ 6 → ⊥ = omega arith in
    let h = c.overlay_command-at.ensures.prints in
    λ s r. as-overlay (get_or bytes 0 0) bytes s not-1 not-2 not-3 not-4 not-5 not-6 (h s r.charts) r
