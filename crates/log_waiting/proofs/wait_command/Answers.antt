-- Fewer than 3,072 numbers wait, so there is room for six more; or as many wait, and the triangle is dropped.
use native.Mathlib.Omega.{arith}
use lib.ListN.{drop}
use Rattle.spec_log.specs.Log.{words_of}
use Rattle.log_events.proofs.EventLaws.{room-two}
use Rattle.log_bytes.proofs.WordLaws.{words-length}
use Rattle.log_waiting.proofs.WaitLaws.{wait-more, wait-full}
use Rattle.log_waiting.proofs.wait_command.Goals as goal

pub returns-then-waits-lt-TABLE_NUMBERS : goal.returns-then-waits-lt-TABLE_NUMBERS
returns-then-waits-lt-TABLE_NUMBERS c =
    let a = c.args in
    let ws = words_of 6 (drop 1 a.held.now) in
    wait-more ws a.waits a.at a.out.now a.waiting.now c.requires.0 c.requires.1.0 (omega arith) (words-length 6 (drop 1 a.held.now))
    (omega arith) c.put_six.ensures

pub put_line-next-requires : goal.put_line-next-requires
put_line-next-requires c =
    omega (arith, c.requires.1.1, room-two 1 4 (omega arith) (omega arith))

pub returns : goal.returns
returns c =
    let a = c.args in
    let ws = words_of 6 (drop 1 a.held.now) in
    wait-full ws a.waits a.at a.out.now a.waiting.now c.requires.0 c.requires.1.0 (omega arith) c.put_line-next.ensures
