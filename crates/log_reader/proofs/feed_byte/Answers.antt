-- The bytes held and one more are no command's, want more, or are a whole command's, which is run.
use Rattle.std.proofs.Common.{◌≤◌, ◌<◌, sym, ◌∙◌, arith, length-set}
use Rattle.log_lines.proofs.LineLaws.{bad-short}
use Rattle.log_reader.proofs.FeedLaws.{fed-bad, fed-more, fed-whole}
use Rattle.log_reader.proofs.feed_byte.Goals as goal

pub put_bad-at-requires : goal.put_bad-at-requires
put_bad-at-requires c = omega (arith, bad-short c.args.reader.offset (omega arith), c.requires.waiting_length_in_bounds.1.1)

pub returns-then-is_bad-clause-fed : goal.returns-then-is_bad-clause-fed
returns-then-is_bad-clause-fed c =
    let ready = c.requires.ready.0 in
    let h = sym c.is_bad.ensures ∙ c.if-is_bad.true in
    λ q k. fed-bad k c.args.x ready.places ready.few c.requires.ready.1.0 h c.put_bad-at.ensures

pub returns-then-is_bad-clause-ready_2 : goal.returns-then-is_bad-clause-ready_2
returns-then-is_bad-clause-ready_2 c =
    let r = c.args.reader in
    let ready = c.requires.ready.0 in
    (record { places = length-set r.held r.count c.args.x ∙ ready.places; few = omega arith; whole = ready.whole }, (c.put_bad-at.ensures.room, omega arith))

pub returns-then-reader-size-clause-fed : goal.returns-then-reader-size-clause-fed
returns-then-reader-size-clause-fed c =
    let r = c.args.reader in
    let ready = c.requires.ready.0 in
    let h = sym c.is_bad.ensures ∙ c.if-is_bad.false in
    let less : r.count < c.operand_bytes-size.result = omega arith in
    let most = c.operand_bytes-size.ensures in
    λ q k. fed-more k c.args.x ready.places ready.few c.requires.ready.1.0 h (omega (arith, most.0, less)) (omega (arith, c.requires.waiting_length_in_bounds.1.1))

pub returns-then-reader-size-clause-ready_2 : goal.returns-then-reader-size-clause-ready_2
returns-then-reader-size-clause-ready_2 c =
    let r = c.args.reader in
    let ready = c.requires.ready.0 in
    let less : r.count < c.operand_bytes-size.result = omega arith in
    let most = c.operand_bytes-size.ensures in (
      record { places = length-set r.held r.count c.args.x ∙ ready.places; few = omega (arith, most.1, less); whole = ready.whole },
      (omega (arith, c.requires.waiting_length_in_bounds.1.1), omega arith),
    )

pub returns-clause-fed : goal.returns-clause-fed
returns-clause-fed c =
    let r = c.args.reader in
    let ready = c.requires.ready.0 in
    let h = sym c.is_bad.ensures ∙ c.if-is_bad.false in
    let same = c.operand_bytes-size.ensures.0 in
    -- the command was not cut
    let enough : c.operand_bytes-size.result ≤ r.count = omega arith in
    let done = c.run_command-done.ensures.ran in
    rw same
    (λ q k. fed-whole k c.args.x ready.places ready.few c.requires.ready.1.0 h (omega (arith, same, enough)) (done q.state k.running))

pub returns-clause-ready_2 : goal.returns-clause-ready_2
returns-clause-ready_2 c =
    let r = c.args.reader in
    let ready = c.requires.ready.0 in
    let same = c.operand_bytes-size.ensures.0 in
    let enough : c.operand_bytes-size.result ≤ r.count = omega arith in
    let done = c.run_command-done.ensures.at_in_bounds in (
      record { places = length-set r.held r.count c.args.x ∙ ready.places; few = omega arith; whole = done.1 },
      (done.0, omega (arith, same, enough)),
    )
