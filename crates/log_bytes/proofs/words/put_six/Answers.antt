use Rattle.std.proofs.Common.{◌≡◌, ◌+◌, ◌∷◌, [], length, drop, ◌∙◌, ap, arith}
use Rattle.spec_log.specs.Log.{words_of}
use Rattle.log_lines.proofs.LineLaws.{wrote-set, wrote_as, wrote-length, bytes-step, bytes-all}
use Rattle.log_bytes.proofs.WordLaws.{words-length, word_after}
use Rattle.log_bytes.proofs.words.put_six.Goals as goal

pub loop-k-preserved : goal.loop-k-preserved
loop-k-preserved c =
    let ws = words_of 6 (drop 1 c.args.held.now) in
    let k = c.loop-k.k in
    let n : length ws ≡ 6 = words-length 6 (drop 1 c.args.held.now) in
    let inv = c.loop-k.invariant in
    let same = c.word.ensures ∙ word_after 6 1 c.args.held.now k (omega arith) in
    let one = wrote_as (ap (λ v. v ∷ []) same) (wrote-set c.loop-k.numbers (c.args.at + k) c.word.result (omega (arith, wrote-length inv))) in
    let more = bytes-step ws k (omega arith) inv one in
    record { end = omega (arith, more.end); stored = more.stored; room = omega (arith, more.room) }

pub returns : goal.returns
returns c =
    let ws = words_of 6 (drop 1 c.args.held.now) in
    let n : length ws ≡ 6 = words-length 6 (drop 1 c.args.held.now) in
    let all = bytes-all ws c.loop-k.k (omega arith) c.loop-k.invariant in
    record { end = omega arith; stored = all.stored; room = omega (arith, all.room) }
