use borrow.Author.Rules.{rules}
use Rattle.log_events.specs.declared.BothCharts.{BothCharts}
use Rattle.log_events.specs.Both.{SameBoth}
use Rattle.spec_calls.proofs.SameListsLaws.{same-lists}
use Rattle.log_reader.proofs.ReadLaws.{read_none, read_more}
use Rattle.log_reader.proofs.read_portion.Goals as goal

same-both : {a b c : BothCharts} → SameBoth b c → SameBoth a b → SameBoth a c
same-both h k = record { first = same-lists k.first h.first; second = same-lists k.second h.second }

pub loop-used-init : goal.loop-used-init
loop-used-init c = record { read = read_none _ _ _ _ _ _ c.requires.ready.0; same_lists = search rules }

pub loop-used-preserved : goal.loop-used-preserved
loop-used-preserved c =
    let e = c.feed_byte-fed.ensures in
    let i = c.loop-used.invariant in
    record { read = read_more i.read c.loop-used-test.true e.fed e.ready_2; same_lists = same-both e.same_lists i.same_lists }
