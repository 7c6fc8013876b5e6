use lib.ListN.{get_or}
use Rattle.log_bytes.proofs.ByteLaws.{bad-test}
use Rattle.log_bytes.proofs.command_bytes.is_bad.Goals as goal

pub returns : goal.returns
returns c =
    bad-test (get_or c.args.held.now 0 0) c.args.count c.args.held.now c.known.ensures c.takes_chart.ensures
