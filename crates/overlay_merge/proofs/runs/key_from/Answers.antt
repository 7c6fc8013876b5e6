use borrow.Author.Tests.{lt-ltb, le-ltb}
use lib.ListN.{length}
use Rattle.theory_orthtree.specs.KeyCells.{key_from}
use Rattle.overlay_merge.proofs.runs.key_from.Goals as goal

pub returns-then-i-keys : goal.returns-then-i-keys
unfolding key_from
returns-then-i-keys c = rw (lt-ltb c.args.i (length c.args.keys.now) c.if-i-keys.true) c.from.ensures

pub returns-else-i-keys : goal.returns-else-i-keys
unfolding key_from
returns-else-i-keys c = rw (le-ltb c.args.i (length c.args.keys.now) c.if-i-keys.false)
