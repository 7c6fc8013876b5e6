use borrow.Author.Rules.{rules}
use Rattle.base_entries.specs.Packed.{packed}
use Rattle.base_entries.proofs.pack.Goals as goal

pub returns : goal.returns
unfolding packed
returns c = search rules
