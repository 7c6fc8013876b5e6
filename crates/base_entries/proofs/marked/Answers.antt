use borrow.Author.Rules.{rules}
use Rattle.theory_orthtree.specs.Entries.{empty_mark}
use Rattle.base_entries.proofs.marked.Goals as goal

pub returns : goal.returns
unfolding empty_mark
returns c = search rules
