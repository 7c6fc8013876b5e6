use Rattle.std.proofs.lemmas.Nat.{shr_le}
use Rattle.std.proofs.Common.{rules}
use Rattle.spec_squares.proofs.SideLaws.{shift-side}
use Rattle.spec_squares.proofs.Square.side.Goals as goal

pub returns : goal.returns
returns c = let s = c.args.self in (shift-side s.level (search rules), shr_le 65536 s.level)
