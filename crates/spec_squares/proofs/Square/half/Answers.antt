use Rattle.std.proofs.lemmas.Nat.{shr_le}
use Rattle.std.proofs.Common.{rules}
use Rattle.spec_squares.proofs.SideLaws.{shift-half}
use Rattle.spec_squares.proofs.Square.half.Goals as goal

pub returns : goal.returns
returns c = let s = c.args.self in (shift-half s.level (search rules), shr_le 32768 s.level)
