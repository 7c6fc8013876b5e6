use mathlib.Core.Path.{◌≡◌}
use Prim.Native.Nat.{◌-◌}
use native.Mathlib.Omega.{arith}
use Rattle.theory_orthtree.specs.Entries.{span}
use Rattle.spec_squares.specs.Square.{arity, depth}
use Rattle.window_keys.specs.Sides.{beyond}
use Rattle.window_keys.proofs.KeySides.is_beyond.Goals as goal

pub returns : goal.returns
unfolding beyond
returns c =
    let e : c.low_bits.result ≡ span arity depth c.args.level - 1 = omega (arith, c.low_bits.ensures) in
    rw e
