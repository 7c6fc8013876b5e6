-- The key of quarter k is k steps on from the square's.
use mathlib.Core.Path.{sym, ◌∙◌, ap, ap₂}
use Prim.Native.Nat.{◌+◌, ◌*◌, ◌-◌, ◌^◌, ◌≤◌}
use native.Mathlib.Nat.{mul-le-mul}
use native.Mathlib.Omega.{arith}
use Rattle.spec_squares.specs.Square.{arity, depth, square_key}
use Rattle.spec_squares.proofs.SquareLaws.{quarter-key}
use Rattle.quadtree_cells.proofs.StepLaws.{key-small}
use Rattle.quadtree_cells.proofs.quarters.keyed_quarter.Goals as goal

pub overflow_add-result : goal.overflow_add-result
overflow_add-result c =
    let steps : c.from.result * c.key_step-step.result ≤ arity * arity ^ (depth - 1) =
    mul-le-mul {n₂ = arity} {m₂ = arity ^ (depth - 1)} (omega arith) c.key_step-step.ensures.1 in
    omega (arith, key-small c.args.s.square)

pub returns : goal.returns
returns c =
    let a = c.args in
    let q = c.quarter.ensures in (
      q,
      ap₂ ◌+◌ c.requires.0.key (ap₂ ◌*◌ c.from.ensures c.key_step-step.ensures.0)
          ∙ sym (ap square_key q ∙ quarter-key a.s.square c.requires.0.aligned c.requires.1.level a.k c.requires.1.number),
    )
