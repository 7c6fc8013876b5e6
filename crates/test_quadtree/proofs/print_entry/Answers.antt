-- A line of three numbers of 32 bits and fewer takes at most 63 bytes.
use native.Mathlib.Omega.{arith}
use mathlib.Core.List.{[], ◌∷◌}
use Prim.Native.Nat.{◌^◌, ◌<◌}
use Rattle.theory_lists.proofs.ListsLaws.{Every, every-cons}
use Rattle.theory_lists.proofs.EveryLaws.{every-nil}
use Rattle.log_lines.proofs.LineLaws.{line-short}
use Rattle.test_quadtree.proofs.print_entry.Goals as goal

pub put_line-end-requires : goal.put_line-end-requires
put_line-end-requires g c =
    let level = c.from in
    let item = c.from-2 in
    let few : Every (λ m. m < 2 ^ 64) (level.result ∷ item.result ∷ []) = every-cons (omega arith, every-cons (omega arith, every-nil (λ m. m < 2 ^ 64))) in
    let key : c.from-3.result < 2 ^ 64 = omega arith in
    omega (arith, line-short c.from-3.result (level.result ∷ item.result ∷ []) key few)
