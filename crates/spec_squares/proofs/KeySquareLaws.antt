-- The square of a key: a square is found again by its key and level, and a key by its square.
-- Assumes nothing.
use mathlib.Core.Path.{◌≡◌, ◌∙◌}
use mathlib.Core.List.{[], ◌∷◌}
use Prim.Native.Nat.{ℕ, ◌<◌}
use native.Mathlib.Nat.{mod-eq_of_lt}
use native.Mathlib.Omega.{arith}
use Rattle.theory_lists.specs.Lists.{count_from, up_to}
use Rattle.theory_orthtree.proofs.KeyLaws.{coordinate-of-key, key-of-coordinates}
use Rattle.spec_squares.specs.declared.Square.{Square}
use Rattle.spec_squares.specs.Square.{depth, z_order, square_key, square_of_key, Aligned}
use Rattle.spec_squares.proofs.SquareLaws.{side-positive}

pub square-of-key : (s : Square) → Aligned s → square_of_key (square_key s) s.level ≡ s
unfolding square_of_key square_key z_order
square-of-key s ok =
    let h = side-positive s.level in
    let cs = s.x ∷ s.y ∷ [] in
    let x = coordinate-of-key depth 0 cs (omega arith) ∙ mod-eq_of_lt (omega (arith, ok.right)) in
    let y = coordinate-of-key depth 1 cs (omega arith) ∙ mod-eq_of_lt (omega (arith, ok.bottom)) in
    λ k. record { x = x k; y = y k; level = s.level }

pub key-of-square : (k level : ℕ) → k < 4294967296 → square_key (square_of_key k level) ≡ k
unfolding square_of_key square_key z_order up_to count_from
key-of-square k level h = key-of-coordinates 2 depth k ∙ mod-eq_of_lt h
