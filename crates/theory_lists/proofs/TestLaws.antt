-- Laws on tests: two joined by "and" or "or", where the second may use that the first passes, and comparisons that pass together.
-- Assumes nothing.
use mathlib.Core.Path.{◌≡◌, refl, sym, ap}
use mathlib.Core.Bool.{Bool, true, false, false≢true, ◌&&◌, ◌||◌}
use Prim.Native.Nat.{ℕ, ◌≤◌, max}
use native.Mathlib.Omega.{arith}
use lib.Dec.{leb, eqb}
use Rattle.theory_lists.proofs.Reflects.{reflects-and, reflects-leb, reflects-eqb, reflects-iff}
use Rattle.theory_lists.proofs.IndexLaws.{reflects-same}

-- the second test counts only where the first passes
pub and_then : (a : Bool) {b c : Bool} → (a ≡ true → b ≡ c) → a && b ≡ a && c
and_then true h = h refl
and_then false h = refl

-- a test that follows from the first may be left out
pub and-skip : (a b c : Bool) → (a ≡ true → b ≡ true) → a && c ≡ a && b && c
and-skip true b c h = ap (λ d. d && c) (sym (h refl))
and-skip false b c h = refl

-- the second of two tests that pass
pub and_second : (a b : Bool) → a && b ≡ true → b ≡ true
and_second true b h = h
and_second false b h = absurd (false≢true h)

-- two comparisons that pass together are one
pub leb-same : (a b c d : ℕ) → (a ≤ b → c ≤ d) → (c ≤ d → a ≤ b) → leb a b ≡ leb c d
leb-same a b c d f g = reflects-same (reflects-leb a b) (reflects-iff g f (reflects-leb c d))

pub eqb_same : (a b c d : ℕ) → (a ≡ b → c ≡ d) → (c ≡ d → a ≡ b) → eqb a b ≡ eqb c d
eqb_same a b c d f g = reflects-same (reflects-eqb a b) (reflects-iff g f (reflects-eqb c d))

-- the larger of two numbers is at most m when both are
pub leb-max : (a b m : ℕ) → leb (max a b) m ≡ leb a m && leb b m
leb-max a b m =
    reflects-same (reflects-leb (max a b) m)
    (reflects-iff (λ p. omega arith) (λ l. (omega arith, omega arith)) (reflects-and (reflects-leb a m) (reflects-leb b m)))

-- a second test that fails, or passes
pub or-fails : (a : Bool) {b : Bool} → b ≡ false → a ≡ a || b
or-fails true h = refl
or-fails false h = sym h

pub or-passes : (a : Bool) {b : Bool} → b ≡ true → a || b ≡ true
or-passes true h = refl
or-passes false h = h
