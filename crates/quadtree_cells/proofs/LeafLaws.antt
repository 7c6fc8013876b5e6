-- What a leaf writes: one entry for each candidate, or the mark.
-- Assumes nothing.
use mathlib.Core.Path.{◌≡◌, refl}
use mathlib.Core.List.{List, [], ◌∷◌}
use Prim.Native.Nat.{ℕ, ◌<◌, max}
use native.Mathlib.Omega.{arith}
use lib.ListN.{length}
use Rattle.theory_orthtree.specs.Entries.{empty_mark}
use Rattle.spec_charts.specs.Cells.{or_mark}

-- the items of a cell that nothing meets, and of another
pub mark-none : (l : List ℕ) → length l ≡ 0 → or_mark l ≡ empty_mark ∷ []
unfolding or_mark
mark-none [] h = refl
mark-none (x ∷ xs) h = absurd (omega arith)

pub mark-some : (l : List ℕ) → 0 < length l → or_mark l ≡ l
unfolding or_mark
mark-some [] h = absurd (omega arith)
mark-some (x ∷ xs) h = refl

-- how many they are
pub mark-length : (l : List ℕ) → length (or_mark l) ≡ max 1 (length l)
unfolding or_mark
mark-length [] = refl
mark-length (x ∷ xs) = omega arith
