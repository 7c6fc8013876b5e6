-- Tests as the bits of a number.
-- Assumes nothing.
use Rattle.std.specs.Prelude.{Bool, true, false, cond, List, [], ◌∷◌, ℕ, ◌+◌, ◌*◌, ◌/◌, ◌%◌, eqb}

-- 1 where the test passes, else 0
abbrev pub bit : Bool → ℕ
bit false = 0
bit true = 1

-- tests as one number, the first at its lowest bit
unfoldable pub mask_of : List Bool → ℕ
mask_of [] = 0
mask_of (b ∷ bs) = bit b + 2 * mask_of bs

-- the elements of a list whose bit the mask has
unfoldable pub masked : {A : Type 0} → ℕ → List A → List A
masked m [] = []
masked m (x ∷ xs) = cond (eqb (m % 2) 1) (x ∷ masked (m / 2) xs) (masked (m / 2) xs)
