-- Examples of the definitions.
-- Assumes nothing.
use mathlib.Core.Path.{◌≡◌, refl}
use mathlib.Core.List.{List, [], ◌∷◌, ◌++◌, map}
use Prim.Native.Nat.{ℕ, zero, suc, ◌≤◌, ◌<◌}
use native.Mathlib.Omega.{arith}
use lib.ListN.{get_or}
use Rattle.theory_orthtree.specs.KeyCells.{CellEnd, RunEnd, changes_after, key_cells, key_from}

abbrev keys : List ℕ
keys = 3 ∷ 5 ∷ 5 ∷ 9 ∷ []

-- the cell at place 0 has one entry, that at place 1 has two, and that at place 3 ends where the keys do
first-cell-example : CellEnd keys 4 0 1
first-cell-example = record {
  after = omega arith;
  within = omega arith;
  same = same;
  other = λ h e. omega arith;
}
  where
    same : (i : ℕ) → 0 ≤ i → i < 1 → get_or keys i 0 ≡ 3
    same zero h l = refl
    same (suc i) h l = absurd (omega arith)

cell-example : CellEnd keys 4 1 3
cell-example = record {
  after = omega arith;
  within = omega arith;
  same = same;
  other = λ h e. omega arith;
}
  where
    same : (i : ℕ) → 1 ≤ i → i < 3 → get_or keys i 0 ≡ 5
    same zero h l = absurd (omega arith)
    same (suc zero) h l = refl
    same (suc (suc zero)) h l = refl
    same (suc (suc (suc i))) h l = absurd (omega arith)

last-cell-example : CellEnd keys 4 3 4
last-cell-example = record {
  after = omega arith;
  within = omega arith;
  same = λ i h l. let e : i ≡ 3 = omega arith in rw e refl;
  other = λ h e. absurd (omega arith);
}

-- the keys from place 0 on reach 9 at place 3, and those from place 1 on do not reach 10
run-example : RunEnd keys 4 0 9 3
run-example = record {
  from = omega arith;
  within = omega arith;
  below = below;
  reached = λ h. omega arith;
}
  where
    below : (i : ℕ) → 0 ≤ i → i < 3 → get_or keys i 0 < 9
    below zero h l = omega arith
    below (suc zero) h l = omega arith
    below (suc (suc zero)) h l = omega arith
    below (suc (suc (suc i))) h l = absurd (omega arith)

last-run-example : RunEnd keys 4 1 10 4
last-run-example = record {
  from = omega arith;
  within = omega arith;
  below = below;
  reached = λ h. absurd (omega arith);
}
  where
    below : (i : ℕ) → 1 ≤ i → i < 4 → get_or keys i 0 < 10
    below zero h l = absurd (omega arith)
    below (suc zero) h l = omega arith
    below (suc (suc zero)) h l = omega arith
    below (suc (suc (suc zero))) h l = omega arith
    below (suc (suc (suc (suc i)))) h l = absurd (omega arith)

-- none, one, the same and another, all the same, all different, and a key that comes back
cells-example : map key_cells ([] ∷ (7 ∷ []) ∷ (7 ∷ 7 ∷ 9 ∷ []) ∷ (0 ∷ 0 ∷ 0 ∷ []) ∷ (0 ∷ 4 ∷ 8 ∷ []) ∷ (0 ∷ 0 ∷ 4 ∷ 5 ∷ 5 ∷ 5 ∷ 8 ∷ 0 ∷ []) ∷ [])
    ≡ 0 ∷ 1 ∷ 2 ∷ 1 ∷ 3 ∷ 5 ∷ []
unfolding key_cells changes_after
cells-example = refl

-- after the key 3: none, the same, another; the same again and then another; another and then the first again
changes-example : map (changes_after 3) ([] ∷ (3 ∷ []) ∷ (4 ∷ []) ∷ (3 ∷ 3 ∷ 5 ∷ []) ∷ (4 ∷ 3 ∷ []) ∷ (4 ∷ 4 ∷ []) ∷ [])
    ≡ 0 ∷ 0 ∷ 1 ∷ 1 ∷ 2 ∷ 1 ∷ []
unfolding changes_after
changes-example = refl

-- the keys at places 0 and 1 of the first two, and the end at place 2 and after, though there is a third key; 0 where a key is missing
from-example : map (key_from (3 ∷ 5 ∷ 9 ∷ []) 2 16) (0 ∷ 1 ∷ 2 ∷ 3 ∷ []) ++ (key_from (3 ∷ []) 2 16 1 ∷ []) ≡ 3 ∷ 5 ∷ 16 ∷ 16 ∷ 0 ∷ []
unfolding key_from
from-example = refl

-- the end of a run, with places and keys beyond 32 bits
run-end-within : RunEnd [] 5000000003 5000000003 7000000001 5000000003
run-end-within = record { from = omega arith; within = omega arith; below = λ i h k. absurd (omega arith); reached = λ h. absurd (omega arith) }

run-end-keys : RunEnd (6000000007 ∷ 8000000009 ∷ []) 2 0 7000000001 1
run-end-keys = record {
  from = omega arith;
  within = omega arith;
  below = below;
  reached = λ h. omega arith;
}
  where
    below : (i : ℕ) → 0 ≤ i → i < 1 → get_or (6000000007 ∷ 8000000009 ∷ []) i 0 < 7000000001
    below zero h k = omega arith
    below (suc i) h k = absurd (omega arith)

-- the end of a cell, with places beyond 32 bits: after the last key all places have the same
cell-end-large : CellEnd [] 5000000004 5000000003 5000000004
cell-end-large = record { after = omega arith; within = omega arith; same = λ i h k. refl; other = λ h e. omega arith }
