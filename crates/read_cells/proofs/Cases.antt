-- Two functions agree at every number below n, when one computation finds their values in order the same.
-- Assumes nothing.
use mathlib.Core.Path.{◌≡◌, sym, ◌∙◌, ap}
use mathlib.Core.List.{map}
use Prim.Native.Nat.{ℕ, zero, suc, ◌+◌, ◌<◌}
use native.Mathlib.Nat.{zero-add, add-zero, add-suc, suc-add}
use native.Mathlib.Omega.{arith}
use lib.ListN.{get_or}
use Rattle.theory_lists.specs.Lists.{count_from}

-- the value at place i of those from k on
value-at : (f : ℕ → ℕ) (k n i : ℕ) → i < n → get_or (map f (count_from k n)) i 0 ≡ f (k + i)
unfolding count_from
value-at f k zero i h = absurd (omega arith)
value-at f k (suc n) zero h = rw add-zero
value-at f k (suc n) (suc i) h = rw (add-suc k i, ← suc-add k i) (value-at f (suc k) n i (omega arith))

pub agree-below : (f g : ℕ → ℕ) (n : ℕ) → map f (count_from 0 n) ≡ map g (count_from 0 n) → (i : ℕ) → i < n → f i ≡ g i
agree-below f g n e i h =
    ap f (sym (zero-add i)) ∙ sym (value-at f 0 n i h) ∙ ap (λ l. get_or l i 0) e ∙ value-at g 0 n i h ∙ ap g (zero-add i)
