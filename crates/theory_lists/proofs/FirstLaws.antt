-- The first element that passes a test, searched for from the start of the list on.
-- Assumes nothing.
use mathlib.Core.Path.{◌≡◌, refl, ap, ap₂}
use mathlib.Core.Bool.{Bool, true, false}
use mathlib.Core.List.{List, [], ◌∷◌}
use mathlib.Core.Option.{Option, none, some}
use Prim.Native.Nat.{ℕ, ◌+◌, ◌≤◌, ◌<◌}
use native.Mathlib.Numerals.{add-one}
use lib.ListN.{length, get_or, drop, drop_of_length-le}
use lib.Seq.{drop-cons}
use Rattle.theory_lists.specs.Lists.{first}
use Rattle.theory_lists.proofs.ListsLaws.{Every, every-uncons}

-- tests that agree on the elements find the same one
pub first-agree : {A : Type 0} (f g : A → Bool) (l : List A) → Every (λ x. f x ≡ g x) l → first f l ≡ first g l
unfolding first
first-agree f g [] h = refl
first-agree {A} f g (x ∷ xs) h =
    let e = every-uncons h in
    ap₂ (λ (b : Bool) (r : Option A). elim b [ true ↦ some x | false ↦ r ]) e.0 (first-agree f g xs e.1)

module _ (f : ℕ → Bool) (l : List ℕ) where
  -- from place k on there is nothing to find
  pub first-over : (k : ℕ) → length l ≤ k → first f (drop k l) ≡ none
  unfolding first
  first-over k h = ap (first f) (drop_of_length-le l h)

  module _ (k : ℕ) (h : k < length l) where
    -- the element at place k passes
    pub first-here : f (get_or l k 0) ≡ true → first f (drop k l) ≡ some (get_or l k 0)
    unfolding first
    first-here e = rw (drop-cons l k 0 h, first, e)

    -- it does not pass
    pub first-later : f (get_or l k 0) ≡ false → first f (drop k l) ≡ first f (drop (k + 1) l)
    unfolding first
    first-later e = rw (add-one k, drop-cons l k 0 h, first, e)
