-- Two folds over one list, side by side.
-- Assumes nothing.
use mathlib.Core.List.{List, [], ◌∷◌, foldl}
use Rattle.theory_lists.proofs.ListsLaws.{Every, every-uncons}

-- what every step keeps between two states, for elements with P, two folds keep from their starts to their ends
pub fold-related : {A B C : Type 0} (R : B → C → Type 0) (P : A → Type 0) (f : B → A → B) (g : C → A → C)
    → ((a : A) (b : B) (c : C) → P a → R b c → R (f b a) (g c a))
    → (l : List A) (b : B) (c : C) → Every P l → R b c → R (foldl f b l) (foldl g c l)
fold-related R P f g step [] b c h r = r
fold-related R P f g step (a ∷ l) b c h r =
    let p = every-uncons h in fold-related R P f g step l (f b a) (g c a) p.1 (step a b c p.0 r)
