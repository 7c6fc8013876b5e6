-- `Every` of lists that are built from others.
-- Each law takes an element of the built list back to where it came from.
-- Assumes nothing.
use mathlib.Core.Path.{◌≡◌, refl, ap₂, subst}
use mathlib.Core.List.Memᴰ
use mathlib.Core.List.{List, [], ◌∷◌, ◌++◌, map, flat_map}
use mathlib.Core.Logic.{inl, inr}
use Rattle.theory_lists.proofs.ListsLaws.{Every, every-uncons}

-- of the empty list
pub every-nil : {A : Type 0} (P : A → Type 0) → Every P []
every-nil P x m = absurd (Memᴰ.not-nil m)

-- what follows from P for each element
pub every-imp : {A : Type 0} {P Q : A → Type 0} {l : List A} → ((x : A) → P x → Q x) → Every P l → Every Q l
every-imp f h x m = f x (h x m)

-- of a list of images
pub every_map : {A B : Type 0} (P : B → Type 0) (f : A → B) (l : List A) → Every (λ a. P (f a)) l → Every P (map f l)
every_map P f l h x m = let r = Memᴰ.of_map f l m in subst P r.2 (h r.0 r.1)

-- of two lists joined
pub every_append : {A : Type 0} {P : A → Type 0} (s : List A) {t : List A} → Every P s → Every P t → Every P (s ++ t)
every_append s h g x m = elim (Memᴰ.append_cases s m) [ inl n ↦ h x n | inr n ↦ g x n ]

-- of many lists joined
pub every-flat_map : {A B : Type 0} {P : B → Type 0} (f : A → List B) (l : List A) → Every (λ a. Every P (f a)) l → Every P (flat_map f l)
unfolding flat_map
every-flat_map {P = P} f [] h = every-nil P
every-flat_map f (a ∷ l) h = let g = every-uncons h in every_append (f a) g.0 (every-flat_map f l g.1)

-- two functions that agree on the elements give the same lists joined
pub flat_map-agree : {A B : Type 0} (f g : A → List B) (l : List A) → Every (λ a. f a ≡ g a) l → flat_map f l ≡ flat_map g l
unfolding flat_map
flat_map-agree f g [] h = refl
flat_map-agree f g (a ∷ l) h = let e = every-uncons h in ap₂ ◌++◌ e.0 (flat_map-agree f g l e.1)
