-- Two lists side by side, as long as one another, with a relation between the elements at each place.
-- Assumes nothing.
use mathlib.Core.Path.{◌≡◌, refl, ap₂}
use mathlib.Core.List.{List, [], ◌∷◌, map, nil≢cons, cons≢nil, head-eq_of_cons-eq, tail-eq_of_cons-eq}
use Rattle.theory_lists.proofs.ListsLaws.{Every, every-uncons}

-- the elements at each place are related
pub data Pointwise {A B : Type 0} (R : A → B → Type 0) : List A → List B → Type 0 where
  pointwise-none : Pointwise R [] []
  pointwise-more : {a : A} {b : B} {xs : List A} {ys : List B} → R a b → Pointwise R xs ys → Pointwise R (a ∷ xs) (b ∷ ys)

-- a relation that says that two images are equal says that of the lists of images
pub pointwise-map : {A B C : Type 0} (f : A → C) (g : B → C) {xs : List A} {ys : List B} → Pointwise (λ a b. f a ≡ g b) xs ys
    → map f xs ≡ map g ys
pointwise-map f g pointwise-none = refl
pointwise-map f g (pointwise-more r rs) = ap₂ ◌∷◌ r (pointwise-map f g rs)

-- and the other way round
pub map-pointwise : {A B C : Type 0} (f : A → C) (g : B → C) (xs : List A) (ys : List B) → map f xs ≡ map g ys
    → Pointwise (λ a b. f a ≡ g b) xs ys
map-pointwise f g [] [] e = pointwise-none
map-pointwise f g [] (b ∷ ys) e = absurd (nil≢cons e)
map-pointwise f g (a ∷ xs) [] e = absurd (cons≢nil e)
map-pointwise f g (a ∷ xs) (b ∷ ys) e = pointwise-more (head-eq_of_cons-eq e) (map-pointwise f g xs ys (tail-eq_of_cons-eq e))

-- a relation that follows from another where the elements of the first list have P
pub pointwise-imp : {A B : Type 0} {P : A → Type 0} {R S : A → B → Type 0} {xs : List A} {ys : List B}
    → ((a : A) (b : B) → P a → R a b → S a b) → Every P xs → Pointwise R xs ys → Pointwise S xs ys
pointwise-imp f h pointwise-none = pointwise-none
pointwise-imp f h (pointwise-more {a = a} {b = b} r rs) = let g = every-uncons h in pointwise-more (f a b g.0 r) (pointwise-imp f g.1 rs)
