-- Ordered lists that are joined, and that in a list that is ordered strictly no element stands twice, and its elements
-- determine it.
-- Each law is an induction along the order.
-- Assumes nothing.
use mathlib.Core.Path.{◌≡◌, refl, sym, ap₂, subst}
use mathlib.Core.List.Memᴰ
use mathlib.Core.List.{List, ◌∷◌, ◌++◌, flat_map, Memᴰ}
use mathlib.Core.Logic.{◌⊎◌, inl, inr}
use Prim.Native.Nat.{ℕ, zero, suc, ◌+◌, ◌<◌}
use native.Mathlib.Nat.{le_refl, zero-add}
use native.Mathlib.Omega.{arith}
use lib.ListN.{length, get_or}
use Rattle.theory_lists.specs.Lists.{count_from, up_to}
use Rattle.theory_lists.proofs.ListsLaws.{Every, every-uncons}
use Rattle.theory_lists.proofs.EveryLaws.{every_append, every-flat_map}
use Rattle.theory_lists.proofs.Order.{Ordered, ordered-none, ordered-more, ordered_at, Rising, rising_none, rising-more, rising-ordered}

-- two ordered lists joined, where each element of the first stands in the relation to each of the second
pub ordered-append : {A : Type 0} {R : A → A → Type 0} {xs ys : List A} → Ordered R xs → Ordered R ys
    → Every (λ x. Every (λ y. R x y) ys) xs → Ordered R (xs ++ ys)
ordered-append ordered-none p h = p
ordered-append (ordered-more {x = x} {xs = xs} r o) p h =
    let g = every-uncons h in
    ordered-more (every_append xs r g.0) (ordered-append o p g.1)

-- many ordered lists joined, where each element of an earlier one stands in the relation to each of a later one
pub ordered-flat_map : {A B : Type 0} {R : A → A → Type 0} {S : B → B → Type 0} (f : A → List B) {l : List A}
    → ((x y : A) → R x y → Every (λ u. Every (λ v. S u v) (f y)) (f x)) → ((x : A) → Ordered S (f x)) → Ordered R l
    → Ordered S (flat_map f l)
unfolding flat_map
ordered-flat_map f across within ordered-none = ordered-none
ordered-flat_map f across within (ordered-more {x = x} {xs = xs} r o) =
    ordered-append (within x) (ordered-flat_map f across within o)
    (λ u m. every-flat_map f xs (λ y n. across x y (r y n) u m))

count_from-rising : (k n b : ℕ) → k + n ≡ b → Rising k b (count_from k n)
unfolding count_from
count_from-rising k zero b e = rising_none
count_from-rising k (suc n) b e = let h : k < b = omega arith in rising-more (le_refl k) h (count_from-rising (suc k) n b (omega arith))

-- 0, 1, .., n - 1 ascend
pub up_to-ordered : (n : ℕ) → Ordered (λ i j. i < j) (up_to n)
unfolding up_to
up_to-ordered n = rising-ordered (count_from-rising 0 n n (zero-add n))

-- where no element stands in the relation to itself, none stands twice
pub ordered-once : {A : Type 0} {R : A → A → Type 0} {l : List A} → ((x : A) → R x x → ⊥) → Ordered R l
    → (m n : ℕ) (d : A) → m < n → n < length l → get_or l m d ≡ get_or l n d → ⊥
ordered-once {R = R} {l = l} irr o m n d h k e = irr (get_or l n d) (subst (λ x. R x (get_or l n d)) e (ordered_at m n d o h k))

-- where no two elements stand in the relation both ways, two ordered lists with the same elements are equal
pub ordered-unique : {A : Type 0} {R : A → A → Type 0} {xs ys : List A} → ((x y : A) → R x y → R y x → ⊥) → Ordered R xs → Ordered R ys
    → Every (λ x. Memᴰ x ys) xs → Every (λ y. Memᴰ y xs) ys → xs ≡ ys
ordered-unique asym ordered-none ordered-none to from = refl
ordered-unique asym ordered-none (ordered-more {x = y} r o) to from = absurd (Memᴰ.not-nil (from y (Memᴰ.head refl)))
ordered-unique asym (ordered-more {x = x} r o) ordered-none to from = absurd (Memᴰ.not-nil (to x (Memᴰ.head refl)))
ordered-unique {A} {R = R} asym (ordered-more {x = x} {xs = xs} r o) (ordered-more {x = y} {xs = ys} q p) to from =
    let e = same (Memᴰ.cases_cons (to x (Memᴰ.head refl))) (Memᴰ.cases_cons (from y (Memᴰ.head refl))) in
    ap₂ ◌∷◌ e (ordered-unique asym o p
    (λ z m. later z y (subst (λ w. R w z) e (r z m)) (Memᴰ.cases_cons (to z (Memᴰ.tail m))))
    (λ z m. later z x (subst (λ w. R w z) (sym e) (q z m)) (Memᴰ.cases_cons (from z (Memᴰ.tail m)))))
  where
    same : (x ≡ y) ⊎ Memᴰ x ys → (y ≡ x) ⊎ Memᴰ y xs → x ≡ y
    same (inl e) b = e
    same (inr m) (inl e) = sym e
    same (inr m) (inr n) = absurd (asym x y (r y n) (q x m))

    later : {zs : List A} (z w : A) → R w z → (z ≡ w) ⊎ Memᴰ z zs → Memᴰ z zs
    later z w h (inl e) = let l = subst (λ v. R v z) (sym e) h in absurd (asym z z l l)
    later z w h (inr m) = m
