-- What holds at the places of a list, and of the elements before a place and from it on.
-- Assumes nothing.
use mathlib.Core.Path.{◌≡◌, refl, sym, ◌∙◌, ap}
use mathlib.Core.List.Memᴰ
use mathlib.Core.List.{List, [], ◌∷◌, ◌++◌, map, Memᴰ}
use mathlib.Core.Logic.{inl, inr}
use Prim.Native.Nat.{ℕ, zero, suc, ◌+◌, ◌-◌, ◌≤◌, ◌<◌}
use native.Mathlib.Nat.{sub-zero, add-sub_of_le}
use native.Mathlib.Omega.{arith}
use lib.ListN.{length, get_or, take, drop, length-take, length-drop}
use lib.Seq.{get_or-take, get_or-drop, take_all, take-add}
use Rattle.theory_lists.proofs.ListsLaws.{Every, get_or-member}
use Rattle.theory_lists.proofs.PartLaws.{part-every}

module _ {A : Type 0} (P : A → Type 0) (l : List A) (d : A) (t : ℕ) where
  -- of the places before t, to the elements before it
  pub take-every : t ≤ length l → ((i : ℕ) → i < t → P (get_or l i d)) → Every P (take t l)
  take-every w g = rw (sub-zero t) at (part-every l 0 t (omega arith) w P d (λ i a b. g i b))

  -- of the places from t on, to the elements from it on
  pub drop-every : t ≤ length l → ((i : ℕ) → t ≤ i → i < length l → P (get_or l i d)) → Every P (drop t l)
  drop-every w g =
      rw (take_all (length l - t) (drop t l) (rw length-drop (omega arith))) at (part-every l t (length l) w (omega arith) P d g)

  -- and back
  pub take_at : Every P (take t l) → (i : ℕ) → i < t → i < length l → P (get_or l i d)
  take_at h i b w =
      rw (get_or-take t l i d b) at (h (get_or (take t l) i d) (get_or-member (take t l) i d (rw length-take (omega arith))))

  pub drop_at : Every P (drop t l) → (i : ℕ) → t ≤ i → i < length l → P (get_or l i d)
  drop_at h i b w =
      let e : t + (i - t) ≡ i = omega arith in
      rw (get_or-drop t l (i - t) d, e) at (h (get_or (drop t l) (i - t) d) (get_or-member (drop t l) (i - t) d (rw length-drop (omega arith))))

-- the image at a place of a list
pub map_at : {A B : Type 0} (f : A → B) (l : List A) (i : ℕ) (d : A) (b : B) → i < length l → get_or (map f l) i b ≡ f (get_or l i d)
map_at f [] i d b h = absurd (omega arith)
map_at f (x ∷ xs) zero d b h = refl
map_at f (x ∷ xs) (suc i) d b h = map_at f xs i d b (omega arith)

-- what stands at a place within the list does not depend on the default
pub place-any : {A : Type 0} (l : List A) (i : ℕ) (c d : A) → i < length l → get_or l i c ≡ get_or l i d
place-any [] i c d h = absurd (omega arith)
place-any (x ∷ xs) zero c d h = refl
place-any (x ∷ xs) (suc i) c d h = place-any xs i c d (omega arith)

-- the elements that a list starts with are elements of it
pub take-member : {A : Type 0} (n : ℕ) (l : List A) {x : A} → Memᴰ x (take n l) → Memᴰ x l
take-member zero l m = absurd (Memᴰ.not-nil m)
take-member (suc n) [] m = absurd (Memᴰ.not-nil m)
take-member (suc n) (y ∷ ys) m = elim (Memᴰ.cases_cons m) [ inl e ↦ Memᴰ.head e | inr c ↦ Memᴰ.tail (take-member n ys c) ]

-- the elements before a later place are those before an earlier one, and the part between the two
pub take_part : {A : Type 0} (f t : ℕ) (l : List A) → f ≤ t → take t l ≡ take f l ++ take (t - f) (drop f l)
take_part f t l h = ap (λ n. take n l) (sym (add-sub_of_le h)) ∙ take-add f (t - f) l
