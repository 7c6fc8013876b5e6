-- A part of a list, by places: `part f t l` is what stands from place f up to place t.
-- Assumes nothing.
use mathlib.Core.Path.{◌≡◌, refl, sym, ◌∙◌, ap, ap₂}
use mathlib.Core.Bool.{Bool}
use mathlib.Core.List.{List, [], ◌∷◌, ◌++◌, map}
use Prim.Native.Nat.{ℕ, zero, suc, ◌+◌, ◌-◌, ◌≤◌, ◌<◌}
use native.Mathlib.Nat.{sub_self}
use native.Mathlib.Omega.{arith}
use lib.ListN.{length, get_or, take, drop, length-take, length-drop, length-map, get_or-map}
use lib.Seq.{get_or-take, get_or-drop, ext_get_or, take-suc, take-add, drop-drop}
use Rattle.theory_lists.specs.Lists.{places_from, count_from, part}
use Rattle.theory_lists.proofs.Reflects.{Reflects, reflects-iff, test-true, test-false}
use Rattle.theory_lists.proofs.ListsLaws.{Every, every-places}
use Rattle.theory_lists.proofs.EditedLists.{places_from-pass, places_from-fail}

-- a part up to a place within the list has as many elements as places
pub part_length : {A : Type 0} (f t : ℕ) (l : List A) → t ≤ length l → length (part f t l) ≡ t - f
part_length f t l w = rw (length-take, length-drop) (omega arith)

module _ {A : Type 0} (l : List A) (f t : ℕ) (h : f ≤ t) (w : t ≤ length l) where
  part_at : (d : A) (i : ℕ) → i < t - f → get_or (part f t l) i d ≡ get_or l (f + i) d
  part_at d i b = get_or-take (t - f) (drop f l) i d b ∙ get_or-drop f l i d

  -- what holds at each place from f up to t holds of every element of the part
  pub part-every : (P : A → Type 0) (d : A) → ((i : ℕ) → f ≤ i → i < t → P (get_or l i d)) → Every P (part f t l)
  part-every P d g =
      every-places P (part f t l) d (λ i b.
      let c : i < t - f = rw (part_length f t l w) at b in
      rw (part_at d i c) (g (f + i) (omega arith) (omega arith)))

-- a part of a list's images is that part of a list that holds them
pub part-map : {A : Type 0} (g : A → ℕ) (l : List A) (xs : List ℕ) (d : A) (f t : ℕ) → f ≤ t → t ≤ length l → t ≤ length xs
    → ((i : ℕ) → i < t → g (get_or l i d) ≡ get_or xs i (g d)) → part f t xs ≡ map g (part f t l)
part-map g l xs d f t h w v e =
    let p = part f t l in
    let m = length-map p g in
    let a = part_length f t xs v in
    let b = part_length f t l w in
    ext_get_or (g d) (part f t xs) (map g p) (omega arith) (λ i c.
    let j : i < t - f = rw a at c in
    get_or-take (t - f) (drop f xs) i (g d) j ∙ get_or-drop f xs i (g d) ∙ sym (e (f + i) (omega arith))
    ∙ ap g (sym (part_at l f t h w d i j)) ∙ sym (get_or-map g p i d))

-- ---- parts that are joined

-- an empty part
pub part_none : {A : Type 0} (f : ℕ) (l : List A) → part f f l ≡ []
part_none f l = ap (λ n. take n (drop f l)) (sub_self f)

-- one element more at its end
pub part-snoc : (f k : ℕ) (l : List ℕ) → f ≤ k → k < length l → part f (k + 1) l ≡ part f k l ++ (get_or l k 0 ∷ [])
part-snoc f k l h b =
    let e : k + 1 - f ≡ suc (k - f) = omega arith in
    let i : k - f < length (drop f l) = rw (length-drop f l) (omega arith) in
    let p : f + (k - f) ≡ k = omega arith in
    ap (λ n. take n (drop f l)) e
    ∙ take-suc (drop f l) (k - f) 0 i
    ∙ ap (λ x. part f k l ++ (x ∷ [])) (get_or-drop f l (k - f) 0 ∙ ap (λ n. get_or l n 0) p)

-- a part up to t is the part up to k and the rest
pub part-split : {A : Type 0} (f k t : ℕ) (l : List A) → f ≤ k → k ≤ t → part f t l ≡ part f k l ++ part k t l
part-split f k t l h g =
    let e : t - f ≡ (k - f) + (t - k) = omega arith in
    let p : f + (k - f) ≡ k = omega arith in
    ap (λ n. take n (drop f l)) e
    ∙ take-add (k - f) (t - k) (drop f l)
    ∙ ap (λ r. part f k l ++ take (t - k) r) (drop-drop (k - f) f l ∙ ap (λ n. drop n l) p)

-- ---- the places of a part

-- n places from a on, seen from one place further: m from c on
place-next : {b : Bool} (a n c m : ℕ) {i : ℕ} → c ≡ a - 1 → c + m ≡ a + n - 1
    → Reflects b ((a ≤ suc i) × (suc i < a + n)) → Reflects b ((c ≤ i) × (i < c + m))
place-next a n c m e g r = reflects-iff (λ h. (omega arith, omega arith)) (λ h. (omega arith, omega arith)) r

module _ {A : Type 0} (f : A → Bool) (d : A) where
  places-induct : (k : ℕ) (l : List A) (a n : ℕ) → a + n ≤ length l
      → ((i : ℕ) → i < length l → Reflects (f (get_or l i d)) ((a ≤ i) × (i < a + n))) → places_from f k l ≡ count_from (k + a) n
  unfolding places_from count_from
  places-induct k [] a zero h r = refl
  places-induct k [] a (suc n) h r = absurd (omega arith)
  places-induct k (x ∷ xs) zero zero h r =
      places_from-fail f k x xs (test-false (λ t. absurd (let g = (r 0 (omega arith)).to t in omega arith)))
      ∙ places-induct (suc k) xs zero zero (omega arith) (λ i l. place-next 0 0 0 0 (omega arith) (omega arith) (r (suc i) (omega arith)))
  places-induct k (x ∷ xs) zero (suc n) h r =
      places_from-pass f k x xs (test-true ((r 0 (omega arith)).from (omega arith, omega arith)))
      ∙ ap₂ (λ j l. j ∷ l) (omega arith) (
      places-induct (suc k) xs zero n (omega arith) (λ i l. place-next 0 (suc n) 0 n (omega arith) (omega arith) (r (suc i) (omega arith)))
      ∙ ap (λ j. count_from j n) (omega arith))
  places-induct k (x ∷ xs) (suc a) n h r =
      places_from-fail f k x xs (test-false (λ t. absurd (let g = (r 0 (omega arith)).to t in omega arith)))
      ∙ places-induct (suc k) xs a n (omega arith) (λ i l. place-next (suc a) n a n (omega arith) (omega arith) (r (suc i) (omega arith)))
      ∙ ap (λ j. count_from j n) (omega arith)

  -- where a test passes at n places from place a on and at no other, those are the places of the elements that pass it
  pub part-places : (l : List A) (a n : ℕ) → a + n ≤ length l
      → ((i : ℕ) → i < length l → Reflects (f (get_or l i d)) ((a ≤ i) × (i < a + n))) → places_from f 0 l ≡ count_from a n
  part-places l a n h r = places-induct 0 l a n h r ∙ ap (λ j. count_from j n) (omega arith)
