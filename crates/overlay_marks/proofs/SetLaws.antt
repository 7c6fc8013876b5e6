-- Items inserted into a set one after the other, and a set joined into rows one after the other.
-- Assumes nothing.
use mathlib.Core.Path.{◌≡◌, refl, sym, ◌∙◌, ap, ap₂}
use mathlib.Core.Bool.{Bool, true, false, ◌&&◌, ◌||◌}
use mathlib.Core.List.{List, [], ◌∷◌, ◌++◌}
use Prim.Native.Nat.{ℕ, ◌+◌, ◌*◌, ◌-◌, ◌≤◌, ◌<◌}
use native.Mathlib.Decide.{dec_lt, ℕ_discrete}
use native.Mathlib.Omega.{arith}
use borrow.Author.Tests.{eq-eqb, ne_eqb, lt-ltb, le-ltb, le-leb, lt-leb}
use lib.Dec.{leb, ltb, eqb}
use lib.ListN.{length, get_or, take, replicate}
use Rattle.theory_lists.specs.Lists.{any}
use native.Mathlib.Numerals.{add-one}
use lib.Seq.{take-suc, length-take-le}
use Rattle.spec_charts.specs.Table.{max_triangles}
use Rattle.overlay_marks.specs.Bits.{has_bit, Inserted, Joined}
use Rattle.overlay_marks.proofs.BitLaws.{or-false, zeros-empty, bit-taken}
use Rattle.overlay_marks.specs.PairMarks.{row_words, place_of, some_at, ItemsInserted, SetJoined, PartsMarked}

or_assoc : (a b c : Bool) → (a || b) || c ≡ a || (b || c)
or_assoc true b c = refl
or_assoc false b c = refl

-- some element of a list with one more: one of the list, or that
any-one : {A : Type 0} (f : A → Bool) (xs : List A) (y : A) → any f (xs ++ (y ∷ [])) ≡ any f xs || f y
unfolding any
any-one f [] y = single (f y)
  where
    single : (b : Bool) → elim b [ true ↦ true | false ↦ false ] ≡ b
    single true = refl
    single false = refl
any-one f (x ∷ xs) y = step (f x) (any-one f xs y)
  where
    step : (b : Bool) → any f (xs ++ (y ∷ [])) ≡ any f xs || f y
        → elim b [ true ↦ true | false ↦ any f (xs ++ (y ∷ [])) ] ≡ elim b [ true ↦ true | false ↦ any f xs ] || f y
    step true e = refl
    step false e = e

-- no item has any place
pub some-none : (i : ℕ) → some_at [] i ≡ false
unfolding some_at any
some-none i = refl

-- with one more item
pub some_more : (is : List ℕ) (k i : ℕ) → k < length is → some_at (take (k + 1) is) i ≡ some_at (take k is) i || eqb (place_of (get_or is k 0)) i
unfolding some_at
some_more is k i h =
    ap (any (λ t. eqb (place_of t) i)) (ap (λ n. take n is) (add-one k) ∙ take-suc is k 0 h)
    ∙ any-one (λ t. eqb (place_of t) i) (take k is) (get_or is k 0)

eqb-sym : (a b : ℕ) → eqb a b ≡ eqb b a
eqb-sym a b = elim (ℕ_discrete a b) [
  | yes e ↦ eq-eqb a b e ∙ sym (eq-eqb b a (sym e))
  | no n ↦ ne_eqb a b n ∙ sym (ne_eqb b a (λ e. n (sym e)))
]

-- no item inserted yet
pub insert-start : (set : List ℕ) → ItemsInserted set [] set
insert-start set = record {
  bits = λ j. sym (or-false (has_bit set j)) ∙ ap (λ x. has_bit set j || x) (sym (some-none j));
  kept = refl;
}

-- one more
pub insert-more : {set : List ℕ} (is : List ℕ) (r : ℕ) {vs : List ℕ} → ItemsInserted set (take r is) vs → r < length is
    → {k : ℕ} {ws : List ℕ} → k ≡ place_of (get_or is r 0) → Inserted vs k ws → ItemsInserted set (take (r + 1) is) ws
insert-more {set} is r p l {k} e i = record {
  bits = λ j. i.bits j ∙ ap₂ ◌||◌ (p.bits j) (eqb-sym j k ∙ ap (λ x. eqb x j) e)
      ∙ or_assoc (has_bit set j) (some_at (take r is) j) (eqb (place_of (get_or is r 0)) j)
      ∙ ap (λ x. has_bit set j || x) (sym (some_more is r j l));
  kept = i.kept ∙ p.kept;
}

-- row k, and no other, has the bits of the set
row-bits : (k i j : ℕ) (set : List ℕ) → j < max_triangles
    → leb (64 * (row_words * k)) (max_triangles * i + j) && ltb (max_triangles * i + j) (64 * (row_words * k + row_words)) && has_bit set (max_triangles * i + j - 64 * (row_words * k)) ≡ eqb k i && has_bit set j
row-bits k i j set h = elim (ℕ_discrete k i) [
  | yes e ↦ let z : max_triangles * i + j - 64 * (row_words * k) ≡ j = omega arith in
      rw (le-leb (64 * (row_words * k)) (max_triangles * i + j) (omega arith), lt-ltb (max_triangles * i + j) (64 * (row_words * k + row_words)) (omega arith), eq-eqb k i e, z)
  | no n ↦ elim (dec_lt k i) [
    | yes s ↦ drop-second (leb (64 * (row_words * k)) (max_triangles * i + j)) (has_bit set (max_triangles * i + j - 64 * (row_words * k))) (has_bit set j) (le-ltb (max_triangles * i + j) (64 * (row_words * k + row_words)) (omega arith)) (ne_eqb k i n)
    | no s ↦ rw (lt-leb (64 * (row_words * k)) (max_triangles * i + j) (omega arith), ne_eqb k i n)
  ]
]
  where
    drop-second : (b x y : Bool) {c d : Bool} → c ≡ false → d ≡ false → b && c && x ≡ d && y
    drop-second true x y p q = rw (p, q)
    drop-second false x y p q = rw q

both : (x s e y : Bool) → (x || s && y) || e && y ≡ x || (s || e) && y
both true s e y = refl
both false true true true = refl
both false true false true = refl
both false true true false = refl
both false true false false = refl
both false false e y = refl

-- no row joined yet
pub join-start : (rows set : List ℕ) → SetJoined rows [] set rows
join-start rows set = record {
  bits = λ i j h. sym (or-false (has_bit rows (max_triangles * i + j))) ∙ ap (λ x. has_bit rows (max_triangles * i + j) || x && has_bit set j) (sym (some-none i));
  kept = refl;
}

-- one more
pub join_more : {rows : List ℕ} (is : List ℕ) (r : ℕ) (set : List ℕ) {vs : List ℕ} → SetJoined rows (take r is) set vs → r < length is → row_words ≤ length set
    → {k : ℕ} {ws : List ℕ} → k ≡ place_of (get_or is r 0) → Joined vs (row_words * k) (take row_words set) (length (take row_words set)) ws
    → SetJoined rows (take (r + 1) is) set ws
join_more {rows} is r set {vs} p l room {k} {ws} e joined =
    let q : Joined vs (row_words * k) (take row_words set) row_words ws = rw (length-take-le row_words set room) at joined in
    record {
      bits = λ i j s. q.bits (max_triangles * i + j)
          ∙ ap₂ ◌||◌ (p.bits i j s) (row-bits k i j (take row_words set) s ∙ ap₂ (λ x b. eqb x i && b) e (bit-taken set row_words j (omega arith)))
          ∙ both (has_bit rows (max_triangles * i + j)) (some_at (take r is) i) (eqb (place_of (get_or is r 0)) i) (has_bit set j)
          ∙ ap (λ x. has_bit rows (max_triangles * i + j) || x && has_bit set j) (sym (some_more is r i l));
      kept = q.kept ∙ p.kept;
    }

-- a set of the items of the one list, joined into the rows of the items of the other
pub parts-marked : {rows is js set after : List ℕ} (w : ℕ) → ItemsInserted (replicate w 0) js set → SetJoined rows is set after → PartsMarked rows is js after
parts-marked {rows} {is} {js} w s t = record {
  bits = λ i j h. t.bits i j h
      ∙ ap (λ x. has_bit rows (max_triangles * i + j) || some_at is i && x) (s.bits j ∙ ap (λ x. x || some_at js j) (zeros-empty w j));
  kept = t.kept;
}
