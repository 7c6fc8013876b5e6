-- The two loops of the stopping test: the first finds the first candidate of which some side meets the box, the second tests
-- the two ends of that side against every side after it.
-- The idea: a side's own ends are ends of it, so testing the first side too changes nothing.
-- Assumes nothing.
use mathlib.Core.Path.{◌≡◌, refl, sym, ◌∙◌, ap, ap₂}
use mathlib.Core.Bool.{Bool, true, false, cond, not, ◌&&◌, ◌||◌, true≢false, and_assoc, and-true}
use mathlib.Core.List.{List, [], ◌∷◌, ◌++◌, flat_map, append-nil}
use Prim.Native.Nat.{ℕ, ◌+◌, ◌/◌, ◌%◌, ◌≤◌, ◌<◌}
use native.Mathlib.Omega.{arith}
use borrow.Author.Tests.{ne_eqb}
use lib.Bits.{bit_or}
use lib.Dec.{T, eqb}
use lib.ListN.{length, get_or, take, drop}
use Rattle.std.proofs.lemmas.List.{take_more, take-append-drop, take_all}
use Rattle.theory_lists.specs.Lists.{all, count_from, up_to}
use Rattle.theory_lists.specs.Masks.{mask_of, masked}
use Rattle.theory_lists.proofs.Reflects.{test-true}
use Rattle.theory_lists.proofs.IndexLaws.{all_cons, all_append, all-below-at}
use Rattle.theory_lists.proofs.FlatMapLaws.{flat_map-append}
use Rattle.theory_lists.proofs.MaskLaws.{masked-zero}
use Rattle.base_geometry.proofs.BitLaws.{or-zero}
use Rattle.spec_plane.specs.declared.Point.{Point}
use Rattle.spec_plane.specs.Point.{same_point}
use Rattle.spec_plane.specs.Triangle.{Side, sides}
use Rattle.spec_plane.specs.Box.{Box}
use Rattle.spec_plane.proofs.PointLaws.{same_point-reflects}
use Rattle.spec_charts.specs.Table.{triangle_at}
use Rattle.spec_charts.specs.Cells.{is_end, common_end}
use Rattle.quadtree_shapes.specs.Masks.{side_masks, unpacked, unpacked_triangle, start_of, sides_met}
use Rattle.quadtree_stopping.specs.Stopping.{sides_at, either_end, Tested}

-- ---- the ends of the first side

-- a point is the same as itself
same_self : (p : Point) → same_point p p ≡ true
same_self p = test-true ((same_point-reflects p p).from refl)

-- a side's start is an end of it
start-own : (d : Side) → is_end d.start d ≡ true
unfolding is_end
start-own d = rw (same_self d.start) refl

-- and so is its end
end-own : (d : Side) → is_end d.end d ≡ true
unfolding is_end
end-own d = rw (same_self d.end) (go (same_point d.end d.start))
  where
    go : (b : Bool) → (b || true) ≡ true
    go true = refl
    go false = refl

-- p is an end of every side, or q is
ends : Point → Point → List Side → Bool
ends p q ds = all (λ d. is_end p d) ds || all (λ d. is_end q d) ds

-- the first side may be tested too
first-too : (d : Side) (ds : List Side) → common_end (d ∷ ds) ≡ ends d.start d.end (d ∷ ds)
unfolding common_end ends
first-too d ds =
    sym
    (ap₂ ◌||◌ (all_cons (λ e. is_end d.start e) d ds ∙ ap (λ b. b && all (λ e. is_end d.start e) ds) (start-own d))
    (all_cons (λ e. is_end d.end e) d ds ∙ ap (λ b. b && all (λ e. is_end d.end e) ds) (end-own d)))

-- a mask that is not 0 has a bit
some-cases : all (λ m. eqb m 0 || (eqb (m % 2) 1 || (eqb (m / 2 % 2) 1 || eqb (m / 2 / 2 % 2) 1))) (up_to side_masks) ≡ true
unfolding all up_to count_from
some-cases = refl

-- the ends of the first side that a mask has
first_ends : (m a b c : ℕ) → 0 < m → m < side_masks → (ds : List Side)
    → common_end (masked m (sides (unpacked_triangle a b c)) ++ ds)
    ≡ ends (unpacked (start_of m a b c)) (unpacked (start_of m b c a)) (masked m (sides (unpacked_triangle a b c)) ++ ds)
unfolding masked unpacked_triangle
first_ends m a b c lo hi ds =
    go (eqb (m % 2) 1) (eqb (m / 2 % 2) 1) (eqb (m / 2 / 2 % 2) 1)
    (rw (ne_eqb m 0 (λ e. absurd (omega arith))) at (all-below-at _ some-cases hi))
  where
    ab : Side
    ab = record { start = unpacked a; end = unpacked b }

    bc : Side
    bc = record { start = unpacked b; end = unpacked c }

    ca : Side
    ca = record { start = unpacked c; end = unpacked a }

    go : (x y z : Bool) → T (x || (y || z))
        → common_end (cond x (ab ∷ cond y (bc ∷ cond z (ca ∷ []) []) (cond z (ca ∷ []) [])) (cond y (bc ∷ cond z (ca ∷ []) []) (cond z (ca ∷ []) [])) ++ ds)
        ≡ ends (unpacked (cond x a (cond y b c))) (unpacked (cond x b (cond y c a)))
        (cond x (ab ∷ cond y (bc ∷ cond z (ca ∷ []) []) (cond z (ca ∷ []) [])) (cond y (bc ∷ cond z (ca ∷ []) []) (cond z (ca ∷ []) [])) ++ ds)
    go true y z t = first-too ab _
    go false true z t = first-too bc _
    go false false true t = first-too ca _
    go false false false t = absurd t

-- ---- the sides of one candidate after another

module _ (S : ℕ → List Side) (l : List ℕ) where
  -- one candidate more
  sides-more : (k : ℕ) → k < length l → flat_map S (take (k + 1) l) ≡ flat_map S (take k l) ++ S (get_or l k 0)
  unfolding flat_map
  sides-more k h =
      ap (flat_map S) (take_more l k 0 h)
      ∙ flat_map-append S (take k l) (get_or l k 0 ∷ [])
      ∙ ap (λ r. flat_map S (take k l) ++ r) (append-nil (S (get_or l k 0)))

  -- the first k candidates, and the rest
  sides-split : (k : ℕ) → flat_map S l ≡ flat_map S (take k l) ++ flat_map S (drop k l)
  sides-split k = ap (flat_map S) (sym (take-append-drop k l)) ∙ flat_map-append S (take k l) (drop k l)

  -- no candidate is left after the last
  pub sides-all : {k : ℕ} → length l ≤ k → flat_map S (take k l) ≡ flat_map S l
  sides-all {k} h = ap (flat_map S) (take_all k l h)

  -- the first k candidates have no side: neither have those up to the next, if that has none
  pub none-next : (k : ℕ) → k < length l → flat_map S (take k l) ≡ [] → S (get_or l k 0) ≡ [] → flat_map S (take (k + 1) l) ≡ []
  none-next k h none e = sides-more k h ∙ ap₂ ◌++◌ none e

  -- then all sides are those of the next, and of the rest
  sides-from : (k : ℕ) → k < length l → flat_map S (take k l) ≡ [] → flat_map S l ≡ S (get_or l k 0) ++ flat_map S (drop (k + 1) l)
  sides-from k h none =
      sides-split (k + 1) ∙ ap (λ r. r ++ flat_map S (drop (k + 1) l)) (sides-more k h ∙ ap (λ r. r ++ S (get_or l k 0)) none)

  -- the two ends of the first side are tested against the sides after its candidate
  common-from : (k x y : ℕ) (p q : Point) → k < length l → flat_map S (take k l) ≡ []
      → ((ds : List Side) → common_end (S (get_or l k 0) ++ ds) ≡ ends p q (S (get_or l k 0) ++ ds))
      → eqb x 0 ≡ all (is_end p) (S (get_or l k 0)) → eqb y 0 ≡ all (is_end q) (S (get_or l k 0))
      → either_end p q x y (flat_map S (drop (k + 1) l)) ≡ common_end (flat_map S l)
  unfolding either_end ends
  common-from k x y p q h none e ex ey =
      let rest = flat_map S (drop (k + 1) l) in
      ap₂ (λ a b. (a && all (is_end p) rest) || (b && all (is_end q) rest)) ex ey
      ∙ sym (ap₂ ◌||◌ (all_append (is_end p) (S (get_or l k 0)) rest) (all_append (is_end q) (S (get_or l k 0)) rest))
      ∙ sym (e rest)
      ∙ ap common_end (sym (sides-from k h none))

  -- a test of the first k candidates, and of one more
  ends-more : (p : Point) (a : Bool) (k x x' : ℕ) → k < length l → eqb x 0 ≡ (a && all (is_end p) (flat_map S (take k l)))
      → eqb x' 0 ≡ all (is_end p) (S (get_or l k 0)) → eqb (bit_or x x') 0 ≡ (a && all (is_end p) (flat_map S (take (k + 1) l)))
  ends-more p a k x x' h e e' =
      or-zero x x'
      ∙ ap₂ ◌&&◌ e e'
      ∙ and_assoc a (all (is_end p) (flat_map S (take k l))) (all (is_end p) (S (get_or l k 0)))
      ∙ ap (λ b. a && b) (sym (ap (all (is_end p)) (sides-more k h) ∙ all_append (is_end p) (flat_map S (take k l)) (S (get_or l k 0))))

  module _ {p q : Point} {x y : ℕ} where
    -- before the first candidate
    pub tested-none : Tested S l p q x y 0 x y
    unfolding flat_map all
    tested-none = record { first = sym (and-true (eqb x 0)); second = sym (and-true (eqb y 0)) }

    -- one candidate more
    tested-next : (k a b a' b' : ℕ) → k < length l → Tested S l p q x y k a b
        → eqb a' 0 ≡ all (is_end p) (S (get_or l k 0)) → eqb b' 0 ≡ all (is_end q) (S (get_or l k 0))
        → Tested S l p q x y (k + 1) (bit_or a a') (bit_or b b')
    tested-next k a b a' b' h v ea eb = record {
      first = ends-more p (eqb x 0) k a a' h v.first ea;
      second = ends-more q (eqb y 0) k b b' h v.second eb;
    }

    -- both points are out
    pub tested-out : {k a b : ℕ} → Tested S l p q x y k a b → (not (eqb a 0) && not (eqb b 0)) ≡ true → false ≡ either_end p q x y (flat_map S l)
    unfolding either_end
    tested-out {k} {a} {b} v h =
        go (eqb a 0) (eqb b 0) (all (is_end p) (flat_map S (drop k l))) (all (is_end q) (flat_map S (drop k l))) h
        ∙ ap₂ ◌||◌ (split p (eqb x 0) (eqb a 0) v.first) (split q (eqb y 0) (eqb b 0) v.second)
      where
        go : (a b r s : Bool) → (not a && not b) ≡ true → false ≡ (a && r || b && s)
        go true b r s h = absurd (true≢false (sym h))
        go false true r s h = absurd (true≢false (sym h))
        go false false r s h = refl

        split : (p : Point) (c d : Bool) → d ≡ (c && all (is_end p) (flat_map S (take k l)))
            → (d && all (is_end p) (flat_map S (drop k l))) ≡ (c && all (is_end p) (flat_map S l))
        split p c d e =
            ap (λ b. b && all (is_end p) (flat_map S (drop k l))) e
            ∙ and_assoc c (all (is_end p) (flat_map S (take k l))) (all (is_end p) (flat_map S (drop k l)))
            ∙ ap (λ b. c && b) (sym (ap (all (is_end p)) (sides-split k) ∙ all_append (is_end p) (flat_map S (take k l)) (flat_map S (drop k l))))

    -- after all of them
    pub tested-all : {k a b : ℕ} → Tested S l p q x y k a b → length l ≤ k → (eqb a 0 || eqb b 0) ≡ either_end p q x y (flat_map S l)
    unfolding either_end
    tested-all v h = rw (sides-all h) at (ap₂ ◌||◌ v.first v.second)

-- ---- the sides of a candidate

-- a mask of 0: no side meets the box
pub sides-absent : (table s o : List ℕ) (box : Box) (i : ℕ) {m : ℕ} → m ≡ mask_of (sides_met s o box i) → m ≡ 0 → sides_at table s o box i ≡ []
unfolding sides_at
sides-absent table s o box i e z = ap (λ x. masked x (sides (triangle_at table i))) (sym e ∙ z) ∙ masked-zero (sides (triangle_at table i))

-- what code reads of triangle j: its number, the mask of its sides and its packed corners
pub record Read (table s o : List ℕ) (box : Box) (j i m a b c : ℕ) : Type 0 where
  pub number : i ≡ j
  pub mask : m ≡ mask_of (sides_met s o box i)
  pub triangle : unpacked_triangle a b c ≡ triangle_at table i

module _ {table s o : List ℕ} {box : Box} where
  -- the sides by the mask and the packed corners
  sides-read : {j i m a b c : ℕ} → Read table s o box j i m a b c → masked m (sides (unpacked_triangle a b c)) ≡ sides_at table s o box j
  unfolding sides_at
  sides-read r = rw (← r.number, r.mask, r.triangle) refl

  -- one candidate more, as code tests it
  pub tested-more : (p q d' e' : ℕ) {l : List ℕ} {k x y d e i m a b c : ℕ} → Tested (sides_at table s o box) l (unpacked p) (unpacked q) x y k d e → k < length l
      → Read table s o box (get_or l k 0) i m a b c
      → eqb d' 0 ≡ all (is_end (unpacked p)) (masked m (sides (unpacked_triangle a b c)))
      → eqb e' 0 ≡ all (is_end (unpacked q)) (masked m (sides (unpacked_triangle a b c)))
      → Tested (sides_at table s o box) l (unpacked p) (unpacked q) x y (k + 1) (bit_or d d') (bit_or e e')
  tested-more p q d' e' {l} {k} {d = d} {e = e} v h read ed ee =
      let r = sides-read read in
      tested-next (sides_at table s o box) l k d e d' e' h v (ed ∙ ap (all (is_end (unpacked p))) r) (ee ∙ ap (all (is_end (unpacked q))) r)

  -- the test from the first candidate with a side on, as code makes it
  pub common-read : (l : List ℕ) (x y : ℕ) {k p q i m a b c : ℕ} → flat_map (sides_at table s o box) (take k l) ≡ [] → k < length l
      → Read table s o box (get_or l k 0) i m a b c → 0 < m → m < side_masks → p ≡ start_of m a b c → q ≡ start_of m b c a
      → eqb x 0 ≡ all (is_end (unpacked p)) (masked m (sides (unpacked_triangle a b c)))
      → eqb y 0 ≡ all (is_end (unpacked q)) (masked m (sides (unpacked_triangle a b c)))
      → either_end (unpacked p) (unpacked q) x y (flat_map (sides_at table s o box) (drop (k + 1) l)) ≡ common_end (flat_map (sides_at table s o box) l)
  common-read l x y {k} {p} {q} {m = m} {a = a} {b = b} {c = c} none h read lo hi ep eq ex ey =
      let r = sides-read read in
      common-from (sides_at table s o box) l k x y (unpacked p) (unpacked q) h none
      (λ ds. rw (ep, eq) (rw r at (first_ends m a b c lo hi ds)))
      (ex ∙ ap (all (is_end (unpacked p))) r) (ey ∙ ap (all (is_end (unpacked q))) r)
