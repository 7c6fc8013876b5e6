-- The places whose boxes overlap a triangle's, put on a list one after another.
-- Assumes nothing.
use mathlib.Core.Path.{◌≡◌, refl, ◌∙◌, ap}
use mathlib.Core.Bool.{Bool, true, false, not, ◌||◌, cond}
use mathlib.Core.List.{List}
use Prim.Native.Nat.{ℕ, ◌+◌, ◌≤◌, ◌<◌}
use native.Mathlib.Omega.{arith}
use borrow.Author.Tests.{not-false, lt-leb}
use lib.Dec.{T, leb}
use lib.ListN.{length, get_or, set, take}
use Rattle.std.proofs.lemmas.List.{length-take-le, take_all}
use Rattle.theory_lists.specs.Lists.{all, up_to}
use Rattle.theory_lists.proofs.Reflects.{test-true}
use Rattle.theory_lists.proofs.IndexLaws.{all-below-at}
use Rattle.theory_lists.proofs.CompactLaws.{compact-more, compact-skip, compact-below, compact-all}
use Rattle.spec_plane.specs.Box.{Box, triangle_box}
use Rattle.spec_charts.specs.Table.{triangle_at}
use Rattle.laws_charts.proofs.ProperLaws.{proper-at}
use Rattle.laws_charts.proofs.SoundLaws.{triangles_disjoint}
use Rattle.base_boxes.specs.declared.boxes.BoxTable.{BoxTable}
use Rattle.base_boxes.specs.Boxes.{separate, box_at, boxes_overlap, BoxedTable}
use Rattle.base_boxes.proofs.BoxesLaws.{boxes-disjoint}
use Rattle.base_boxes.specs.Near.{Near, EachBelow}

or-not : (a b : Bool) → b ≡ false → not a ≡ not (a || b)
or-not true b e = refl
or-not false b e = rw e refl

module _ (b : Box) (box : ℕ → Box) {near : List ℕ} {j c : ℕ} (n : Near b box near j c) where
  -- one place more
  pub near-more : (m : ℕ) → j < m → (near' : List ℕ) (r : ℕ) → c < length near → near' ≡ set near c j
      → r ≡ cond (separate b (box j) || leb m j) c (c + 1) → Near b box near' (j + 1) r
  near-more m h near' r l e g =
      compact-more (λ k. boxes_overlap b box k) n (separate b (box j) || leb m j) (or-not (separate b (box j)) (leb m j) (lt-leb m j h)) near' r l e g

  -- boxes that are separate from b
  pub near-skip : (m : ℕ) → all (λ k. separate b (box (j + k))) (up_to m) ≡ true → Near b box near (j + m) c
  near-skip m e = compact-skip (λ k. boxes_overlap b box k) n m fails
    where
      fails : (k : ℕ) → k < m → boxes_overlap b box (j + k) ≡ false
      fails k l =
          let h : separate b (box (j + k)) ≡ true = test-true (all-below-at (λ k. separate b (box (j + k))) e l) in
          ap not h

module _ (b : Box) (table : List ℕ) (held : BoxTable) (near : List ℕ) (i c : ℕ) (n : Near b (box_at held) near i c) (room : c ≤ length near) where
  -- what is listed, as a list of its own
  listed : Near b (box_at held) (take c near) i c
  listed = record { few = n.few; listed = take_all c (take c near) (omega (arith, length-take-le c near room)) ∙ n.listed }

  listed-length : length (take c near) ≡ c
  listed-length = length-take-le c near room

  -- comes before i
  pub near_before : EachBelow (take c near) i
  near_before k l = compact-below (λ k. boxes_overlap b (box_at held) k) listed (omega (arith, listed-length)) k (omega (arith, listed-length))

  -- triangle i has a common interior point with none before it where it has with none that is listed
  pub near-sound : BoxedTable table held (i + 1) → b ≡ triangle_box (triangle_at table i)
      → all (λ k. triangles_disjoint table i (get_or (take c near) k 0)) (up_to (length (take c near))) ≡ all (λ k. triangles_disjoint table i k) (up_to i)
  near-sound p e =
      ap (λ m. all (λ k. triangles_disjoint table i (get_or (take c near) k 0)) (up_to m)) listed-length
      ∙ compact-all (λ k. boxes_overlap b (box_at held) k) listed (omega (arith, listed-length)) (λ k. triangles_disjoint table i k) others
    where
      others : (k : ℕ) → k < i → boxes_overlap b (box_at held) k ≡ false → T (triangles_disjoint table i k)
      others k l f =
          let h = not-false (separate b (box_at held k)) f in
          rw (boxes-disjoint (triangle_at table i) (proper-at table (i + 1) i p.oriented (omega arith)) e p k (omega arith) (rw h tt)) tt
