-- The pairs of a row from its candidates: those candidates with which the triangle has a common interior point.
-- The idea: boxes of triangles that have a common interior point are not separate, so that no pair is lost.
-- Assumes nothing.
use mathlib.Core.Path.{◌≡◌, refl, sym, ◌∙◌, ap, subst}
use mathlib.Core.Bool.{Bool, true, false, not, ◌&&◌}
use mathlib.Core.List.{List, [], ◌∷◌, ◌++◌, map, map-append, flat_map, append-nil, Memᴰ}
use Prim.Native.Nat.{ℕ, zero, suc, ◌+◌, ◌-◌, ◌≤◌, ◌<◌}
use native.Mathlib.Numerals.{add-one}
use native.Mathlib.Omega.{arith}
use borrow.Author.Tests.{lt-ltb, le-ltb}
use lib.Dec.{T, ltb}
use lib.ListN.{length, get_or, take, drop}
use Rattle.std.specs.Prelude.{Option, None, Some}
use Rattle.std.proofs.lemmas.List.{take-append-drop}
use lib.Seq.{length-take-le, take-suc}
use Rattle.theory_lists.specs.Lists.{filter, up_to, count_from}
use Rattle.theory_lists.proofs.Reflects.{reflects-and, reflects-test, reflects-ltb}
use Rattle.theory_lists.proofs.ListsLaws.{up_to-to, get_or-member}
use Rattle.theory_lists.proofs.FilterLaws.{filter-pass, filter-fail, filter-append, filter-agree, filter-both}
use Rattle.theory_lists.proofs.FlatMapLaws.{flat_map-append}
use Rattle.theory_lists.proofs.MemberLaws.{filter-to}
use Rattle.theory_lists.proofs.IndexLaws.{up_to-suc}
use Rattle.theory_lists.proofs.CompactLaws.{filter-skip}
use Rattle.spec_plane.specs.Triangle.{proper}
use Rattle.spec_plane.specs.Box.{Box, triangle_box}
use Rattle.spec_charts.specs.Table.{max_triangles, triangle_at}
use Rattle.spec_charts.specs.Overlay.{max_pairs}
use Rattle.base_interiors.specs.declared.differences.Differences.{Differences}
use Rattle.base_interiors.specs.Differences.{Handed}
use Rattle.base_boxes.specs.declared.boxes.BoxTable.{BoxTable}
use Rattle.base_boxes.specs.Boxes.{separate, box_at, boxes_overlap, BoxedTable}
use Rattle.base_boxes.proofs.BoxesLaws.{boxes-disjoint}
use Rattle.overlay_pairs.specs.Pairs.{meets_at, pair_if, near_pairs, row_pairs, marked_pairs, Wrote, NearTriangles}
use Rattle.overlay_candidates.specs.RowCandidates.{marked_at, is_near, NearInRow}
use Rattle.overlay_pairs.proofs.WroteLaws.{wrote_none, wrote-join, wrote-over}

-- ---- the pairs of triangle i with a list of others

module _ (first second : List ℕ) (i : ℕ) where
  one-pair : (j : ℕ) (b : Bool) → meets_at first second i j ≡ b → near_pairs first second i (j ∷ []) ≡ pair_if b i j
  unfolding near_pairs filter
  one-pair j true e = ap (map (λ j. record { i = i; j = j })) (filter-pass (λ j. meets_at first second i j) j [] e)
  one-pair j false e = ap (map (λ j. record { i = i; j = j })) (filter-fail (λ j. meets_at first second i j) j [] e)

  pairs-append : (xs ys : List ℕ) → near_pairs first second i (xs ++ ys) ≡ near_pairs first second i xs ++ near_pairs first second i ys
  unfolding near_pairs
  pairs-append xs ys =
      ap (map (λ j. record { i = i; j = j })) (filter-append (λ j. meets_at first second i j) xs ys)
      ∙ map-append (λ j. record { i = i; j = j }) (filter (λ j. meets_at first second i j) xs) (filter (λ j. meets_at first second i j) ys)

  -- none of a list
  pub pairs-none : (near : List ℕ) (at : ℕ) (l : List ℕ) → at ≤ max_pairs → Wrote (near_pairs first second i (take 0 near)) at (Some at) l l
  unfolding near_pairs filter
  pairs-none near at l h = wrote_none at l h

  module _ (near : List ℕ) (k : ℕ) (h : k < length near) {b : Bool} (e : b ≡ meets_at first second i (get_or near k 0))
      {at c : ℕ} {l l' l'' : List ℕ} (u : Wrote (near_pairs first second i (take k near)) at (Some c) l l') where
    -- one more
    pub pairs-more : {r : Option ℕ} → Wrote (pair_if b i (get_or near k 0)) c r l' l'' → Wrote (near_pairs first second i (take (k + 1) near)) at r l l''
    pairs-more {r} v =
        subst (λ ps. Wrote ps at r l l'') (sym
        (ap (λ n. near_pairs first second i (take n near)) (add-one k)
        ∙ ap (near_pairs first second i) (take-suc near k 0 h)
        ∙ pairs-append (take k near) (get_or near k 0 ∷ [])
        ∙ ap (λ ps. near_pairs first second i (take k near) ++ ps) (one-pair (get_or near k 0) b (sym e))))
        (wrote-join u v)

    -- one too many
    pub pairs-over : Wrote (pair_if b i (get_or near k 0)) c None l' l'' → Wrote (near_pairs first second i near) at None l l''
    pairs-over v =
        subst (λ ps. Wrote ps at None l l'')
        (sym (pairs-append (take (k + 1) near) (drop (k + 1) near)) ∙ ap (near_pairs first second i) (take-append-drop (k + 1) near))
        (wrote-over (near_pairs first second i (drop (k + 1) near)) (pairs-more v))

-- a test that fails where the boxes are separate need not look at them
passes_same : (c a b l : Bool) → (T c → a ≡ false) → l ≡ true → a && (b && not c && l) ≡ a && b
passes_same true true b l h e = absurd (subst (λ b. T b) (h tt) tt)
passes_same true false b l h e = refl
passes_same false a true true h e = refl
passes_same false a false true h e = refl
passes_same false a b false h e = absurd (subst (λ b. T b) (sym e) tt)

last-fails : (a b : Bool) → a && (b && false) ≡ false
last-fails true true = refl
last-fails true false = refl
last-fails false b = refl

-- ---- the pairs of a row

module _ (first rows : List ℕ) (i : ℕ) {second : List ℕ} {held : BoxTable} {near : List ℕ} {m d : ℕ} {b : Box} (o : proper (triangle_at first i) ≡ true) (e : b ≡ triangle_box (triangle_at first i))
    (q : BoxedTable second held m) (few : m ≤ max_triangles) (n : NearInRow b (box_at held) rows m i near max_triangles d) (room : d ≤ length near) where
  -- each candidate is a triangle of the second table
  pub near-triangles : NearTriangles second (take d near)
  near-triangles k l =
      let h : k < d = omega (arith, length-take-le d near room) in
      let x = get_or (take d near) k 0 in
      let box = box_at held in
      let f : ℕ → Bool = λ j. is_near b box rows m i j in
      let passes = (filter-to f (up_to max_triangles) (subst (λ l. Memᴰ x l) n.listed (get_or-member (take d near) k 0 l))).1 in
      let below : x < m = ((reflects-and (reflects-test (marked_at rows i x && boxes_overlap b box x)) (reflects-ltb x m)).to passes).1 in
      record { few = omega arith; room = omega (arith, q.rows) }

  -- among triangles that have a common interior point with it, the candidates are the marked ones
  same_test : (j : ℕ) → j < m → meets_at first second i j && is_near b (box_at held) rows m i j ≡ meets_at first second i j && marked_at rows i j
  same_test j h =
      passes_same (separate b (box_at held j)) (meets_at first second i j) (marked_at rows i j) (ltb j m)
      (λ c. boxes-disjoint (triangle_at first i) o e q j h c) (lt-ltb j m h)

  over : (k : ℕ) → k < max_triangles - m → meets_at first second i (m + k) && is_near b (box_at held) rows m i (m + k) ≡ false
  over k h =
      let box = box_at held in
      ap (λ l. meets_at first second i (m + k) && (marked_at rows i (m + k) && boxes_overlap b box (m + k) && l)) (le-ltb (m + k) m (omega arith))
      ∙ last-fails (meets_at first second i (m + k)) (marked_at rows i (m + k) && boxes_overlap b box (m + k))

  -- so they give the pairs of the row
  row-pairs : near_pairs first second i (take d near) ≡ row_pairs first second m rows i
  unfolding near_pairs row_pairs
  row-pairs =
      let meets : ℕ → Bool = λ j. meets_at first second i j in
      let test : ℕ → Bool = λ j. is_near b (box_at held) rows m i j in
      ap (map (λ j. record { i = i; j = j }))
      (ap (filter meets) n.listed
      ∙ filter-both meets test (up_to max_triangles)
      ∙ ap (λ k. filter (λ j. meets j && test j) (up_to k)) (omega arith)
      ∙ filter-skip (λ j. meets j && test j) m (max_triangles - m) over
      ∙ filter-agree (λ j. meets j && test j) (λ j. meets j && marked_at rows i j) (up_to m) (λ j s. same_test j (up_to-to s)))

  pub row_wrote : {at : ℕ} {r : Option ℕ} {l l' : List ℕ} → Wrote (near_pairs first second i (take d near)) at r l l' → Wrote (row_pairs first second m rows i) at r l l'
  row_wrote {at} {r} {l} {l'} w = subst (λ ps. Wrote ps at r l l') row-pairs w

-- ---- the pairs of all rows

module _ (first second : List ℕ) (m : ℕ) (rows : List ℕ) where
  -- before the first row
  pub rows_none : (l : List ℕ) → Wrote (marked_pairs first 0 second m rows) 0 (Some 0) l l
  unfolding marked_pairs up_to count_from flat_map
  rows_none l = wrote_none 0 l (omega arith)

  one-row : (i : ℕ) → marked_pairs first (i + 1) second m rows ≡ marked_pairs first i second m rows ++ row_pairs first second m rows i
  unfolding marked_pairs flat_map
  one-row i =
      ap (λ n. flat_map (λ i. row_pairs first second m rows i) (up_to n)) (add-one i)
      ∙ ap (flat_map (λ i. row_pairs first second m rows i)) (up_to-suc i)
      ∙ flat_map-append (λ i. row_pairs first second m rows i) (up_to i) (i ∷ [])
      ∙ ap (λ ps. flat_map (λ i. row_pairs first second m rows i) (up_to i) ++ ps) (append-nil (row_pairs first second m rows i))

  -- too many in the first rows are too many in all
  rows-longer : (i k : ℕ) {l l' : List ℕ} → Wrote (marked_pairs first i second m rows) 0 None l l' → Wrote (marked_pairs first (i + k) second m rows) 0 None l l'
  rows-longer i zero {l} {l'} w = subst (λ n. Wrote (marked_pairs first n second m rows) 0 None l l') (omega arith) w
  rows-longer i (suc k) {l} {l'} w =
      subst (λ n. Wrote (marked_pairs first n second m rows) 0 None l l') (omega arith)
      (rows-longer (i + 1) k (subst (λ ps. Wrote ps 0 None l l') (sym (one-row i)) (wrote-over (row_pairs first second m rows i) w)))

  module _ (i : ℕ) {c : ℕ} {l l' l'' : List ℕ} (u : Wrote (marked_pairs first i second m rows) 0 (Some c) l l') where
    -- one row more
    pub rows_more : {r : Option ℕ} → Wrote (row_pairs first second m rows i) c r l' l'' → Wrote (marked_pairs first (i + 1) second m rows) 0 r l l''
    rows_more {r} v = subst (λ ps. Wrote ps 0 r l l'') (sym (one-row i)) (wrote-join u v)

    -- one row with too many
    pub rows-over : (n : ℕ) → i < n → Wrote (row_pairs first second m rows i) c None l' l'' → Wrote (marked_pairs first n second m rows) 0 None l l''
    rows-over n h v =
        subst (λ n. Wrote (marked_pairs first n second m rows) 0 None l l'') (omega arith) (rows-longer (i + 1) (n - (i + 1)) (rows_more v))

-- ---- what the loops have done

-- the pairs of triangle i, of which the test is handed the differences of its sides, with the first k candidates are written
pub record NearDone (first second : List ℕ) (i : ℕ) (near : List ℕ) (sides : Differences) (found k c : ℕ) (before after : List ℕ) : Type 0 where
  pub handed : Handed (triangle_at first i) sides
  pub wrote : Wrote (near_pairs first second i (take k near)) found (Some c) before after

-- the pairs of the first i triangles are written
pub record RowsDone (first second : List ℕ) (m : ℕ) (rows : List ℕ) (i c : ℕ) (start near before after : List ℕ) : Type 0 where
  pub kept : length near ≡ length start
  pub wrote : Wrote (marked_pairs first i second m rows) 0 (Some c) before after
