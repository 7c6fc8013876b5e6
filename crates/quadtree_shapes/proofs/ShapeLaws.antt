-- The numbers that code keeps of a table answer the questions of document 01: a box meets a triangle, or one of its sides,
-- by the test on these numbers exactly when it does by the definition.
-- Assumes nothing.
use mathlib.Core.Path.{◌≡◌, refl, sym, ◌∙◌, ap, ap₂}
use mathlib.Core.Bool.{Bool, true, false, cond, not, ◌&&◌, ◌||◌}
use mathlib.Core.List.{List, [], ◌∷◌, map, flat_map, Memᴰ}
use Prim.Native.Nat.{ℕ, ◌+◌, ◌*◌, ◌≤◌, ◌<◌}
use native.Mathlib.Omega.{arith}
use borrow.Author.Tests.{leb-true, leb-false, ltb-true, ltb-false}
use lib.Dec.{T, leb, ltb, eqb}
use lib.ListN.{length, get_or}
use lib.Seq.{get_or-take}
use Rattle.theory_lists.proofs.ListsLaws.{get_or-stride, get_or-member}
use Rattle.spec_plane.specs.declared.Point.{Point}
use Rattle.spec_plane.specs.Point.{distance}
use Rattle.spec_plane.specs.Triangle.{Triangle, sides}
use Rattle.spec_plane.specs.Box.{Box, Framed, apart, side_box, triangle_box, all_inner, all_outer, side_meets, triangle_meets}
use Rattle.spec_plane.proofs.ExtremeLaws.{offset, OnGrid, CornersOnGrid, all_outer-extreme, all_inner-extreme}
use Rattle.spec_charts.specs.Table.{Table, numbered, no_triangle}
use Rattle.quadtree_shapes.specs.Shape.{triangle_sides, triangle_corners, line_numbers, shape_numbers, second_side, third_side, whole_box, at_most, chosen, line_shape, side_shape, shape_of, side_offset, offsets_of, corners_of, Shaped, largest_at, smallest_at, touches_at, triangle_meets_at, side_meets_at}
use Rattle.quadtree_shapes.specs.Masks.{sides_met}

-- ---- one side

-- a flag chooses as its test does
chosen-at_most : (m n x y : ℕ) → chosen (at_most m n) y x ≡ cond (leb m n) x y
chosen-at_most m n x y = go (leb m n)
  where
    go : (t : Bool) → cond (eqb (cond t 1 0) 0) y x ≡ cond t x y
    go true = refl
    go false = refl

-- V(p) is what D takes away
side_offset-offset : (p q : Point) → side_offset p q ≡ offset p q
unfolding side_offset
side_offset-offset p q = rw (chosen-at_most q.y p.y, chosen-at_most p.x q.x)

not-ltb : (m n : ℕ) → not (ltb m n) ≡ leb n m
not-ltb m n = go (ltb m n) refl (leb n m) refl
  where
    go : (a : Bool) → ltb m n ≡ a → (b : Bool) → leb n m ≡ b → not a ≡ b
    go true e true f = let h = ltb-true m n e in let k = leb-true n m f in absurd (omega arith)
    go true e false f = refl
    go false e true f = refl
    go false e false f = let h = ltb-false m n e in let k = leb-false n m f in absurd (omega arith)

not-or : (a b : Bool) → not (a || b) ≡ (not a && not b)
not-or true b = refl
not-or false b = refl

not-or3 : (a b c : Bool) → not (a || b || c) ≡ (not a && not b && not c)
not-or3 a b c = not-or (a || b) c ∙ ap (λ x. x && not c) (not-or a b)

not-or4 : (a b c d : Bool) → not (a || b || c || d) ≡ (not a && not b && not c && not d)
not-or4 a b c d = not-or (a || b || c) d ∙ ap (λ x. x && not d) (not-or3 a b c)

or-false : (a : Bool) → a || false ≡ a
or-false true = refl
or-false false = refl

-- neither of two tests passes
neither : (a b : Bool) → T (not (a || b)) → T (not a) × (b ≡ false)
neither true b h = absurd h
neither false true h = absurd h
neither false false h = (tt, refl)

-- a box that a triangle meets has a corner that is not outside of each side
reached : (t : Triangle) (b : Box) → T (triangle_meets t b)
    → (all_outer t.a t.b b ≡ false) × ((all_outer t.b t.c b ≡ false) × (all_outer t.c t.a b ≡ false))
unfolding triangle_meets
reached t b h =
    let d = apart (triangle_box t) b in
    let x = all_outer t.a t.b b in
    let y = all_outer t.b t.c b in
    let ca = neither (d || x || y) (all_outer t.c t.a b) h in
    let bc = neither (d || x) y ca.0 in
    ((neither d x bc.0).1, (bc.1, ca.1))

-- two boxes are not apart
not-apart : (d b : Box)
    → not (apart d b) ≡ (leb b.left d.right && leb d.left b.right && leb b.top d.bottom && leb d.top b.bottom)
unfolding apart
not-apart d b = simp (not-or, not-ltb)

-- ---- the numbers of a triangle

pub shape-length : (t : Triangle) → length (shape_of t) ≡ shape_numbers
unfolding shape_of side_shape line_shape
shape-length t = refl

pub offsets-length : (t : Triangle) → length (offsets_of t) ≡ triangle_sides
unfolding offsets_of
offsets-length t = refl

pub corners-length : (t : Triangle) → length (corners_of t) ≡ triangle_corners
unfolding corners_of
corners-length t = refl

module _ (table : Table) (s o : List ℕ) (h : Shaped table s o) (i : ℕ) (l : i < length table) where
  number : (k m : ℕ) → k ≡ shape_numbers * i + m → m < shape_numbers → get_or s k 0 ≡ get_or (shape_of (numbered table i)) m 0
  unfolding numbered
  number k m e lt =
      sym (get_or-take (shape_numbers * length table) s k 0 (omega arith))
      ∙ ap (λ r. get_or r k 0) h.shapes
      ∙ ap (λ j. get_or (flat_map (λ t. shape_of t) table) j 0) e
      ∙ get_or-stride (λ t. shape_of t) shape_numbers shape-length table i m no_triangle l lt

  offset_at : (k m : ℕ) → k ≡ triangle_sides * i + m → m < triangle_sides → get_or o k 0 ≡ get_or (offsets_of (numbered table i)) m 0
  unfolding numbered
  offset_at k m e lt =
      sym (get_or-take (triangle_sides * length table) o k 0 (omega arith))
      ∙ ap (λ r. get_or r k 0) h.offs
      ∙ ap (λ j. get_or (flat_map (λ t. offsets_of t) table) j 0) e
      ∙ get_or-stride (λ t. offsets_of t) triangle_sides offsets-length table i m no_triangle l lt

-- ---- tests on the kept numbers

-- the numbers of the side from p to q start at k
record SideAt (s : List ℕ) (k : ℕ) (p q : Point) : Type 0 where
  steep_x : get_or s k 0 ≡ distance p.y q.y
  steep_y : get_or s (k + 1) 0 ≡ distance q.x p.x
  grows_x : get_or s (k + 2) 0 ≡ at_most q.y p.y
  grows_y : get_or s (k + 3) 0 ≡ at_most p.x q.x

-- and those of a box
record BoxAt (s : List ℕ) (k : ℕ) (d : Box) : Type 0 where
  left : get_or s k 0 ≡ d.left
  top : get_or s (k + 1) 0 ≡ d.top
  right : get_or s (k + 2) 0 ≡ d.right
  bottom : get_or s (k + 3) 0 ≡ d.bottom

module _ (s : List ℕ) (k v : ℕ) {p q : Point} (a : SideAt s k p q) (e : v ≡ side_offset p q) (on : OnGrid p) (b : Box) (f : Framed b) where
  -- the largest V is at least V(p) unless all corners are outside
  largest-outer : leb v (largest_at s k b) ≡ not (all_outer p q b)
  unfolding largest_at
  largest-outer =
      rw (e, side_offset-offset p q, a.steep_x, a.steep_y, a.grows_x, a.grows_y, chosen-at_most q.y p.y, chosen-at_most p.x q.x, all_outer-extreme p q on b f, not-ltb)

  -- the smallest is at most V(p) unless all corners are inside
  smallest-inner : leb (smallest_at s k b) v ≡ not (all_inner p q b)
  unfolding smallest_at
  smallest-inner =
      rw (e, side_offset-offset p q, a.steep_x, a.steep_y, a.grows_x, a.grows_y, chosen-at_most q.y p.y, chosen-at_most p.x q.x, all_inner-extreme p q on b f, not-ltb)

touches-box : (s : List ℕ) (k : ℕ) (d b : Box) → BoxAt s k d → touches_at s k b ≡ not (apart d b)
unfolding touches_at
touches-box s k d b a = rw (a.left, a.top, a.right, a.bottom, not-apart d b)

module _ (table : Table) (s o : List ℕ) (h : Shaped table s o) (i : ℕ) (l : i < length table) where
  -- what stands at m of the triangle's own numbers stands at the start of its numbers + m
  side-at : {p q : Point} (k m : ℕ) → k ≡ shape_numbers * i + m → m + line_numbers ≤ shape_numbers → SideAt (shape_of (numbered table i)) m p q → SideAt s k p q
  side-at k m e lt a =
      let r = number table s o h i l in
      record {
        steep_x = r k m e (omega arith) ∙ a.steep_x;
        steep_y = r (k + 1) (m + 1) (omega arith) (omega arith) ∙ a.steep_y;
        grows_x = r (k + 2) (m + 2) (omega arith) (omega arith) ∙ a.grows_x;
        grows_y = r (k + 3) (m + 3) (omega arith) (omega arith) ∙ a.grows_y;
      }

  box-at : {d : Box} (k m : ℕ) → k ≡ shape_numbers * i + m → m + line_numbers ≤ shape_numbers → BoxAt (shape_of (numbered table i)) m d → BoxAt s k d
  box-at k m e lt a =
      let r = number table s o h i l in
      record {
        left = r k m e (omega arith) ∙ a.left;
        top = r (k + 1) (m + 1) (omega arith) (omega arith) ∙ a.top;
        right = r (k + 2) (m + 2) (omega arith) (omega arith) ∙ a.right;
        bottom = r (k + 3) (m + 3) (omega arith) (omega arith) ∙ a.bottom;
      }

  -- the three sides and the triangle's box
  first-side : SideAt s (shape_numbers * i) (numbered table i).a (numbered table i).b
  unfolding shape_of side_shape line_shape
  first-side = side-at (shape_numbers * i) 0 (omega arith) (omega arith) (record { steep_x = refl; steep_y = refl; grows_x = refl; grows_y = refl })

  second-side : SideAt s (shape_numbers * i + second_side) (numbered table i).b (numbered table i).c
  unfolding shape_of side_shape line_shape
  second-side = side-at (shape_numbers * i + second_side) second_side refl (omega arith) (record { steep_x = refl; steep_y = refl; grows_x = refl; grows_y = refl })

  third-side : SideAt s (shape_numbers * i + third_side) (numbered table i).c (numbered table i).a
  unfolding shape_of side_shape line_shape
  third-side = side-at (shape_numbers * i + third_side) third_side refl (omega arith) (record { steep_x = refl; steep_y = refl; grows_x = refl; grows_y = refl })

  whole-box : BoxAt s (shape_numbers * i + whole_box) (triangle_box (numbered table i))
  unfolding shape_of side_shape line_shape triangle_box
  whole-box = box-at (shape_numbers * i + whole_box) whole_box refl (omega arith) (record { left = refl; top = refl; right = refl; bottom = refl })

  -- the corners of the triangle are grid points
  module _ (grid : (t : Triangle) → Memᴰ t table → CornersOnGrid t) (b : Box) (f : Framed b) where
    corners-on : CornersOnGrid (numbered table i)
    unfolding numbered
    corners-on = grid (numbered table i) (get_or-member table i no_triangle l)

    -- the test on the kept numbers is the triangle's
    pub triangle-meets-at : triangle_meets_at s o i b ≡ triangle_meets (numbered table i) b
    unfolding triangle_meets_at triangle_meets offsets_of
    triangle-meets-at =
        let t = numbered table i in
        let on = corners-on in
        let v = offset_at table s o h i l in
        let ab = largest-outer s (shape_numbers * i) (get_or o (triangle_sides * i) 0) first-side (v (triangle_sides * i) 0 (omega arith) (omega arith)) on.a b f in
        let bc = largest-outer s (shape_numbers * i + second_side) (get_or o (triangle_sides * i + 1) 0) second-side (v (triangle_sides * i + 1) 1 refl (omega arith)) on.b b f in
        let ca = largest-outer s (shape_numbers * i + third_side) (get_or o (triangle_sides * i + 2) 0) third-side (v (triangle_sides * i + 2) 2 refl (omega arith)) on.c b f in
        ap₂ ◌&&◌ (ap₂ ◌&&◌ (ap₂ ◌&&◌ (touches-box s (shape_numbers * i + whole_box) (triangle_box t) b whole-box) ab) bc) ca
        ∙ sym (not-or4 (apart (triangle_box t) b) (all_outer t.a t.b b) (all_outer t.b t.c b) (all_outer t.c t.a b))

    -- the test on a side's numbers, which start at k, is the side's, where not all corners are outside
    side-meets : {p q : Point} (k v : ℕ) → SideAt s k p q → BoxAt s (k + line_numbers) (side_box (record { start = p; end = q })) → OnGrid p → v ≡ side_offset p q
        → all_outer p q b ≡ false → side_meets_at s k v b ≡ side_meets (record { start = p; end = q }) b
    unfolding side_meets_at side_meets
    side-meets {p} {q} k v a d on e r =
        let far = apart (side_box (record { start = p; end = q })) b in
        ap₂ ◌&&◌ (touches-box s (k + line_numbers) (side_box (record { start = p; end = q })) b d) (smallest-inner s k v a e on b f)
        ∙ sym (not-or far (all_inner p q b))
        ∙ ap not (sym (ap (λ x. far || all_inner p q b || x) r ∙ or-false (far || all_inner p q b)))

    -- so for the sides of a triangle that meets the box
    pub sides-meet : T (triangle_meets (numbered table i) b) → sides_met s o b i ≡ map (λ d. side_meets d b) (sides (numbered table i))
    unfolding sides_met offsets_of side_box shape_of side_shape line_shape
    sides-meet m =
        let on = corners-on in
        let v = offset_at table s o h i l in
        let out = reached (numbered table i) b m in
        let ab =
        side-meets (shape_numbers * i) _ first-side
        (box-at (shape_numbers * i + line_numbers) line_numbers refl (omega arith) (record { left = refl; top = refl; right = refl; bottom = refl }))
        on.a (v (triangle_sides * i) 0 (omega arith) (omega arith)) out.0
        in
        let bc =
        side-meets (shape_numbers * i + second_side) _ second-side
        (box-at (shape_numbers * i + second_side + line_numbers) (second_side + line_numbers) (omega arith) (omega arith) (record { left = refl; top = refl; right = refl; bottom = refl }))
        on.b (v (triangle_sides * i + 1) 1 refl (omega arith)) out.1.0
        in
        let ca =
        side-meets (shape_numbers * i + third_side) _ third-side
        (box-at (shape_numbers * i + third_side + line_numbers) (third_side + line_numbers) (omega arith) (omega arith) (record { left = refl; top = refl; right = refl; bottom = refl }))
        on.c (v (triangle_sides * i + 2) 2 refl (omega arith)) out.1.1
        in
        ap₂ ◌∷◌ ab (ap₂ ◌∷◌ bc (ap (λ x. x ∷ []) ca))
