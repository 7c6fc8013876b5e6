-- The corners that are kept as one number each: their coordinates are those of the table.
-- Assumes nothing.
use mathlib.Core.Path.{◌≡◌, refl, sym, ◌∙◌, ap, ap₂, subst}
use mathlib.Core.Bool.{true}
use mathlib.Core.List.{List, [], ◌∷◌, map, flat_map}
use Prim.Native.Nat.{ℕ, zero, suc, ◌+◌, ◌*◌, ◌/◌, ◌%◌, ◌≤◌, ◌<◌}
use native.Mathlib.Omega.{arith}
use lib.ListN.{length, get_or, take}
use lib.Seq.{sets}
use Rattle.theory_lists.specs.Lists.{all, up_to}
use Rattle.theory_lists.proofs.ListsLaws.{Every, every-uncons, get_or-stride, up_to-to, sets-length}
use Rattle.theory_lists.proofs.FlatMapLaws.{flat_map-length}
use Rattle.theory_lists.proofs.StoredLaws.{take-stored}
use Rattle.spec_plane.specs.declared.Point.{Point}
use Rattle.spec_plane.specs.Triangle.{proper}
use Rattle.spec_squares.specs.Square.{whole_square, square_key}
use Rattle.spec_squares.proofs.SquareLaws.{whole-aligned}
use Rattle.spec_charts.specs.Table.{point_at, triangle_at, table_of, numbered, no_triangle, numbers_per_triangle}
use Rattle.laws_charts.proofs.TableLaws.{table_of-length, numbered-at}
use Rattle.quadtree_shapes.specs.Shape.{triangle_corners, shape_of, offsets_of, packed_point, corners_of, coordinates}
use Rattle.quadtree_shapes.specs.Masks.{unpacked}
use Rattle.quadtree_shapes.proofs.ShapeLaws.{corners-length}
use Rattle.quadtree_prepare.specs.Prepare.{StoredShapes}
use Rattle.quadtree_cells.specs.declared.quarters.KeyedSquare.{KeyedSquare}
use Rattle.quadtree_cells.specs.Stack.{Ready, Prepared}
use Rattle.quadtree_cells.specs.Quarters.{Keyed}
use Rattle.quadtree_stopping.specs.Stopping.{triangle_total, corner_table}
use Rattle.quadtree_stopping.proofs.CoordinateLaws.{coordinates-length, coordinates-small, point-kept}
use Rattle.quadtree_build.specs.Build.{levels_from, Candidates, Buildable, BuildRoom}
use Rattle.quadtree_build.proofs.WholeWalk.{whole_ready, whole-prepared, whole-candidates, whole-key}

-- ---- a table

point-packed : (p : Point) → p.x < 65536 → unpacked (packed_point p) ≡ p
unfolding unpacked
point-packed p h =
    let x : (p.x + 65536 * p.y) % 65536 ≡ p.x = omega arith in
    let y : (p.x + 65536 * p.y) / 65536 ≡ p.y = omega arith in
    λ i. record { x = x i; y = y i }

map-agree : {A B : Type 0} (f g : A → B) (l : List A) → Every (λ a. f a ≡ g a) l → map f l ≡ map g l
map-agree f g [] h = refl
map-agree f g (a ∷ l) h = let e = every-uncons h in ap₂ ◌∷◌ e.0 (map-agree f g l e.1)

module _ (n : ℕ) (ns cs : List ℕ) (e : cs ≡ flat_map (λ t. corners_of t) (table_of ns n)) (small : (k : ℕ) → get_or ns k 0 < 65536) where
  -- corner m of triangle i
  corner : (i m : ℕ) → i < n → m < triangle_corners → get_or cs (triangle_corners * i + m) 0 ≡ get_or (corners_of (triangle_at ns i)) m 0
  unfolding numbered
  corner i m l lt =
      ap (λ r. get_or r (triangle_corners * i + m) 0) e
      ∙ get_or-stride (λ t. corners_of t) triangle_corners corners-length (table_of ns n) i m no_triangle (rw (table_of-length ns n) l) lt
      ∙ ap (λ t. get_or (corners_of t) m 0) (numbered-at ns n i l)

  corner-point : (i m k : ℕ) (p : Point) → i < n → m < triangle_corners → k ≡ 2 * (triangle_corners * i + m) → get_or (corners_of (triangle_at ns i)) m 0 ≡ packed_point p → p.x < 65536
      → point_at (coordinates cs) k ≡ p
  corner-point i m k p l lt ek ec s =
      sym (point-kept cs (triangle_corners * i + m) k ek) ∙ ap unpacked (corner i m l lt ∙ ec) ∙ point-packed p s

  triangle-kept : (i : ℕ) → i < n → triangle_at (coordinates cs) i ≡ triangle_at ns i
  unfolding triangle_at point_at corners_of
  triangle-kept i l =
      let a = corner-point i 0 (numbers_per_triangle * i) (point_at ns (numbers_per_triangle * i)) l (omega arith) (omega arith) refl (small (numbers_per_triangle * i)) in
      let b = corner-point i 1 (numbers_per_triangle * i + 2) (point_at ns (numbers_per_triangle * i + 2)) l (omega arith) (omega arith) refl (small (numbers_per_triangle * i + 2)) in
      let c = corner-point i 2 (numbers_per_triangle * i + 4) (point_at ns (numbers_per_triangle * i + 4)) l (omega arith) (omega arith) refl (small (numbers_per_triangle * i + 4)) in
      λ j. record { a = a j; b = b j; c = c j }

  -- the table of these corners
  pub table_kept : table_of (coordinates cs) n ≡ table_of ns n
  unfolding table_of
  table_kept = map-agree (λ i. triangle_at (coordinates cs) i) (λ i. triangle_at ns i) (up_to n) (λ i m. triangle-kept i (up_to-to m))

take-small : (b : ℕ) → 0 < b → (m : ℕ) (l : List ℕ) → ((k : ℕ) → get_or l k 0 < b) → (k : ℕ) → get_or (take m l) k 0 < b
take-small b p zero l h k = p
take-small b p (suc m) [] h k = p
take-small b p (suc m) (x ∷ l) h zero = h 0
take-small b p (suc m) (x ∷ l) h (suc k) = take-small b p m l (λ j. h (suc j)) k

-- the numbers of the triangles are stored, and the list of corners ends with them
module _ (n : ℕ) (ns : List ℕ) {sh o cs sh₁ o₁ cs₁ l : List ℕ} (stored : StoredShapes (table_of ns n) sh o cs sh₁ o₁ cs₁) (room : BuildRoom n sh o cs l)
    (small : (k : ℕ) → get_or ns k 0 < 65536) where
  abbrev kept : List ℕ
  kept = take (triangle_corners * n) cs₁

  stored-length : length (flat_map (λ t. corners_of t) (table_of ns n)) ≡ triangle_corners * n
  stored-length = flat_map-length (λ t. corners_of t) triangle_corners corners-length (table_of ns n) ∙ ap (λ m. triangle_corners * m) (table_of-length ns n)

  kept-corners : kept ≡ flat_map (λ t. corners_of t) (table_of ns n)
  kept-corners =
      ap (take (triangle_corners * n)) stored.points
      ∙ take-stored cs (flat_map (λ t. corners_of t) (table_of ns n)) (triangle_corners * n) stored-length room.numbers.points

  kept-length : length kept ≡ triangle_corners * n
  kept-length = ap length kept-corners ∙ stored-length

  kept-total : triangle_total kept ≡ n
  kept-total = omega (arith, kept-length)

  same-table : table_of (coordinates kept) n ≡ table_of ns n
  same-table = table_kept n ns kept kept-corners small

  -- the table of the list
  pub stored-kept : corner_table kept ≡ table_of ns n
  stored-kept = ap (table_of (coordinates kept)) kept-total ∙ same-table

  -- the whole square
  module _ (s : KeyedSquare) (es : s.square ≡ whole_square) where
    whole-keyed : s.key ≡ 0 → Keyed s
    whole-keyed e = record { aligned = rw es whole-aligned; key = e ∙ whole-key ∙ sym (ap square_key es) }

    whole-level : s.square.level ≡ 0
    unfolding whole_square
    whole-level = ap (λ x. x.level) es

    -- all that the recursion asks there
    pub kept-start : {l₁ : List ℕ} → l₁ ≡ sets l 0 (up_to n) → s.key ≡ 0 → ((k : ℕ) → get_or cs₁ k 0 < 4294967296)
        → all (λ t. proper t) (table_of ns n) ≡ true → Buildable 0 n kept sh₁ o₁ l₁ s
    kept-start {l₁} el key wide good =
        let shapes : StoredShapes (table_of (coordinates kept) n) sh o cs sh₁ o₁ cs₁ = rw same-table stored in
        let r = room.numbers in
        let fit : n ≤ length l = omega (arith, room.levels) in
        let same = sets-length l 0 (up_to n) el in
        let put = sets-length sh 0 (flat_map (λ t. shape_of t) (table_of ns n)) stored.shapes in
        let off = sets-length o 0 (flat_map (λ t. offsets_of t) (table_of ns n)) stored.offs in
        let here : (P : ℕ → Type 0) → P n → P (triangle_total kept) = λ P p. subst P (sym kept-total) p in
        record {
          ready = here (λ m. Ready m 0 n (coordinates kept) sh₁ o₁ l₁)
              (whole_ready n l (omega (arith, coordinates-length kept, kept-length)) (omega (arith, r.shapes)) (omega (arith, r.offs)) fit el);
          prepared = here (λ m. Prepared m (coordinates kept) sh₁ o₁)
              (whole-prepared n (coordinates kept) r shapes (coordinates-small kept (take-small 4294967296 (omega arith) (triangle_corners * n) cs₁ wide))
              (ap (all (λ t. proper t)) same-table ∙ good));
          candidates = here (λ m. Candidates m 0 n (coordinates kept) l₁ s.square) (whole-candidates n (coordinates kept) l fit el es);
          keyed = whole-keyed key;
          room = here (λ m. n + levels_from s.square.level * m ≤ length l₁) (rw whole-level (omega (arith, room.levels)));
        }
