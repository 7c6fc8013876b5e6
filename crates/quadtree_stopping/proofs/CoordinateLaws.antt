-- The coordinates of corners that are kept as one number each.
-- Assumes nothing.
use mathlib.Core.Path.{◌≡◌, refl, sym, ◌∙◌, ap}
use mathlib.Core.List.{List, [], ◌∷◌}
use Prim.Native.Nat.{ℕ, zero, suc, ◌+◌, ◌*◌, ◌/◌, ◌%◌, ◌<◌}
use native.Mathlib.Omega.{arith}
use lib.ListN.{length, get_or}
use Rattle.spec_plane.specs.declared.Point.{Point}
use Rattle.spec_charts.specs.Table.{numbers_per_triangle, point_at, triangle_at}
use Rattle.quadtree_shapes.specs.Shape.{triangle_corners, coordinates}
use Rattle.quadtree_shapes.specs.Masks.{unpacked, unpacked_triangle}
use Rattle.quadtree_cells.specs.Stack.{Rows, Ready}

-- ---- coordinates

-- two for each point
pub coordinates-length : (ps : List ℕ) → length (coordinates ps) ≡ 2 * length ps
unfolding coordinates
coordinates-length [] = refl
coordinates-length (p ∷ ps) = ap (λ n. suc (suc n)) (coordinates-length ps) ∙ omega arith

-- the corners of the candidates are there
pub ready-rows : {n f t : ℕ} {shape offsets l : List ℕ} (cs : List ℕ) → Ready n f t (coordinates cs) shape offsets l → Rows triangle_corners f t cs l
ready-rows cs r = λ k a b. let h = r.held k a b in omega (arith, r.tables, coordinates-length cs)

-- x of point j
x-at : (ps : List ℕ) (j : ℕ) → get_or (coordinates ps) (2 * j) 0 ≡ get_or ps j 0 % 65536
unfolding coordinates
x-at [] j = refl
x-at (p ∷ ps) zero = refl
x-at (p ∷ ps) (suc j) =
    let e : 2 * suc j ≡ suc (suc (2 * j)) = omega arith in
    ap (λ k. get_or (p % 65536 ∷ p / 65536 ∷ coordinates ps) k 0) e ∙ x-at ps j

-- y of point j
y-at : (ps : List ℕ) (j : ℕ) → get_or (coordinates ps) (2 * j + 1) 0 ≡ get_or ps j 0 / 65536
unfolding coordinates
y-at [] j = refl
y-at (p ∷ ps) zero = refl
y-at (p ∷ ps) (suc j) =
    let e : 2 * suc j + 1 ≡ suc (suc (2 * j + 1)) = omega arith in
    ap (λ k. get_or (p % 65536 ∷ p / 65536 ∷ coordinates ps) k 0) e ∙ y-at ps j

-- point j
pub point-kept : (ps : List ℕ) (j k : ℕ) → k ≡ 2 * j → unpacked (get_or ps j 0) ≡ point_at (coordinates ps) k
unfolding unpacked point_at
point-kept ps j k e =
    let p : ◌≡◌ {A = Point} (record { x = get_or ps j 0 % 65536; y = get_or ps j 0 / 65536 }) (record { x = get_or (coordinates ps) (2 * j) 0; y = get_or (coordinates ps) (2 * j + 1) 0 }) =
    λ i. record { x = sym (x-at ps j) i; y = sym (y-at ps j) i }
    in
    p ∙ ap (λ m. point_at (coordinates ps) m) (sym e)

-- triangle i
pub triangle-kept : (ps : List ℕ) (i : ℕ)
    → unpacked_triangle (get_or ps (triangle_corners * i) 0) (get_or ps (triangle_corners * i + 1) 0) (get_or ps (triangle_corners * i + 2) 0) ≡ triangle_at (coordinates ps) i
unfolding unpacked_triangle triangle_at
triangle-kept ps i =
    let a = point-kept ps (triangle_corners * i) (numbers_per_triangle * i) (omega arith) in
    let b = point-kept ps (triangle_corners * i + 1) (numbers_per_triangle * i + 2) (omega arith) in
    let c = point-kept ps (triangle_corners * i + 2) (numbers_per_triangle * i + 4) (omega arith) in
    λ j. record { a = a j; b = b j; c = c j }

-- they are numbers of 16 bits
pub coordinates-small : (ps : List ℕ) → ((k : ℕ) → get_or ps k 0 < 4294967296) → (k : ℕ) → get_or (coordinates ps) k 0 < 65536
unfolding coordinates
coordinates-small [] h k = omega arith
coordinates-small (p ∷ ps) h zero = omega arith
coordinates-small (p ∷ ps) h (suc zero) =
    let l : p < 4294967296 = h 0 in
    omega arith
coordinates-small (p ∷ ps) h (suc (suc k)) = coordinates-small ps (λ j. h (suc j)) k
