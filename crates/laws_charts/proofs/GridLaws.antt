-- What a table of document 01 is, triangle by triangle: D > 0 and corners on the grid; and that a point that such a triangle
-- holds is on the grid.
-- The idea: a triangle meets the box that is that point alone, so their bounding boxes are not apart.
-- Assumes nothing.
use mathlib.Core.Bool.{Bool, true, false, not, ◌||◌}
use mathlib.Core.List.Memᴰ
use mathlib.Core.List.{List}
use mathlib.Core.Path.{refl}
use Prim.Native.Nat.{ℕ, ◌≤◌, ◌<◌, max}
use native.Mathlib.Omega.{arith}
use lib.Dec.{T, ltb, nltb→le}
use lib.ListN.{length}
use Rattle.theory_lists.specs.Lists.{all}
use Rattle.theory_lists.proofs.Reflects.{Reflects, reflects-ltb, reflects-test}
use Rattle.theory_lists.proofs.ListsLaws.{Every, every-cons, all-reflects, get_or-member}
use Rattle.theory_lists.proofs.EveryLaws.{every-nil, every-imp, every-flat_map}
use Rattle.theory_lists.proofs.EditedLists.{flat_map-every}
use Rattle.spec_plane.specs.declared.Point.{Point}
use Rattle.spec_plane.specs.Triangle.{Triangle, proper, holds}
use Rattle.spec_plane.specs.Box.{Box, apart, triangle_box, triangle_meets, all_outer}
use Rattle.spec_plane.proofs.ExtremeLaws.{OnGrid}
use Rattle.laws_separation.proofs.Meets.{holds-meets}
use Rattle.spec_charts.specs.Table.{Table, IsTable, numbered, no_triangle, max_triangles, sixteen_bit, triangle_numbers, table_numbers}

-- a triangle of a table
pub record IsTriangle (t : Triangle) : Type 0 where
  pub oriented : T (proper t)
  pub a : OnGrid t.a
  pub b : OnGrid t.b
  pub c : OnGrid t.c

-- ---- tables

-- numbers are 16-bit where each is
pub sixteen_bit-reflects : (ns : List ℕ) → Reflects (sixteen_bit ns) (Every (λ n. n < 65536) ns)
unfolding sixteen_bit
sixteen_bit-reflects ns = all-reflects (λ n. ltb n 65536) (λ n. reflects-ltb n 65536) ns

proper-reflects : (table : Table) → Reflects (all (λ t. proper t) table) (Every (λ t. T (proper t)) table)
proper-reflects table = all-reflects (λ t. proper t) (λ t. reflects-test (proper t)) table

numbers-grid : (t : Triangle) → T (proper t) → Every (λ n. n < 65536) (triangle_numbers t) → IsTriangle t
unfolding triangle_numbers
numbers-grid t d h =
    let ax = h t.a.x (Memᴰ.head refl) in
    let ay = h t.a.y (Memᴰ.tail (Memᴰ.head refl)) in
    let bx = h t.b.x (Memᴰ.tail (Memᴰ.tail (Memᴰ.head refl))) in
    let by = h t.b.y (Memᴰ.tail (Memᴰ.tail (Memᴰ.tail (Memᴰ.head refl)))) in
    let cx = h t.c.x (Memᴰ.tail (Memᴰ.tail (Memᴰ.tail (Memᴰ.tail (Memᴰ.head refl))))) in
    let cy = h t.c.y (Memᴰ.tail (Memᴰ.tail (Memᴰ.tail (Memᴰ.tail (Memᴰ.tail (Memᴰ.head refl)))))) in
    record {
      oriented = d;
      a = record { x = omega arith; y = omega arith };
      b = record { x = omega arith; y = omega arith };
      c = record { x = omega arith; y = omega arith };
    }

grid-numbers : (t : Triangle) → IsTriangle t → Every (λ n. n < 65536) (triangle_numbers t)
unfolding triangle_numbers
grid-numbers t h =
    let a = h.a in
    let b = h.b in
    let c = h.c in
    every-cons (
      omega arith,
      every-cons (
        omega arith,
        every-cons (
          omega arith,
          every-cons (omega arith, every-cons (omega arith, every-cons (omega arith, every-nil (λ n. n < 65536)))),
        ),
      ),
    )

-- each triangle of a table has D > 0
pub table-proper : {table : Table} → IsTable table → Every (λ t. T (proper t)) table
table-proper {table} h = (proper-reflects table).to h.oriented

-- each triangle of a table is one
pub table-triangles : {table : Table} → IsTable table → Every IsTriangle table
unfolding table_numbers
table-triangles {table} h t m =
    numbers-grid t (table-proper h t m)
    (flat_map-every (λ t. triangle_numbers t) table ((sixteen_bit-reflects (table_numbers table)).to h.words) t m)

-- so is each that a number below the count stands for
pub numbered-triangle : {table : Table} → IsTable table → (i : ℕ) → i < length table → IsTriangle (numbered table i)
unfolding numbered
numbered-triangle {table} h i l = table-triangles h _ (get_or-member table i no_triangle l)

-- and few such triangles are a table
pub triangles-table : {table : Table} → length table ≤ max_triangles → Every IsTriangle table → IsTable table
unfolding table_numbers
triangles-table {table} few h = record {
  few = few;
  oriented = (proper-reflects table).from (every-imp (λ t g. g.oriented) h);
  words = (sixteen_bit-reflects (table_numbers table)).from (every-flat_map (λ t. triangle_numbers t) table (every-imp grid-numbers h));
}

-- ---- points inside

not-or : (x y : Bool) → T (not (x || y)) → T (not x) × T (not y)
not-or true y h = absurd h
not-or false y h = (tt, h)

-- a point that is held is no farther right or down than the triangle
held-box : (t : Triangle) (p : Point) → T (proper t) → T (holds t p)
    → (p.x ≤ max t.a.x (max t.b.x t.c.x)) × (p.y ≤ max t.a.y (max t.b.y t.c.y))
unfolding triangle_meets apart triangle_box
held-box t p d h =
    let b : Box = record { left = p.x; top = p.y; right = p.x; bottom = p.y } in
    let m = holds-meets t b p d h (omega arith) (omega arith) (omega arith) (omega arith) in
    let box = triangle_box t in
    let o = (not-or (apart box b || all_outer t.a t.b b || all_outer t.b t.c b) (all_outer t.c t.a b) m).0 in
    let q = (not-or (apart box b || all_outer t.a t.b b) (all_outer t.b t.c b) o).0 in
    let r = (not-or (apart box b) (all_outer t.a t.b b) q).0 in
    let s = (not-or (ltb box.right p.x || ltb p.x box.left || ltb box.bottom p.y) (ltb p.y box.top) r).0 in
    let u = not-or (ltb box.right p.x || ltb p.x box.left) (ltb box.bottom p.y) s in
    let v = not-or (ltb box.right p.x) (ltb p.x box.left) u.0 in
    (nltb→le box.right p.x v.0, nltb→le box.bottom p.y u.1)

-- so it is on the grid where the corners are
pub held-grid : (t : Triangle) (p : Point) → IsTriangle t → T (holds t p) → OnGrid p
held-grid t p h i =
    let b = held-box t p h.oriented i in
    let ga = h.a in
    let gb = h.b in
    let gc = h.c in
    record { x = omega arith; y = omega arith }
