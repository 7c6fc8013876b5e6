-- The triangle that a take-out makes of three: its D is the sum of theirs, so it is above zero without a test.
-- Assumes nothing.
use mathlib.Core.Path.{◌≡◌, refl, sym, ◌∙◌, subst}
use mathlib.Core.Logic.{inl, inr}
use Prim.Native.Nat.{ℕ, ◌+◌, ◌<◌}
use native.Mathlib.Omega.{arith}
use lib.Dec.{T}
use lib.ListN.{length}
use Rattle.theory_lists.specs.Lists.{sum_of}
use Rattle.theory_lists.proofs.ListsLaws.{Every}
use Rattle.theory_lists.proofs.EditedLists.{length_merged, every-merged, sum_of-merged}
use Rattle.spec_plane.specs.declared.Point.{Point}
use Rattle.spec_plane.specs.Triangle.{Triangle, proper, doubled_area}
use Rattle.spec_charts.specs.Table.{Table, numbered, no_triangle}
use Rattle.spec_charts.specs.Edits.{triangle, ending_in, has_corner, merge_around}
use Rattle.laws_charts.proofs.TableLaws.{numbered-proper}
use Rattle.laws_charts.proofs.TriangleLaws.{named, area-around, proper-around}
use Rattle.laws_charts.proofs.RotationLaws.{rotations-area, rotations-proper, ending_in-rotation}
use Rattle.laws_charts.proofs.EditLaws.{Closes, merged_triangle, TakenOut}

-- what three triangles around a point make
pub record Sum (t u v s : Triangle) : Type 0 where
  pub oriented : T (proper s)
  pub area : doubled_area s ≡ doubled_area t + doubled_area u + doubled_area v

-- t, u and v, which end in p, are (a,b,p), (b,c,p) and (c,a,p)
merged : (t u v : Triangle) (c p : Point) → Closes t u v c → t.c ≡ p → u.c ≡ p → v.c ≡ p
    → T (proper t) → T (proper u) → T (proper v) → Sum t u v (triangle t.a t.b c)
merged t u v c p h et eu ev pt pu pv =
    let ft = named t refl refl et in
    let fu = named u h.ub h.uc eu in
    let fv = named v h.vc h.va ev in
    let ab = subst (λ s. T (proper s)) ft pt in
    let bc = subst (λ s. T (proper s)) fu pu in
    let ca = subst (λ s. T (proper s)) fv pv in
    record {
      oriented = proper-around t.a t.b c p ab bc ca;
      area =
          area-around t.a t.b c p ab bc ca
          ∙ sym (λ i. doubled_area (ft i) + doubled_area (fu i) + doubled_area (fv i));
    }

-- the rotation that ends in a corner of a triangle with D > 0
pub record Ending (p : Point) (t : Triangle) : Type 0 where
  pub last : (ending_in p t).c ≡ p
  pub oriented : T (proper (ending_in p t))
  pub area : doubled_area (ending_in p t) ≡ doubled_area t

pub ending : (p : Point) (t : Triangle) → T (has_corner p t) → T (proper t) → Ending p t
ending p t h d =
    let r = ending_in-rotation p t h in
    record { last = r.1; oriented = rotations-proper t d (ending_in p t) r.0; area = rotations-area t (ending_in p t) r.0 }

-- a take-out makes a triangle whose D is the sum of the three
pub taken-sum : {p : Point} {table next : Table} (h : TakenOut p table next) → Every (λ t. T (proper t)) table
    → Sum (numbered table h.i) (numbered table h.j) (numbered table h.k)
    (merged_triangle p (numbered table h.i) h.c)
taken-sum {p} {table} h good =
    let ij = h.ij in
    let jk = h.jk in
    let below = h.below in
    let t = ending p (numbered table h.i) h.corner_i (numbered-proper table good h.i (omega arith)) in
    let u = ending p (numbered table h.j) h.corner_j (numbered-proper table good h.j (omega arith)) in
    let v = ending p (numbered table h.k) h.corner_k (numbered-proper table good h.k below) in
    elim h.closed [
      | inl e ↦
          let s = merged _ _ _ h.c p e t.last u.last v.last t.oriented u.oriented v.oriented in
          record { oriented = s.oriented; area = omega (arith, s.area, t.area, u.area, v.area) }
      | inr e ↦
          let s = merged _ _ _ h.c p e t.last v.last u.last t.oriented v.oriented u.oriented in
          record { oriented = s.oriented; area = omega (arith, s.area, t.area, u.area, v.area) }
    ]

-- ---- the table that a take-out makes

module _ (table : Table) (i j k : ℕ) (t : Triangle) (ij : i < j) (jk : j < k) (below : k < length table) where
  -- two triangles fewer
  pub merge-length : length (merge_around table i j k t) + 2 ≡ length table
  unfolding merge_around
  merge-length = length_merged table i j k t ij jk below

  -- each triangle is one of before, or the one made
  pub merge-every : {P : Triangle → Type 0} → Every P table → P t → Every P (merge_around table i j k t)
  unfolding merge_around
  merge-every h p = every-merged table i j k t ij jk below h p

  -- the sum over the table loses the three, and gains the one made
  pub merge-sum : (f : Triangle → ℕ)
      → sum_of f (merge_around table i j k t) + (f (numbered table i) + f (numbered table j) + f (numbered table k)) ≡ sum_of f table + f t
  unfolding merge_around numbered
  merge-sum f = sum_of-merged table i j k t ij jk below f no_triangle
