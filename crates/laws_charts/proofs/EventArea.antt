-- An accepted edit keeps the sum of the doubled areas.
-- The idea: the table's sum loses the areas of the triangles that go and gains those of the new ones, and these are equal by
-- the laws of D.
-- Assumes nothing.
use mathlib.Core.Path.{◌≡◌, refl, sym, ap, subst}
use mathlib.Core.List.{List, [], ◌∷◌, Memᴰ}
use mathlib.Core.Logic.{inl, inr}
use Prim.Native.Nat.{ℕ, ◌+◌}
use native.Mathlib.Omega.{arith}
use lib.Dec.{T}
use lib.ListN.{set}
use Rattle.theory_lists.specs.Lists.{sum_of}
use Rattle.theory_lists.proofs.ListsLaws.{Every}
use Rattle.theory_lists.proofs.SumLaws.{sum-append}
use Rattle.theory_lists.proofs.EditedLists.{sum_of-set, sum_of-two}
use Rattle.spec_plane.specs.declared.Point.{Point}
use Rattle.spec_plane.specs.Triangle.{Triangle, proper, doubled_area}
use Rattle.spec_charts.specs.Table.{Table, IsTable, numbered, no_triangle}
use Rattle.spec_charts.specs.Reading.{total_area}
use Rattle.spec_charts.specs.Refusals.{done}
use Rattle.spec_charts.specs.Edits.{Event, load, insert, take_out, flip, triangle, rotations, split_at, take_out_table, flip_table, insert_table, proposed, event_on}
use Rattle.laws_charts.proofs.TableLaws.{numbered-proper}
use Rattle.laws_charts.proofs.TriangleLaws.{named, area-around, area-across}
use Rattle.laws_charts.proofs.RotationLaws.{rotations-area, rotations-proper, rotations-apart}
use Rattle.laws_charts.proofs.GridLaws.{table-proper}
use Rattle.laws_charts.proofs.EditLaws.{Split, split_parts, merged_triangle, take_out-done}
use Rattle.laws_charts.proofs.FlipLaws.{Flipped, flip-done}
use Rattle.laws_charts.proofs.SideSplitLaws.{side_split-kept}
use Rattle.laws_charts.proofs.InsertLaws.{insert-done}
use Rattle.laws_charts.proofs.MergeLaws.{taken-sum, merge-sum}
use Rattle.laws_charts.proofs.EventTable.{event-proposed}

-- a split keeps the sum of the doubled areas
split-kept : {i : ℕ} {p : Point} {table next : Table} → Split i p table next → total_area next ≡ total_area table
unfolding total_area numbered split_at triangle sum_of
split-kept {i} {p} {table} s =
    let u = numbered table i in
    let d = split_parts s in
    let area : Triangle → ℕ = λ t. doubled_area t in
    let x = triangle u.a u.b p in
    let y = triangle u.b u.c p in
    let z = triangle u.c u.a p in
    rw s.is
    (omega (
      arith,
      sum-append area (set table i x) (y ∷ z ∷ []),
      sum_of-set area table i x no_triangle s.below,
      area-around u.a u.b u.c p d.0 d.1.0 d.1.1,
    ))

-- an insert keeps the sum of the doubled areas
pub insert-area : (p : Point) (table next : Table) → Every (λ t. T (proper t)) table → insert_table p table ≡ done next
    → total_area next ≡ total_area table
insert-area p table next good e =
    let s = insert-done p table next good e in elim s.how [ inl t ↦ split-kept t | inr t ↦ side_split-kept t good ]

-- a take-out keeps the sum of the doubled areas
pub take_out-area : (p : Point) (table next : Table) → Every (λ t. T (proper t)) table → take_out_table p table ≡ done next
    → total_area next ≡ total_area table
unfolding total_area
take_out-area p table next good e =
    let s = take_out-done p table next e in
    let m = merged_triangle p (numbered table s.i) s.c in
    rw s.is
    (omega
    (arith, merge-sum table s.i s.j s.k m s.ij s.jk s.below (λ t. doubled_area t), (taken-sum s good).area))

module _ {i j : ℕ} {table next : Table} (s : Flipped i j table next) (good : Every (λ t. T (proper t)) table) where
  -- a flip that is accepted is of two triangles
  pub flip-differ : j ≡ i → ⊥
  flip-differ e =
      let u = subst (λ k. Memᴰ s.u (rotations (numbered table k))) e s.rotation_j in
      rotations-apart (numbered table i) (numbered-proper table good i s.below_i) s.t s.rotation_i s.u u s.ab s.ba

  -- the two new triangles have the area of the two old ones
  flip-both : doubled_area (triangle s.t.a s.u.c s.t.c) + doubled_area (triangle s.u.c s.t.b s.t.c)
      ≡ doubled_area (numbered table i) + doubled_area (numbered table j)
  flip-both =
      let t = s.t in
      let u = s.u in
      let a = rotations-area (numbered table i) t s.rotation_i in
      let b = rotations-area (numbered table j) u s.rotation_j in
      let p = rotations-proper (numbered table i) (numbered-proper table good i s.below_i) t s.rotation_i in
      let q = rotations-proper (numbered table j) (numbered-proper table good j s.below_j) u s.rotation_j in
      let e = named t refl refl refl in
      let f = named u (sym s.ba) (sym s.ab) refl in
      let across =
      area-across t.a t.b t.c u.c (subst (λ s. T (proper s)) e p) (subst (λ s. T (proper s)) f q) s.proper_i s.proper_j in
      omega (arith, across, a, b, ap (λ s. doubled_area s) e, ap (λ s. doubled_area s) f)

-- a flip keeps the sum of the doubled areas
pub flip-area : (i j : ℕ) (table next : Table) → Every (λ t. T (proper t)) table → flip_table i j table ≡ done next
    → total_area next ≡ total_area table
unfolding total_area numbered
flip-area i j table next good e =
    let s = flip-done i j table next e in
    let x = triangle s.t.a s.u.c s.t.c in
    let y = triangle s.u.c s.t.b s.t.c in
    rw s.is
    (omega (arith, sum_of-two (λ t. doubled_area t) table i j x y no_triangle (flip-differ s good) s.below_i s.below_j, flip-both s good))

-- so does each event that is no load, in the table that it proposes
pub edit-area : (e : Event) (table next : Table) → ((ns : List ℕ) → e ≡ load ns → ⊥) → IsTable table → proposed e table ≡ done next
    → total_area next ≡ total_area table
unfolding proposed
edit-area (load ns) table next n h d = absurd (n ns refl)
edit-area (insert p) table next n h d = insert-area p table next (table-proper h) d
edit-area (take_out p) table next n h d = take_out-area p table next (table-proper h) d
edit-area (flip i j) table next n h d = flip-area i j table next (table-proper h) d

-- and in the table that it leaves, where it is accepted
pub event-area : (e : Event) (table next : Table) → ((ns : List ℕ) → e ≡ load ns → ⊥) → IsTable table → event_on e table ≡ done next
    → total_area next ≡ total_area table
event-area e table next n h d = edit-area e table next n h (event-proposed e table next d)
