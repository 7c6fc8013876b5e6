-- The tables that events propose have at most 512 triangles, each with D > 0, where the table before them has: no number needs a
-- range for that.
-- The idea: a load's length and triangles are tested, so are the parts of a flip, a point inside makes three with D > 0 and one on a
-- side two with shares of D, and three triangles around a point make one with their areas' sum.
-- Assumes nothing.
use mathlib.Core.Path.{◌≡◌}
use mathlib.Core.Logic.{inl, inr}
use Prim.Native.Nat.{ℕ, ◌≤◌}
use native.Mathlib.Omega.{arith}
use lib.Dec.{T}
use lib.ListN.{length, set, length-set}
use Rattle.theory_lists.proofs.ListsLaws.{Every}
use Rattle.theory_lists.proofs.EditedLists.{every_set}
use Rattle.spec_plane.specs.declared.Point.{Point}
use Rattle.spec_plane.specs.Triangle.{proper}
use Rattle.spec_charts.specs.Table.{Table, numbered, max_triangles}
use Rattle.spec_charts.specs.Refusals.{done}
use Rattle.spec_charts.specs.Edits.{Event, load, insert, take_out, flip, proposed}
use Rattle.laws_charts.proofs.LoadTable.{load-done}
use Rattle.laws_charts.proofs.EditLaws.{split_parts, split-every, merged_triangle, TakenOut, take_out-done}
use Rattle.laws_charts.proofs.FlipLaws.{Flipped, flip-done}
use Rattle.laws_charts.proofs.SideSplitLaws.{side_split-proper}
use Rattle.laws_charts.proofs.InsertLaws.{Inserted, insert-done}
use Rattle.laws_charts.proofs.MergeLaws.{taken-sum, merge-length, merge-every}

-- at most 512 triangles, each with D > 0
pub record Drawable (table : Table) : Type 0 where
  pub few : length table ≤ max_triangles
  pub oriented : Every (λ t. T (proper t)) table

module _ {table : Table} (h : Drawable table) where
  insert-drawable : {next : Table} (p : Point) → Inserted p table next → Drawable next
  insert-drawable p s = elim s.how [
    | inl t ↦ let d = split_parts t in record { few = t.few; oriented = split-every t h.oriented d.0 d.1.0 d.1.1 }
    | inr t ↦ record { few = t.few; oriented = side_split-proper t h.oriented }
  ]

  take_out-drawable : {next : Table} (p : Point) → TakenOut p table next → Drawable next
  take_out-drawable p s =
      let few = h.few in
      let n = merge-length table s.i s.j s.k (merged_triangle p (numbered table s.i) s.c) s.ij s.jk s.below in
      rw s.is (record {
        few = omega arith;
        oriented = merge-every table s.i s.j s.k _ s.ij s.jk s.below h.oriented (taken-sum s h.oriented).oriented;
      })

  flip-drawable : {next : Table} (i j : ℕ) → Flipped i j table next → Drawable next
  flip-drawable i j s =
      let few = h.few in
      rw s.is (record {
        few = simp length-set few;
        oriented = every_set (set table i _) j (every_set table i h.oriented s.proper_i) s.proper_j;
      })

pub proposed-drawable : (e : Event) (table next : Table) → Drawable table → proposed e table ≡ done next → Drawable next
unfolding proposed
proposed-drawable (load ns) table next h d = let l = load-done ns next d in record { few = l.few; oriented = l.oriented }
proposed-drawable (insert p) table next h d = insert-drawable h p (insert-done p table next h.oriented d)
proposed-drawable (take_out p) table next h d = take_out-drawable h p (take_out-done p table next d)
proposed-drawable (flip i j) table next h d = flip-drawable h i j (flip-done i j table next d)
