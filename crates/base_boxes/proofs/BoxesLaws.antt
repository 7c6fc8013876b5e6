-- Boxes of a table, and what they say of its triangles.
-- Assumes nothing.
use mathlib.Core.Path.{◌≡◌, refl, ◌∙◌, subst}
use mathlib.Core.Bool.{true, false}
use mathlib.Core.List.{List}
use Prim.Native.Nat.{ℕ, ◌+◌, ◌≤◌, ◌<◌}
use native.Mathlib.Decide.{ℕ_discrete}
use native.Mathlib.Omega.{arith}
use lib.Dec.{T}
use lib.ListN.{length, set, length-set}
use lib.Seq.{get_or-set_same, get_or-set_other}
use Rattle.theory_lists.proofs.Reflects.{Reflects, reflects-leb, reflects-or}
use Rattle.spec_plane.specs.Triangle.{Triangle, proper}
use Rattle.spec_plane.specs.Box.{Box, triangle_box}
use Rattle.spec_plane.specs.Interior.{interiors_meet}
use Rattle.laws_separation.proofs.BoxLaws.{Separate, separate-disjoint}
use Rattle.spec_charts.specs.Table.{triangle_at}
use Rattle.laws_charts.proofs.ProperLaws.{proper-at, proper-fewer}
use Rattle.base_boxes.specs.declared.boxes.BoxTable.{BoxTable}
use Rattle.base_boxes.specs.Boxes.{separate, box_at, Places, Stored, Boxes, BoxedTable}

-- what the test of two boxes decides
separate-reflects : (b d : Box) → Reflects (separate b d) (Separate b d)
separate-reflects b d =
    reflects-or
    (reflects-or (reflects-or (reflects-leb b.right d.left) (reflects-leb d.right b.left))
    (reflects-leb b.bottom d.top))
    (reflects-leb d.bottom b.top)

-- lists with n places have fewer
pub places-fewer : (ls ts rs bs : List ℕ) (m n : ℕ) → m ≤ n → Places ls ts rs bs n → Places ls ts rs bs m
places-fewer ls ts rs bs m n h p = record {
  left = omega (arith, p.left);
  top = omega (arith, p.top);
  right = omega (arith, p.right);
  bottom = omega (arith, p.bottom);
}

-- what holds of the first n triangles holds of fewer
pub boxed-fewer : (table : List ℕ) (held : BoxTable) (m n : ℕ) → m ≤ n → BoxedTable table held n → BoxedTable table held m
boxed-fewer table held m n h p = record {
  rows = omega (arith, p.rows);
  places = omega (arith, p.places);
  oriented = proper-fewer table m n p.oriented h;
  boxes = λ i l. p.boxes i (omega arith);
}

-- a triangle has no common interior point with triangle j of a table where their boxes are separate
pub boxes-disjoint : (t : Triangle) → proper t ≡ true → {b : Box} → b ≡ triangle_box t
    → {table : List ℕ} {held : BoxTable} {m : ℕ} → BoxedTable table held m → (j : ℕ) → j < m
    → T (separate b (box_at held j)) → interiors_meet t (triangle_at table j) ≡ false
boxes-disjoint t o {b} e {table} {held} {m} q j k c =
    separate-disjoint t (triangle_at table j) (rw o tt) (rw (proper-at table m j q.oriented k) tt)
    (subst (λ b. Separate b (triangle_box (triangle_at table j))) e
    (subst (λ d. Separate b d) (q.boxes j k) ((separate-reflects b (box_at held j)).to c)))

-- ---- storing boxes

-- a list keeps its length
pub set-length : (l l' : List ℕ) (i v n : ℕ) → l' ≡ set l i v → length l ≡ n → length l' ≡ n
set-length l l' i v n e h = rw (e, length-set l i v) h

-- a box stored at place i
pub stored : (held : BoxTable) (d : Box) (i : ℕ) → i < length held.lefts → i < length held.tops → i < length held.rights → i < length held.bottoms
    → Stored d i held (record { lefts = set held.lefts i d.left; tops = set held.tops i d.top; rights = set held.rights i d.right; bottoms = set held.bottoms i d.bottom })
stored held d i p q r s = record {
  here = rw (get_or-set_same held.lefts i d.left 0 p, get_or-set_same held.tops i d.top 0 q, get_or-set_same held.rights i d.right 0 r, get_or-set_same held.bottoms i d.bottom 0 s) refl;
  others = λ k n. rw (get_or-set_other held.lefts i k d.left 0 n, get_or-set_other held.tops i k d.top 0 n, get_or-set_other held.rights i k d.right 0 n, get_or-set_other held.bottoms i k d.bottom 0 n) refl;
}

-- before the first box
pub boxes-none : (table : List ℕ) (held : BoxTable) → Boxes table held 0
boxes-none table held k h = absurd (omega arith)

-- one box more
pub boxes-more : (table : List ℕ) (i : ℕ) {before after : BoxTable} → Boxes table before i → Stored (triangle_box (triangle_at table i)) i before after
    → Boxes table after (i + 1)
boxes-more table i b e k h = elim (ℕ_discrete k i) [
  | yes s ↦ rw s e.here
  | no n ↦ e.others k n ∙ b k (omega arith)
]
