-- What an accepted side split is: the rotation with p on its side ab, the neighbour on that side, and the table that they make.
-- The idea: p is on the side from b to a of the neighbour too, so one law of parts serves for both triangles.
-- Assumes nothing.
use mathlib.Core.Path.{◌≡◌, refl, sym, ◌∙◌, ap, subst}
use mathlib.Core.List.{[], ◌∷◌}
use mathlib.Core.Option.{Option, none, some}
use Prim.Native.Nat.{ℕ, ◌+◌, ◌≤◌, ◌<◌}
use native.Mathlib.Omega.{arith}
use lib.Dec.{T}
use lib.ListN.{length, set, length-set, length-append, get_or-append}
use lib.Seq.{get_or-set_other}
use Rattle.theory_lists.specs.Lists.{sum_of}
use Rattle.theory_lists.proofs.ListsLaws.{Every, every-cons}
use Rattle.theory_lists.proofs.EveryLaws.{every-nil, every_append}
use Rattle.theory_lists.proofs.SumLaws.{sum-append}
use Rattle.theory_lists.proofs.EditedLists.{every_set, sum_of-set}
use Rattle.spec_plane.specs.declared.Point.{Point}
use Rattle.spec_plane.specs.Triangle.{Triangle, proper, doubled_area}
use Rattle.spec_plane.specs.Position.{OnSide}
use Rattle.spec_charts.specs.Table.{Table, numbered, no_triangle, max_triangles}
use Rattle.spec_charts.specs.Refusals.{done}
use Rattle.spec_charts.specs.Reading.{total_area}
use Rattle.spec_charts.specs.Edits.{triangle, Neighbour, neighbour_from, side_split_at, side_split_both, side_split_row}
use Rattle.laws_charts.proofs.TableLaws.{numbered-proper}
use Rattle.laws_charts.proofs.RotationLaws.{rotations-area, rotations-proper}
use Rattle.laws_charts.proofs.EditLaws.{within-done}
use Rattle.laws_charts.proofs.SideLaws.{side-reversed, SideParts, side-parts}
use Rattle.laws_charts.proofs.SideFirstLaws.{SideFirst}
use Rattle.laws_charts.proofs.NeighbourLaws.{NeighbourOf, neighbour-found, neighbour-other}

-- triangle i split on a side at p, where t is its rotation with p on ab
pub record SideSplit (i : ℕ) (p : Point) (table next : Table) : Type 0 where
  pub below : i < length table
  pub t : Triangle
  pub first : SideFirst (numbered table i) p t
  pub few : length next ≤ max_triangles
  pub is : next ≡ side_split_both table i t p (neighbour_from t 0 table)

-- an accepted side split of a triangle with p on a side is one
pub side_split-done : {i : ℕ} {p : Point} {table next : Table} → i < length table → {t : Triangle} → SideFirst (numbered table i) p t
    → side_split_row i t p table ≡ done next → SideSplit i p table next
unfolding side_split_row
side_split-done below {t} first e = let h = within-done _ e in record { below = below; t = t; first = first; few = h.1; is = h.0 }

-- ---- the table that a side split makes

-- one triangle more
pub side_split_at-length : (table : Table) (i : ℕ) (t : Triangle) (p : Point) → length (side_split_at table i t p) ≡ length table + 1
unfolding side_split_at
side_split_at-length table i t p = simp (length-append, length-set) refl

module _ (table : Table) (i : ℕ) (t : Triangle) (p : Point) where
  -- each triangle is one of before, or a part
  at_every : {P : Triangle → Type 0} → Every P table → P (triangle t.a p t.c) → P (triangle p t.b t.c) → Every P (side_split_at table i t p)
  unfolding side_split_at
  at_every {P} h f s = every_append (set table i _) (every_set table i h f) (every-cons (s, every-nil P))

  -- another triangle stays
  at_other : (j : ℕ) → j < length table → (j ≡ i → ⊥) → numbered (side_split_at table i t p) j ≡ numbered table j
  unfolding side_split_at numbered
  at_other j b other =
      get_or-append (set table i (triangle t.a p t.c)) _ no_triangle j (omega (arith, length-set table i (triangle t.a p t.c)))
      ∙ get_or-set_other table i j _ no_triangle other

  -- the sum of the areas is kept where t has the area of triangle i
  at-area : i < length table → doubled_area t ≡ doubled_area (numbered table i) → SideParts t p → total_area (side_split_at table i t p) ≡ total_area table
  unfolding total_area side_split_at sum_of numbered
  at-area l same parts =
      let x = triangle t.a p t.c in
      let y = triangle p t.b t.c in
      omega (
        arith,
        sum-append (λ t. doubled_area t) (set table i x) (y ∷ []),
        sum_of-set (λ t. doubled_area t) table i x no_triangle l,
        parts.area,
      )

module _ {i : ℕ} {p : Point} {table next : Table} (s : SideSplit i p table next) (good : Every (λ t. T (proper t)) table) where
  -- the neighbour, of which p is on the side ab too
  neighbour-first : {u : Neighbour} → NeighbourOf s.t table u → SideFirst (numbered table u.number) p u.rotation
  neighbour-first {u} n =
      let on = subst (λ q. OnSide q u.rotation.b p) n.ba (subst (λ q. OnSide s.t.b q p) n.ab (side-reversed s.first.on)) in
      record { rotation = n.rotation; on = on }

  -- the two parts of triangle j, in its rotation r
  pub side_split-parts : (j : ℕ) → j < length table → {r : Triangle} → SideFirst (numbered table j) p r → SideParts r p
  side_split-parts j b {r} f = side-parts r p (rotations-proper (numbered table j) (numbered-proper table good j b) r f.rotation) f.on

  -- what the triangles of the table have, and the parts that p makes of them, every triangle of the new table has
  pub side_split-every : {P : Triangle → Type 0} → Every P table
      → ((j : ℕ) → j < length table → (r : Triangle) → SideFirst (numbered table j) p r → P (triangle r.a p r.c) × P (triangle p r.b r.c))
      → Every P next
  unfolding side_split_both
  side_split-every {P} h parts = subst (Every P) (sym s.is) (go (neighbour_from s.t 0 table) refl)
    where
      here : Every P (side_split_at table i s.t p)
      here = let f = parts i s.below s.t s.first in at_every table i s.t p h f.0 f.1

      go : (o : Option Neighbour) → neighbour_from s.t 0 table ≡ o → Every P (side_split_both table i s.t p o)
      go none e = here
      go (some u) e =
          let n = neighbour-found s.t table e in
          let f = parts u.number n.below u.rotation (neighbour-first n) in
          at_every (side_split_at table i s.t p) u.number u.rotation p here f.0 f.1

  -- every triangle of the new table has D > 0
  pub side_split-proper : Every (λ t. T (proper t)) next
  side_split-proper = side_split-every good (λ j b r f. let q = side_split-parts j b f in (q.first, q.second))

  -- "Doubled area is kept here too"
  pub side_split-kept : total_area next ≡ total_area table
  unfolding side_split_both
  side_split-kept = ap total_area s.is ∙ go (neighbour_from s.t 0 table) refl
    where
      half : Table
      half = side_split_at table i s.t p

      here : total_area half ≡ total_area table
      here =
          at-area table i s.t p s.below (rotations-area (numbered table i) s.t s.first.rotation) (side_split-parts i s.below s.first)

      go : (o : Option Neighbour) → neighbour_from s.t 0 table ≡ o → total_area (side_split_both table i s.t p o) ≡ total_area table
      go none e = here
      go (some u) e =
          let n = neighbour-found s.t table e in
          let j = u.number in
          let other = neighbour-other i (numbered-proper table good i s.below) s.first.rotation n in
          let same : doubled_area u.rotation ≡ doubled_area (numbered half j) =
          rotations-area (numbered table j) u.rotation n.rotation ∙ ap (λ t. doubled_area t) (sym (at_other table i s.t p j n.below other)) in
          at-area half j u.rotation p (omega (arith, n.below, side_split_at-length table i s.t p)) same (side_split-parts j n.below (neighbour-first n)) ∙ here
