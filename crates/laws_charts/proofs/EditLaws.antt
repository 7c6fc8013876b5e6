-- What an accepted split or take-out is: its tests, passed, and the table that it makes.
-- The idea: each test only refuses, so an edit that is done has passed them all.
-- Assumes nothing.
use mathlib.Core.Path.{◌≡◌, refl, sym, ap}
use mathlib.Core.Bool.{Bool, true, false}
use mathlib.Core.List.{List, [], ◌∷◌}
use mathlib.Core.Logic.{◌⊎◌, inl, inr}
use Prim.Native.Nat.{ℕ, ◌+◌, ◌≤◌, ◌<◌}
use native.Mathlib.Omega.{arith}
use borrow.Author.Tests.{lt-ltb, le-ltb}
use lib.Dec.{T, ltb, lt→ltb}
use lib.ListN.{length, set, length-set, length-append}
use Rattle.theory_lists.specs.Lists.{places_from}
use Rattle.theory_lists.proofs.Reflects.{reflects-and₃}
use Rattle.theory_lists.proofs.ListsLaws.{Every, every-cons, every-uncons}
use Rattle.theory_lists.proofs.EveryLaws.{every-nil, every_append}
use Rattle.theory_lists.proofs.Order.{Rising, rising-more, places-rising}
use Rattle.theory_lists.proofs.EditedLists.{every_set, places-pass}
use Rattle.spec_plane.specs.declared.Point.{Point}
use Rattle.spec_plane.specs.Triangle.{Triangle, proper, strictly_inside}
use Rattle.spec_plane.proofs.PointLaws.{same_point-reflects}
use Rattle.spec_charts.specs.Table.{Table, numbered, no_triangle, max_triangles}
use Rattle.spec_charts.specs.declared.Refusal.TheVariants.{NotThreeAround, TableFull}
use Rattle.spec_charts.specs.Refusals.{refused, done, refuse_if}
use Rattle.spec_charts.specs.Edits.{triangle, within_table, split_at, split_row, has_corner, ending_in, closes_round, merge_around, merge_three, take_out_three, take_out_table}
use Rattle.laws_charts.proofs.OutcomeLaws.{refused-done, done-same, refuse_if-done}
use Rattle.laws_charts.proofs.TriangleLaws.{inside-parts}

-- ---- split

-- what passes refusal 10 is the table made
pub within-done : (made : Table) {next : Table} → within_table made ≡ done next → (next ≡ made) × (length next ≤ max_triangles)
unfolding within_table
within-done made e =
    let h = refuse_if-done (ltb max_triangles (length made)) TableFull e in
    let is = sym (done-same h.1) in
    let over : max_triangles < length made → ⊥ = λ l. h.0 (lt→ltb max_triangles (length made) l) in
    (is, omega (arith, ap length is))

-- a table made that is too full, and one that is not
pub within-full : (made : Table) → max_triangles < length made → within_table made ≡ refused TableFull
unfolding within_table refuse_if
within-full made h = rw (lt-ltb max_triangles (length made) h)

pub within-fits : (made : Table) → length made ≤ max_triangles → within_table made ≡ done made
unfolding within_table refuse_if
within-fits made h = rw (le-ltb max_triangles (length made) h)

-- two triangles more
pub split_at-length : (table : Table) (i : ℕ) (t : Triangle) (p : Point) → length (split_at table i t p) ≡ length table + 2
unfolding split_at
split_at-length table i t p = simp (length-append, length-set) refl

-- triangle i split at p
pub record Split (i : ℕ) (p : Point) (table next : Table) : Type 0 where
  pub below : i < length table
  pub inside : T (strictly_inside (numbered table i) p)
  pub few : length next ≤ max_triangles
  pub is : next ≡ split_at table i (numbered table i) p

-- an accepted split of a triangle with p strictly inside is one
pub split_done : {i : ℕ} {p : Point} {table next : Table} → i < length table → T (strictly_inside (numbered table i) p)
    → split_row i (numbered table i) p table ≡ done next → Split i p table next
unfolding split_row
split_done below inside e = let h = within-done _ e in record { below = below; inside = inside; few = h.1; is = h.0 }

module _ {i : ℕ} {p : Point} {table next : Table} (s : Split i p table next) where
  -- its three parts have D > 0
  pub split_parts : T (proper (triangle (numbered table i).a (numbered table i).b p))
      × (T (proper (triangle (numbered table i).b (numbered table i).c p)) × T (proper (triangle (numbered table i).c (numbered table i).a p)))
  split_parts = inside-parts (numbered table i) p s.inside

  -- what the triangles of the table have, and the parts, every triangle of the new table has
  pub split-every : {P : Triangle → Type 0} → Every P table → P (triangle (numbered table i).a (numbered table i).b p)
      → P (triangle (numbered table i).b (numbered table i).c p) → P (triangle (numbered table i).c (numbered table i).a p) → Every P next
  unfolding split_at
  split-every {P} h x y z = rw s.is (every_append (set table i _) (every_set table i h x) (every-cons (y, every-cons (z, every-nil P))))

-- ---- take out

-- with t = (a,b,p): u is (b,c,p) and v is (c,a,p)
pub record Closes (t u v : Triangle) (c : Point) : Type 0 where
  pub ub : u.a ≡ t.b
  pub va : v.b ≡ t.a
  pub uc : u.b ≡ c
  pub vc : v.a ≡ c

-- the test `closes_round` says so
pub closes : (t u v : Triangle) → T (closes_round t u v) → Closes t u v u.b
unfolding closes_round
closes t u v h =
    let g = (reflects-and₃ (same_point-reflects u.a t.b) (same_point-reflects v.b t.a) (same_point-reflects u.b v.a)).to h in
    record { ub = g.0; va = g.1.0; uc = refl; vc = sym g.1.1 }

-- (a,b,c), where (a,b,p) is a rotation of t
abbrev pub merged_triangle : Point → Triangle → Point → Triangle
merged_triangle p t c = triangle (ending_in p t).a (ending_in p t).b c

-- p taken out, from the triangles i, j and k
pub record TakenOut (p : Point) (table next : Table) : Type 0 where
  pub i : ℕ
  pub j : ℕ
  pub k : ℕ
  pub c : Point
  pub ij : i < j
  pub jk : j < k
  pub below : k < length table
  pub corner_i : T (has_corner p (numbered table i))
  pub corner_j : T (has_corner p (numbered table j))
  pub corner_k : T (has_corner p (numbered table k))
  pub closed :
      Closes (ending_in p (numbered table i)) (ending_in p (numbered table j)) (ending_in p (numbered table k)) c
      ⊎ Closes (ending_in p (numbered table i)) (ending_in p (numbered table k)) (ending_in p (numbered table j)) c
  pub is : next ≡ merge_around table i j k (merged_triangle p (numbered table i) c)

-- the third corner of what the three make
record Merged (table next : Table) (i j k : ℕ) (t u v : Triangle) : Type 0 where
  c : Point
  closed : Closes t u v c ⊎ Closes t v u c
  is : next ≡ merge_around table i j k (triangle t.a t.b c)

merge-done : (table next : Table) (i j k : ℕ) (t u v : Triangle) → merge_three table i j k t u v ≡ done next → Merged table next i j k t u v
unfolding merge_three
merge-done table next i j k t u v e = go (closes_round t u v) (closes_round t v u) (closes t u v) (closes t v u) e
  where
    go : (b d : Bool) → (T b → Closes t u v u.b) → (T d → Closes t v u v.b)
        → elim b [
          | true ↦ done (merge_around table i j k (triangle t.a t.b u.b))
          | false ↦ elim d [
            | true ↦ done (merge_around table i j k (triangle t.a t.b v.b))
            | false ↦ refused NotThreeAround
          ]
        ] ≡ done next
        → Merged table next i j k t u v
    go true d f g e = record { c = u.b; closed = inl (f tt); is = sym (done-same e) }
    go false true f g e = record { c = v.b; closed = inr (g tt); is = sym (done-same e) }
    go false false f g e = absurd (refused-done e)

three-done : (p : Point) (table next : Table) (is : List ℕ) → Rising 0 (length table) is → Every (λ i. T (has_corner p (numbered table i))) is
    → take_out_three p table is ≡ done next → TakenOut p table next
unfolding take_out_three
three-done p table next [] r h e = absurd (refused-done e)
three-done p table next (i ∷ []) r h e = absurd (refused-done e)
three-done p table next (i ∷ j ∷ []) r h e = absurd (refused-done e)
three-done p table next (i ∷ j ∷ k ∷ []) (rising-more a b (rising-more ij b' (rising-more jk b'' r))) h e =
    let m = merge-done table next i j k _ _ _ e in
    let h' = every-uncons h in
    let h'' = every-uncons h'.1 in
    record {
      i = i;
      j = j;
      k = k;
      c = m.c;
      ij = ij;
      jk = jk;
      below = b'';
      corner_i = h'.0;
      corner_j = h''.0;
      corner_k = (every-uncons h''.1).0;
      closed = m.closed;
      is = m.is;
    }
three-done p table next (i ∷ j ∷ k ∷ l ∷ is) r h e = absurd (refused-done e)

-- an accepted take-out is one
pub take_out-done : (p : Point) (table next : Table) → take_out_table p table ≡ done next → TakenOut p table next
unfolding take_out_table numbered
take_out-done p table next e =
    three-done p table next (places_from (λ t. has_corner p t) 0 table) (places-rising (λ t. has_corner p t) table)
    (places-pass (λ t. has_corner p t) no_triangle table) e
