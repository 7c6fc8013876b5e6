-- An accepted event leaves a table of document 01: at most 512 triangles, each with D > 0 and of 16-bit numbers. So the plain
-- table is one after any list of events.
-- The idea: the parts of a flip are tested, a point inside makes three with D > 0 and one on a side two with shares of D, three triangles
-- around a point make one with their areas' sum, and no edit makes a coordinate, but for the point of an insert, which a triangle holds.
-- Assumes nothing.
use mathlib.Core.Path.{◌≡◌, refl, subst}
use mathlib.Core.List.{List, [], ◌∷◌}
use mathlib.Core.Logic.{inl, inr}
use Prim.Native.Nat.{ℕ, ◌<◌}
use native.Mathlib.Omega.{arith}
use lib.Dec.{T}
use lib.ListN.{length, set, length-set}
use Rattle.theory_lists.specs.Lists.{all}
use Rattle.theory_lists.proofs.Reflects.{reflects-test}
use Rattle.theory_lists.proofs.ListsLaws.{Every, every-uncons, all-reflects, up_to-to}
use Rattle.theory_lists.proofs.EveryLaws.{every-nil}
use Rattle.theory_lists.proofs.EditedLists.{every_set}
use Rattle.spec_plane.specs.declared.Point.{Point}
use Rattle.spec_plane.specs.Triangle.{Triangle, proper}
use Rattle.spec_plane.proofs.ExtremeLaws.{OnGrid}
use Rattle.spec_charts.specs.Table.{Table, IsTable, numbered}
use Rattle.spec_charts.specs.Refusals.{Outcome, refused, done, and_then, done_or}
use Rattle.spec_charts.specs.Edits.{Event, load, insert, take_out, flip, triangle, rotations, has_corner, ending_in, sixteen_bit_event, proposed, counted, event_on, after_event, after_events, plain_table}
use Rattle.laws_charts.proofs.TriangleLaws.{proper-rotate}
use Rattle.laws_charts.proofs.RotationLaws.{rotations-every, ending_in-rotation}
use Rattle.laws_charts.proofs.LoadTable.{load-table}
use Rattle.laws_charts.proofs.MergeLaws.{taken-sum, merge-length, merge-every}
use Rattle.laws_charts.proofs.GridLaws.{IsTriangle, table-proper, table-triangles, numbered-triangle, triangles-table, held-grid}
use Rattle.laws_charts.proofs.OutcomeLaws.{refused-done}
use Rattle.laws_charts.proofs.CountedLaws.{counted-done}
use Rattle.laws_charts.proofs.EditLaws.{Split, split_parts, split-every, merged_triangle, TakenOut, take_out-done}
use Rattle.laws_charts.proofs.FlipLaws.{Flipped, flip-done}
use Rattle.laws_charts.proofs.SideSplitLaws.{SideSplit, side_split-every, side_split-parts}
use Rattle.laws_charts.proofs.InsertLaws.{Inserted, insert-done}

-- ---- triangles that edits make

turn : (p q r : Point) → IsTriangle (triangle p q r) → IsTriangle (triangle q r p)
unfolding triangle
turn p q r h = record { oriented = rw (proper-rotate p q r) h.oriented; a = h.b; b = h.c; c = h.a }

-- a rotation of a triangle with D > 0 on the grid is one too
rotation : (t : Triangle) → IsTriangle t → Every IsTriangle (rotations t)
rotation t h = rotations-every IsTriangle turn t h

made : (p q r : Point) → T (proper (triangle p q r)) → OnGrid p → OnGrid q → OnGrid r → IsTriangle (triangle p q r)
unfolding triangle
made p q r d a b c = record { oriented = d; a = a; b = b; c = c }

module _ {table : Table} (h : IsTable table) where
  good : Every IsTriangle table
  good = table-triangles h

  at : (i : ℕ) → i < length table → IsTriangle (numbered table i)
  at = numbered-triangle h

  ends : (p : Point) (i : ℕ) → i < length table → T (has_corner p (numbered table i)) → IsTriangle (ending_in p (numbered table i))
  ends p i l c = rotation (numbered table i) (at i l) _ (ending_in-rotation p (numbered table i) c).0

  take_out-table : {next : Table} (p : Point) → TakenOut p table next → IsTable next
  take_out-table p s =
      let ij = s.ij in
      let jk = s.jk in
      let below = s.below in
      let t = ends p s.i (omega arith) s.corner_i in
      let u = ends p s.j (omega arith) s.corner_j in
      let v = ends p s.k below s.corner_k in
      let c : OnGrid s.c = elim s.closed [ inl e ↦ subst OnGrid e.uc u.b | inr e ↦ subst OnGrid e.uc v.b ] in
      let m = made _ _ s.c (taken-sum s (table-proper h)).oriented t.a t.b c in
      let few = h.few in
      let n = merge-length table s.i s.j s.k (merged_triangle p (numbered table s.i) s.c) ij jk below in
      rw s.is (triangles-table (omega arith) (merge-every table s.i s.j s.k _ ij jk below good m))

  flip-table : {next : Table} (i j : ℕ) → Flipped i j table next → IsTable next
  flip-table i j s =
      let t = rotation (numbered table i) (at i s.below_i) s.t s.rotation_i in
      let u = rotation (numbered table j) (at j s.below_j) s.u s.rotation_j in
      let few = h.few in
      rw s.is (triangles-table (simp length-set few)
      (every_set (set table i _) j (every_set table i good (made _ _ _ s.proper_i t.a u.c t.c))
      (made _ _ _ s.proper_j u.c t.b t.c)))

  -- a triangle holds the point of an insert, so it is on the grid
  pub insert-point : {next : Table} (p : Point) → Inserted p table next → OnGrid p
  insert-point p s = held-grid (numbered table s.i) p (at s.i (up_to-to s.taken.member)) (rw s.taken.passes tt)

  insert-table : {next : Table} (p : Point) → Inserted p table next → IsTable next
  insert-table {next} p s = elim s.how [ inl t ↦ split-table t | inr t ↦ side_split-table t ]
    where
      on : OnGrid p
      on = insert-point p s

      split-table : {i : ℕ} → Split i p table next → IsTable next
      split-table {i} t =
          let g = at i t.below in
          let d = split_parts t in
          triangles-table t.few (split-every t good (made _ _ p d.0 g.a g.b on) (made _ _ p d.1.0 g.b g.c on)
          (made _ _ p d.1.1 g.c g.a on))

      side_split-table : {i : ℕ} → SideSplit i p table next → IsTable next
      side_split-table t =
          triangles-table t.few (side_split-every t (table-proper h) good (λ j b r f.
          let g = rotation (numbered table j) (at j b) r f.rotation in
          let d = side_split-parts t (table-proper h) j b f in
          (made _ p _ d.first g.a on g.c, made p _ _ d.second on g.b g.c)))

-- ---- events

-- the table that an event makes, before its entries are counted, is a table
pub proposed-table : (e : Event) (table next : Table) → T (sixteen_bit_event e) → IsTable table → proposed e table ≡ done next → IsTable next
unfolding sixteen_bit_event proposed
proposed-table (load ns) table next w h e = load-table ns next w e
proposed-table (insert p) table next w h e = insert-table h p (insert-done p table next (table-proper h) e)
proposed-table (take_out p) table next w h e = take_out-table h p (take_out-done p table next e)
proposed-table (flip i j) table next w h e = flip-table h i j (flip-done i j table next e)

-- the table that an accepted event leaves is the one proposed
pub event-proposed : (e : Event) (table next : Table) → event_on e table ≡ done next → proposed e table ≡ done next
unfolding event_on and_then
event-proposed e table next h = go (proposed e table) h
  where
    go : (o : Outcome Table) → and_then o (λ t. counted e t) ≡ done next → o ≡ done next
    go (refused r) h = absurd (refused-done h)
    go (done t) h = counted-done e t h

-- an accepted event leaves a table
pub event-table : (e : Event) (table next : Table) → T (sixteen_bit_event e) → IsTable table → event_on e table ≡ done next → IsTable next
event-table e table next w h d = proposed-table e table next w h (event-proposed e table next d)

-- a refused event changes nothing, so any event leaves a table
pub after-event-table : (e : Event) (table : Table) → T (sixteen_bit_event e) → IsTable table → IsTable (after_event e table)
unfolding after_event
after-event-table e table w h = go (event_on e table) (λ next d. event-table e table next w h d)
  where
    go : (o : Outcome Table) → ((next : Table) → o ≡ done next → IsTable next) → IsTable (done_or table o)
    go (refused r) f = h
    go (done next) f = f next refl

-- so does any list of events
pub after-events-table : (es : List Event) (table : Table) → T (all (λ e. sixteen_bit_event e) es) → IsTable table → IsTable (after_events es table)
unfolding after_events
after-events-table [] table w h = h
after-events-table (e ∷ es) table w h =
    let g = every-uncons ((all-reflects (λ e. sixteen_bit_event e) (λ e. reflects-test (sixteen_bit_event e)) (e ∷ es)).to w) in
    after-events-table es (after_event e table)
    ((all-reflects (λ e. sixteen_bit_event e) (λ e. reflects-test (sixteen_bit_event e)) es).from g.1)
    (after-event-table e table g.0 h)

-- the plain table, which starts empty, is a table after any events
pub plain-table : (es : List Event) → T (all (λ e. sixteen_bit_event e) es) → IsTable (plain_table es)
unfolding plain_table
plain-table es w = after-events-table es [] w (triangles-table (omega arith) (every-nil IsTriangle))
