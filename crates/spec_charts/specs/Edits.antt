-- Document 01, "Edits on the plain table", and document 02, wishes 2 and 4: the four events, and what each makes of a table or why it
-- is refused.
-- Assumes nothing.
use Rattle.std.specs.Prelude.{Bool, true, false, cond, not, ◌&&◌, ◌||◌, List, [], ◌∷◌, ◌++◌, ℕ, suc, ◌/◌, ◌%◌, leb, ltb, eqb, length, set}
use Rattle.std.proofs.Math.Option.{Option, none, some}
use Rattle.theory_lists.specs.Lists.{first, places_from, up_to, without}
use Rattle.spec_plane.specs.declared.Point.{Point}
use Rattle.spec_plane.specs.Point.{same_point}
use Rattle.spec_plane.specs.declared.Position.{Position}
use Rattle.spec_plane.specs.declared.Position.TheVariants.{Inside, OnAb, OnBc, OnCa, AtA, AtB, AtC, Outside}
use Rattle.spec_plane.specs.Triangle.{Triangle, proper, holds}
use Rattle.spec_plane.specs.Position.{position, is_inside}
use Rattle.spec_charts.specs.Table.{Table, numbered, table_of, max_triangles, numbers_per_triangle, table_length, sixteen_bit}
use Rattle.spec_charts.specs.Cells.{entries_of, max_entries}
use Rattle.spec_charts.specs.declared.Refusal.TheVariants.{BadLength, FaultyTriangle, NoSuchTriangle, NoHolder, NotThreeAround, NoFlip, TableFull, TooManyEntries, AtCorner}
use Rattle.spec_charts.specs.Refusals.{Outcome, refused, done, refuse_if, and_then, done_or}

-- a triangle by its corners
unfoldable pub triangle : Point → Point → Point → Triangle
triangle a b c = record { a = a; b = b; c = c }

-- a triangle that an edit makes of t, with other corners: all that an edit keeps of the old triangle is said here
abbrev pub made_from : Triangle → Point → Point → Point → Triangle
made_from t a b c = triangle a b c

-- the three rotations of a triangle
unfoldable pub rotations : Triangle → List Triangle
rotations t = made_from t t.a t.b t.c ∷ made_from t t.b t.c t.a ∷ made_from t t.c t.a t.b ∷ []

-- Load

-- the numbers of the triangles with D ≤ 0, ascending
unfoldable pub faulty : Table → List ℕ
faulty table = places_from (λ t. not (proper t)) 0 table

-- refusal 5, with the lowest number of the list, unless it is empty
unfoldable pub refuse_faulty : List ℕ → Table → Outcome Table
refuse_faulty [] table = done table
refuse_faulty (i ∷ is) table = refused (FaultyTriangle i)

-- the triangles of the table given: the numbers, six by six
unfoldable pub given_table : List ℕ → Table
given_table ns = table_of ns (length ns / numbers_per_triangle)

-- "Load: the table given"
unfoldable pub load_table : List ℕ → Outcome Table
load_table ns =
    refuse_if (not (eqb (length ns % numbers_per_triangle) 0) || ltb table_length (length ns)) BadLength
    (refuse_faulty (faulty (given_table ns)) (given_table ns))

-- Take out: removal of a vertex with three triangles around it

-- the triangle has p as a corner
unfoldable pub has_corner : Point → Triangle → Bool
has_corner p t = same_point p t.a || same_point p t.b || same_point p t.c

-- "Rotated to end in p": the rotation of a triangle that ends in its corner p
unfoldable pub ending_in : Point → Triangle → Triangle
ending_in p t =
    elim (same_point p t.c) [
      | true ↦ t
      | false ↦ elim (same_point p t.b) [
        | true ↦ made_from t t.c t.a t.b
        | false ↦ made_from t t.b t.c t.a
      ]
    ]

-- with t = (a,b,p): u is (b,c,p) and v is (c,a,p), for some c
unfoldable pub closes_round : Triangle → Triangle → Triangle → Bool
closes_round t u v = same_point u.a t.b && same_point v.b t.a && same_point u.b v.a

-- the lowest place gets (a,b,c), "the other two go, later ones move down": i is the lowest of i, j, k and k the highest
unfoldable pub merge_around : Table → ℕ → ℕ → ℕ → Triangle → Table
merge_around table i j k t = without j (without k (set table i t))

-- the three triangles i, j, k, rotated to end in p, are t, u, v
unfoldable pub merge_three : Table → ℕ → ℕ → ℕ → Triangle → Triangle → Triangle → Outcome Table
merge_three table i j k t u v =
    elim (closes_round t u v) [
      | true ↦ done (merge_around table i j k (made_from t t.a t.b u.b))
      | false ↦ elim (closes_round t v u) [
        | true ↦ done (merge_around table i j k (made_from t t.a t.b v.b))
        | false ↦ refused NotThreeAround
      ]
    ]

-- "exactly three triangles have p as a corner": their numbers, ascending
unfoldable pub take_out_three : Point → Table → List ℕ → Outcome Table
take_out_three p table [] = refused NotThreeAround
take_out_three p table (i ∷ []) = refused NotThreeAround
take_out_three p table (i ∷ j ∷ []) = refused NotThreeAround
take_out_three p table (i ∷ j ∷ k ∷ []) =
    merge_three table i j k (ending_in p (numbered table i)) (ending_in p (numbered table j)) (ending_in p (numbered table k))
take_out_three p table (i ∷ j ∷ k ∷ l ∷ ls) = refused NotThreeAround

-- "Take out p"
unfoldable pub take_out_table : Point → Table → Outcome Table
take_out_table p table = take_out_three p table (places_from (λ t. has_corner p t) 0 table)

-- Flip: the other diagonal of two triangles that share a side

-- t is (a,b,c) and u is (b,a,d), for some a, b, c, d
unfoldable pub shares_side : Triangle → Triangle → Bool
shares_side t u = same_point t.a u.b && same_point t.b u.a

-- with t = (a,b,c) and u = (b,a,d): "Place i gets (a,d,c), place j (d,b,c), if both have D > 0"
unfoldable pub flip_as : Table → ℕ → ℕ → Triangle → Triangle → Outcome Table
flip_as table i j t u =
    refuse_if (not (proper (made_from t t.a u.c t.c) && proper (made_from u u.c t.b t.c))) NoFlip
    (done (set (set table i (made_from t t.a u.c t.c)) j (made_from u u.c t.b t.c)))

-- the first of the rotations us of triangle j that shares the side ab of t, a rotation of triangle i
unfoldable pub flip_with : Table → ℕ → ℕ → Triangle → Option Triangle → Outcome Table → Outcome Table
flip_with table i j t none other = other
flip_with table i j t (some u) other = flip_as table i j t u

-- the first of the rotations ts of triangle i that shares its side ab with a rotation of triangle j; there is at most one
unfoldable pub flip_among : Table → ℕ → ℕ → List Triangle → List Triangle → Outcome Table
flip_among table i j us [] = refused NoFlip
flip_among table i j us (t ∷ ts) =
    flip_with table i j t (first (λ u. shares_side t u) us) (flip_among table i j us ts)

-- "Flip i, j"
unfoldable pub flip_table : ℕ → ℕ → Table → Outcome Table
flip_table i j table =
    refuse_if (leb (length table) i || leb (length table) j) NoSuchTriangle
    (flip_among table i j (rotations (numbered table j)) (rotations (numbered table i)))

-- Insert: one call to add a point (document 02, wish 4), by a split or a side split of the triangle taken

-- refusal 10: "Table full counts the triangles really added", so it is the table made that has over 512
unfoldable pub within_table : Table → Outcome Table
within_table next = refuse_if (ltb max_triangles (length next)) TableFull (done next)

-- Split: insertion of a vertex into a triangle

-- "(a,b,c) at t becomes (a,b,p); (b,c,p) and (c,a,p) are appended in that order": t is triangle i
unfoldable pub split_at : Table → ℕ → Triangle → Point → Table
split_at table i t p =
    set table i (made_from t t.a t.b p) ++ (made_from t t.b t.c p ∷ made_from t t.c t.a p ∷ [])

-- the split of triangle i, which is t and has p strictly inside
unfoldable pub split_row : ℕ → Triangle → Point → Table → Outcome Table
split_row i t p table = within_table (split_at table i t p)

-- Side split: insertion of a vertex on a side (document 02, wish 2)

-- "Rotate t to (a,b,c) with p on ab", by where p lies: there is no such rotation where p is on no side, or at an end of one
unfoldable pub side_first : Position → Triangle → Option Triangle
side_first Inside t = none
side_first OnAb t = some (made_from t t.a t.b t.c)
side_first OnBc t = some (made_from t t.b t.c t.a)
side_first OnCa t = some (made_from t t.c t.a t.b)
side_first AtA t = none
side_first AtB t = none
side_first AtC t = none
side_first Outside t = none

-- a triangle on the other side of ab: its number, and its rotation (b,a,d)
pub record Neighbour : Type 0 where
  pub number : ℕ
  pub rotation : Triangle

-- triangle k, where it has such a rotation, else what the triangles after it give
unfoldable pub neighbour_or : ℕ → Option Triangle → Option Neighbour → Option Neighbour
neighbour_or k none later = later
neighbour_or k (some u) later = some (record { number = k; rotation = u })

-- "If other triangles rotate to (b,a,d), the lowest numbered": the triangles are numbered from k on, and t is (a,b,c). It is never t
-- itself, as t has D > 0 (`neighbour-other` of laws_charts)
unfoldable pub neighbour_from : Triangle → ℕ → Table → Option Neighbour
neighbour_from t k [] = none
neighbour_from t k (u ∷ us) = neighbour_or k (first (λ r. shares_side t r) (rotations u)) (neighbour_from t (suc k) us)

-- "t gets (a,p,c) and (p,b,c) is appended", where t is triangle i. Of (b,a,d) the same makes "(b,p,d) and (p,a,d) is appended next"
unfoldable pub side_split_at : Table → ℕ → Triangle → Point → Table
side_split_at table i t p = set table i (made_from t t.a p t.c) ++ (made_from t p t.b t.c ∷ [])

-- the table with t split at p, and with the triangle on the other side of ab split too, where there is one
unfoldable pub side_split_both : Table → ℕ → Triangle → Point → Option Neighbour → Table
side_split_both table i t p none = side_split_at table i t p
side_split_both table i t p (some u) = side_split_at (side_split_at table i t p) u.number u.rotation p

-- the side split of triangle i, of which t is the rotation (a,b,c) with p on ab
unfoldable pub side_split_row : ℕ → Triangle → Point → Table → Outcome Table
side_split_row i t p table = within_table (side_split_both table i t p (neighbour_from t 0 table))

-- The triangle taken

-- "The lowest numbered triangle that holds p"
unfoldable pub lowest_holder : Point → Table → Option ℕ
lowest_holder p table = first (λ i. holds (numbered table i) p) (up_to (length table))

-- "on a side, the side split"; else refusal 14, "p is a corner of the triangle taken": it holds p, and p is neither inside nor on a side
unfoldable pub insert_on_side : ℕ → Option Triangle → Point → Table → Outcome Table
insert_on_side i none p table = refused AtCorner
insert_on_side i (some t) p table = side_split_row i t p table

-- "inside it, the old split is done; on a side, the side split": triangle i is t, and p lies at w by it
unfoldable pub insert_in : ℕ → Triangle → Position → Point → Table → Outcome Table
insert_in i t w p table = cond (is_inside w) (split_row i t p table) (insert_on_side i (side_first w t) p table)

-- refusal 7: "no triangle of the table holds p"; else the triangle taken is split
unfoldable pub insert_taken : Option ℕ → Point → Table → Outcome Table
insert_taken none p table = refused NoHolder
insert_taken (some i) p table = insert_in i (numbered table i) (position (numbered table i) p) p table

-- "insert p"
unfoldable pub insert_table : Point → Table → Outcome Table
insert_table p table = insert_taken (lowest_holder p table) p table

-- Events

-- a load with the numbers given, an insert of p, a take-out of p, a flip of i and j
pub data Event : Type 0 where
  load : List ℕ → Event
  insert : Point → Event
  take_out : Point → Event
  flip : ℕ → ℕ → Event

-- the numbers of a load are 16-bit. Of the other events no number needs a range: a triangle holds the point that is inserted, and the
-- rest only names triangles and corners
unfoldable pub sixteen_bit_event : Event → Bool
sixteen_bit_event (load ns) = sixteen_bit ns
sixteen_bit_event (insert p) = true
sixteen_bit_event (take_out p) = true
sixteen_bit_event (flip i j) = true

-- the table that an event would make of the plain table, before its entries are counted
unfoldable pub proposed : Event → Table → Outcome Table
proposed (load ns) table = load_table ns
proposed (insert p) table = insert_table p table
proposed (take_out p) table = take_out_table p table
proposed (flip i j) table = flip_table i j table

-- refusal 11: "the new table has over 16,384 entries", where it has n
unfoldable pub limited : ℕ → Table → Outcome Table
limited n table = refuse_if (ltb max_entries n) TooManyEntries (done table)

-- the new table, unless its entries are too many
unfoldable pub within_limit : Table → Outcome Table
within_limit table = limited (length (entries_of table)) table

-- refusal 11, by event: which events' new tables have their entries counted
unfoldable pub counted : Event → Table → Outcome Table
counted (load ns) table = within_limit table
counted (insert p) table = within_limit table
counted (take_out p) table = within_limit table
counted (flip i j) table = within_limit table

-- what an event comes to on a plain table: refused with a number from 4 up, or the new plain table
unfoldable pub event_on : Event → Table → Outcome Table
event_on e table = and_then (proposed e table) (λ t. counted e t)

-- "each event below changes it; a refused event changes nothing"
unfoldable pub after_event : Event → Table → Table
after_event e table = done_or table (event_on e table)

-- the plain table after a list of events
unfoldable pub after_events : List Event → Table → Table
after_events [] table = table
after_events (e ∷ es) table = after_events es (after_event e table)

-- "The plain table starts empty"
unfoldable pub plain_table : List Event → Table
plain_table es = after_events es []
