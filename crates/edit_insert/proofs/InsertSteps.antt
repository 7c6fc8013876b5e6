-- The triangles of a table, one after another, until one holds the point; and what an insert into it comes to.
-- Assumes nothing.
use mathlib.Core.Path.{◌≡◌, ◌∙◌, ap}
use mathlib.Core.Bool.{true, false}
use mathlib.Core.List.{List}
use mathlib.Core.Option.{none, some}
use Prim.Native.Nat.{ℕ, ◌+◌, ◌≤◌, ◌<◌}
use native.Mathlib.Decide.{dec_le}
use native.Mathlib.Omega.{arith}
use Rattle.spec_plane.specs.declared.Point.{Point}
use Rattle.spec_plane.specs.declared.Position.{Position}
use Rattle.spec_plane.specs.Triangle.{Triangle, holds}
use Rattle.spec_plane.specs.Position.{position, is_inside}
use Rattle.spec_charts.specs.Table.{Table, triangle_at, table_of}
use Rattle.spec_charts.specs.declared.Refusal.TheVariants.{NoHolder, AtCorner}
use Rattle.spec_charts.specs.Refusals.{refused}
use Rattle.spec_charts.specs.Edits.{split_row, side_first, side_split_row, lowest_holder, insert_on_side, insert_in, insert_taken, insert_table}
use Rattle.laws_charts.proofs.TableLaws.{table_of-length, numbered-at}
use Rattle.laws_charts.proofs.InsertLaws.{holder-is, holder-none, holder-below}

module _ (ns : List ℕ) (n : ℕ) (p : Point) where
  -- no triangle before number j holds p
  abbrev pub Unheld : ℕ → Type 0
  Unheld j = (i : ℕ) → i < j → holds (triangle_at ns i) p ≡ false

  -- triangle j does not hold it either
  pub unheld-next : {j : ℕ} → Unheld j → holds (triangle_at ns j) p ≡ false → Unheld (j + 1)
  unheld-next {j} before here i b = elim (dec_le j i) [
    | yes l ↦ let e : i ≡ j = omega arith in rw e here
    | no l ↦ before i (omega arith)
  ]

  -- triangle j holds it: it is taken
  pub unheld-found : {j : ℕ} → Unheld j → j < n → holds (triangle_at ns j) p ≡ true → lowest_holder p (table_of ns n) ≡ some j
  unheld-found {j} before b here =
      holder-is p (table_of ns n) j (omega (arith, table_of-length ns n)) (rw (numbered-at ns n j b) here)
      (λ i l. rw (numbered-at ns n i (omega arith)) (before i l))

  -- all are looked at: none is taken
  pub unheld-all : {j : ℕ} → Unheld j → n ≤ j → lowest_holder p (table_of ns n) ≡ none
  unheld-all before l =
      holder-none p (table_of ns n) (λ i b. let m : i < n = omega (arith, table_of-length ns n) in rw (numbered-at ns n i m) (before i (omega arith)))

  -- refusal 7
  pub insert-nobody : lowest_holder p (table_of ns n) ≡ none → insert_table p (table_of ns n) ≡ refused NoHolder
  unfolding insert_table insert_taken
  insert-nobody e = ap (λ o. insert_taken o p (table_of ns n)) e

  module _ {i : ℕ} (e : lowest_holder p (table_of ns n) ≡ some i) where
    -- the triangle taken is one of the table
    pub taken-below : i < n
    taken-below = omega (arith, holder-below p (table_of ns n) e, table_of-length ns n)

    -- what is left to do
    pub insert-taken : insert_table p (table_of ns n) ≡ insert_in i (triangle_at ns i) (position (triangle_at ns i) p) p (table_of ns n)
    unfolding insert_table insert_taken
    insert-taken =
        ap (λ o. insert_taken o p (table_of ns n)) e
        ∙ ap (λ t. insert_in i t (position t p) p (table_of ns n)) (numbered-at ns n i taken-below)

-- ---- into the triangle taken, by where the point lies

module _ (i : ℕ) (t : Triangle) (q : Position) (p : Point) (table : Table) where
  -- inside
  pub into-inside : is_inside q ≡ true → insert_in i t q p table ≡ split_row i t p table
  unfolding insert_in
  into-inside e = rw e

  beside : is_inside q ≡ false → insert_in i t q p table ≡ insert_on_side i (side_first q t) p table
  unfolding insert_in
  beside e = rw e

  module _ (e : is_inside q ≡ false) where
    -- refusal 14
    pub into-corner : side_first q t ≡ none → insert_in i t q p table ≡ refused AtCorner
    unfolding insert_on_side
    into-corner none-on = beside e ∙ ap (λ o. insert_on_side i o p table) none-on

    -- on a side
    pub into-side : {u : Triangle} → side_first q t ≡ some u → insert_in i t q p table ≡ side_split_row i u p table
    unfolding insert_on_side
    into-side on = beside e ∙ ap (λ o. insert_on_side i o p table) on
