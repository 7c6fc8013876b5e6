-- What an insert comes to, by the triangle taken: the lowest numbered that holds the point.
-- The idea: a triangle that holds a point has it inside, on a side or at a corner, and each of the three has its own answer.
-- Assumes nothing.
use mathlib.Core.Path.{◌≡◌, refl, sym, ◌∙◌, subst}
use mathlib.Core.Bool.{Bool, true, false, true≢false, cond}
use mathlib.Core.Option.{Option, none, some}
use mathlib.Core.Logic.{◌⊎◌, inl, inr}
use Prim.Native.Nat.{ℕ, ◌≤◌, ◌<◌}
use native.Mathlib.Decide.{dec_le}
use native.Mathlib.Omega.{arith}
use lib.Dec.{T}
use lib.ListN.{length}
use Rattle.theory_lists.specs.Lists.{up_to}
use Rattle.theory_lists.proofs.ListsLaws.{Every, up_to-to, up_to-from}
use Rattle.theory_lists.proofs.OrderLaws.{up_to-ordered}
use Rattle.theory_lists.proofs.LowestLaws.{LowestAt, Lowest, lowest-found, lowest-nowhere, lowest-is, lowest-none, first-lowest}
use Rattle.spec_plane.specs.declared.Point.{Point}
use Rattle.spec_plane.specs.Triangle.{Triangle, proper, holds, strictly_inside}
use Rattle.spec_plane.specs.Position.{position, is_inside}
use Rattle.spec_plane.proofs.PositionLaws.{position-inside}
use Rattle.spec_charts.specs.Table.{Table, numbered}
use Rattle.spec_charts.specs.declared.Refusal.TheVariants.{NoHolder, AtCorner}
use Rattle.spec_charts.specs.Refusals.{Outcome, refused, done}
use Rattle.spec_charts.specs.Edits.{has_corner, split_row, side_first, side_split_row, lowest_holder, insert_on_side, insert_in, insert_taken, insert_table}
use Rattle.laws_charts.proofs.OutcomeLaws.{refused-done}
use Rattle.laws_charts.proofs.TableLaws.{numbered-proper}
use Rattle.laws_charts.proofs.EditLaws.{Split, split_done}
use Rattle.laws_charts.proofs.SideFirstLaws.{SideFirst, side-found, side-missed}
use Rattle.laws_charts.proofs.SideSplitLaws.{SideSplit, side_split-done}

module _ (p : Point) (table : Table) where
  -- triangle i of the table holds p
  abbrev pub held_by : ℕ → Bool
  held_by i = holds (numbered table i) p

  -- i is the lowest numbered triangle of the table that holds p
  abbrev pub Taken : ℕ → Type 0
  Taken i = LowestAt held_by (up_to (length table)) i

  -- what the search finds is it, and where it finds none no triangle holds p
  pub lowest-holder : Lowest held_by (up_to (length table)) (lowest_holder p table)
  unfolding lowest_holder
  lowest-holder = first-lowest held_by (up_to-ordered (length table))

  -- a triangle that holds p is the one found where none before it does
  pub holder-is : (i : ℕ) → i < length table → held_by i ≡ true → ((j : ℕ) → j < i → held_by j ≡ false) → lowest_holder p table ≡ some i
  holder-is i b h before = lowest-is held_by lowest-holder (record { member = up_to-from b; passes = h; lowest = λ j m g. lowest j g })
    where
      lowest : (j : ℕ) → held_by j ≡ true → i ≤ j
      lowest j g = elim (dec_le i j) [ yes l ↦ l | no n ↦ absurd (true≢false (sym g ∙ before j (omega arith))) ]

  -- what is found is a triangle of the table
  pub holder-below : {i : ℕ} → lowest_holder p table ≡ some i → i < length table
  holder-below e = up_to-to (lowest-found held_by (subst (Lowest held_by (up_to (length table))) e lowest-holder)).member

  -- and none is found where none does
  pub holder-none : ((j : ℕ) → j < length table → held_by j ≡ false) → lowest_holder p table ≡ none
  holder-none n = lowest-none held_by lowest-holder (λ j m. n j (up_to-to m))

-- what an insert of p comes to, and why: 7, 14, the split or the side split of the triangle taken
pub data InsertOf (p : Point) (table : Table) : Outcome Table → Type 0 where
  held-by-none : ((i : ℕ) → i < length table → holds (numbered table i) p ≡ false) → InsertOf p table (refused NoHolder)
  at-corner : (i : ℕ) → Taken p table i → T (has_corner p (numbered table i)) → InsertOf p table (refused AtCorner)
  inside : (i : ℕ) → Taken p table i → T (strictly_inside (numbered table i) p) → InsertOf p table (split_row i (numbered table i) p table)
  on-side : (i : ℕ) (t : Triangle) → Taken p table i → SideFirst (numbered table i) p t → InsertOf p table (side_split_row i t p table)

module _ (p : Point) (table : Table) (good : Every (λ t. T (proper t)) table) where
  module _ (i : ℕ) (k : Taken p table i) where
    -- the triangle taken
    abbrev t : Triangle
    t = numbered table i

    t-proper : T (proper t)
    t-proper = numbered-proper table good i (up_to-to k.member)

    -- not inside: it has p on a side or at a corner
    not-inside : is_inside (position t p) ≡ false → (o : Option Triangle) → side_first (position t p) t ≡ o → InsertOf p table (insert_on_side i o p table)
    unfolding insert_on_side
    not-inside e none f = at-corner i k (side-missed t p t-proper (rw k.passes tt) e f)
    not-inside e (some r) f = on-side i r k (side-found t p t-proper f)

    in_taken : InsertOf p table (insert_in i t (position t p) p table)
    unfolding insert_in
    in_taken = go (is_inside (position t p)) refl
      where
        go : (b : Bool) → is_inside (position t p) ≡ b
            → InsertOf p table (cond b (split_row i t p table) (insert_on_side i (side_first (position t p) t) p table))
        go true e = inside i k (subst T (sym e ∙ position-inside t p) tt)
        go false e = not-inside e (side_first (position t p) t) refl

  -- an insert comes to one of the four
  pub insert-is : InsertOf p table (insert_table p table)
  unfolding insert_table insert_taken
  insert-is = go (lowest_holder p table) (lowest-holder p table)
    where
      go : (o : Option ℕ) → Lowest (held_by p table) (up_to (length table)) o → InsertOf p table (insert_taken o p table)
      go none l = held-by-none (λ i b. lowest-nowhere (held_by p table) l i (up_to-from b))
      go (some i) l = in_taken i (lowest-found (held_by p table) l)

-- p inserted: triangle i is the one taken, and it is split, inside or on a side
pub record Inserted (p : Point) (table next : Table) : Type 0 where
  pub i : ℕ
  pub taken : Taken p table i
  pub how : Split i p table next ⊎ SideSplit i p table next

-- an accepted insert is one
pub insert-done : (p : Point) (table next : Table) → Every (λ t. T (proper t)) table → insert_table p table ≡ done next → Inserted p table next
insert-done p table next good e = go (insert-is p table good) e
  where
    go : {o : Outcome Table} → InsertOf p table o → o ≡ done next → Inserted p table next
    go (held-by-none n) e = absurd (refused-done e)
    go (at-corner i k c) e = absurd (refused-done e)
    go (inside i k s) e = record { i = i; taken = k; how = inl (split_done (up_to-to k.member) s e) }
    go (on-side i t k f) e = record { i = i; taken = k; how = inr (side_split-done (up_to-to k.member) f e) }
