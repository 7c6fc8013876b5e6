-- The triangles of a table, one after another, until one is on the other side of a side.
-- The idea: triangles that do not have the side in the other direction may be skipped.
-- Assumes nothing.
use mathlib.Core.Path.{◌≡◌, sym, ◌∙◌, ap}
use mathlib.Core.List.{List}
use mathlib.Core.Option.{none, some}
use Prim.Native.Nat.{ℕ, suc, ◌+◌, ◌≤◌, ◌<◌}
use native.Mathlib.Numerals.{add-one}
use native.Mathlib.Omega.{arith}
use lib.ListN.{drop, drop_of_length-le}
use Rattle.spec_plane.specs.declared.Point.{Point}
use Rattle.spec_plane.specs.Triangle.{Triangle, triangle_of, corners, rotated}
use Rattle.spec_charts.specs.Table.{triangle_at, table_of}
use Rattle.spec_charts.specs.Edits.{rotations, neighbour_or, neighbour_from}
use Rattle.laws_charts.proofs.TableLaws.{table_of-length}
use Rattle.edit_rows.proofs.RowLaws.{rows-cons}
use Rattle.edit_rows.proofs.CopyLaws.{triangle-read}
use Rattle.edit_sides.specs.Sharing.{first_sharing}

module _ (t : Triangle) (ns : List ℕ) (n : ℕ) where
  -- no triangle before number j is on the other side of ab of t
  abbrev pub Unshared : ℕ → Type 0
  Unshared j = neighbour_from t 0 (table_of ns n) ≡ neighbour_from t j (drop j (table_of ns n))

  -- all are looked at: there is none
  pub unshared-all : {j : ℕ} → Unshared j → n ≤ j → neighbour_from t 0 (table_of ns n) ≡ none
  unfolding neighbour_from
  unshared-all {j} same h = same ∙ ap (neighbour_from t j) (drop_of_length-le (table_of ns n) {i = j} (omega (arith, table_of-length ns n)))

  module _ {j : ℕ} (same : Unshared j) (h : j < n) {v : List Point} (read : v ≡ corners (triangle_at ns j)) where
    -- triangle j is next, by the array that is read
    unshared-here : neighbour_from t 0 (table_of ns n)
        ≡ neighbour_or j (first_sharing t (rotations (triangle_of v))) (neighbour_from t (suc j) (drop (suc j) (table_of ns n)))
    unfolding neighbour_from
    unshared-here =
        same ∙ ap (neighbour_from t j) (rows-cons ns n j h)
        ∙ ap (λ w. neighbour_or j (first_sharing t (rotations w)) (neighbour_from t (suc j) (drop (suc j) (table_of ns n))))
        (sym (triangle-read (triangle_at ns j) read))

    -- it is on the other side
    pub unshared-found : {x : List Point} (k : ℕ) → first_sharing t (rotations (triangle_of v)) ≡ some (triangle_of (rotated v k)) → x ≡ rotated v k
        → neighbour_from t 0 (table_of ns n) ≡ some (record { number = j; rotation = triangle_of x })
    unfolding neighbour_or
    unshared-found {x} k e turned =
        unshared-here
        ∙ ap (λ o. neighbour_or j o (neighbour_from t (suc j) (drop (suc j) (table_of ns n)))) (e ∙ ap (λ w. some (triangle_of w)) (sym turned))

    -- it is not
    pub unshared-next : first_sharing t (rotations (triangle_of v)) ≡ none → Unshared (j + 1)
    unfolding neighbour_or
    unshared-next e =
        unshared-here ∙ ap (λ o. neighbour_or j o (neighbour_from t (suc j) (drop (suc j) (table_of ns n)))) e
        ∙ ap (λ i. neighbour_from t i (drop i (table_of ns n))) (sym (add-one j))
