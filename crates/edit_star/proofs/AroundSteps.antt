-- The triangles of a table around a point, one after another: a loop over the rows finds the next of them.
-- The idea: rows that do not have the corner may be skipped.
-- Assumes nothing.
use mathlib.Core.Path.{◌≡◌, refl, sym, ◌∙◌, ap}
use mathlib.Core.Bool.{true, false}
use mathlib.Core.List.{List, [], ◌∷◌}
use Prim.Native.Nat.{ℕ, suc, ◌+◌, ◌≤◌, ◌<◌}
use native.Mathlib.Numerals.{add-one}
use native.Mathlib.Omega.{arith}
use lib.ListN.{drop, drop_of_length-le}
use Rattle.theory_lists.specs.Lists.{places_from}
use Rattle.spec_plane.specs.declared.Point.{Point}
use Rattle.spec_plane.specs.Triangle.{Triangle}
use Rattle.spec_charts.specs.Table.{triangle_at, table_of}
use Rattle.spec_charts.specs.Edits.{has_corner}
use Rattle.laws_charts.proofs.TableLaws.{table_of-length}
use Rattle.edit_rows.proofs.RowLaws.{rows-cons}
use Rattle.edit_star.specs.Star.{around_from, FirstAround}

module _ (p : Point) where
  -- the first triangle has the corner
  cons-hit : (k : ℕ) (x : Triangle) (l : List Triangle) → has_corner p x ≡ true
      → places_from (λ t. has_corner p t) k (x ∷ l) ≡ k ∷ places_from (λ t. has_corner p t) (suc k) l
  unfolding places_from
  cons-hit k x l e = rw (e, places_from)

  -- the first triangle does not have it
  cons-miss : (k : ℕ) (x : Triangle) (l : List Triangle) → has_corner p x ≡ false
      → places_from (λ t. has_corner p t) k (x ∷ l) ≡ places_from (λ t. has_corner p t) (suc k) l
  unfolding places_from
  cons-miss k x l e = rw (e, places_from)

  module _ (ns : List ℕ) (n : ℕ) where
    -- from number `first` on, no triangle before number i has the corner
    pub record RowsSkipped (first i : ℕ) : Type 0 where
      pub same : around_from p (table_of ns n) first ≡ around_from p (table_of ns n) i

    -- triangle i has it
    around-hit : (i : ℕ) → i < n → has_corner p (triangle_at ns i) ≡ true
        → around_from p (table_of ns n) i ≡ i ∷ around_from p (table_of ns n) (i + 1)
    around-hit i h e =
        ap (places_from (λ t. has_corner p t) i) (rows-cons ns n i h) ∙ cons-hit i (triangle_at ns i) (drop (suc i) (table_of ns n)) e
        ∙ ap (λ k. i ∷ around_from p (table_of ns n) k) (sym (add-one i))

    -- triangle i does not have it
    around-miss : (i : ℕ) → i < n → has_corner p (triangle_at ns i) ≡ false
        → around_from p (table_of ns n) i ≡ around_from p (table_of ns n) (i + 1)
    around-miss i h e =
        ap (places_from (λ t. has_corner p t) i) (rows-cons ns n i h) ∙ cons-miss i (triangle_at ns i) (drop (suc i) (table_of ns n)) e
        ∙ ap (around_from p (table_of ns n)) (sym (add-one i))

    -- past the rows there is none
    around-end : (i : ℕ) → n ≤ i → around_from p (table_of ns n) i ≡ []
    unfolding places_from
    around-end i h =
        ap (places_from (λ t. has_corner p t) i) (drop_of_length-le (table_of ns n) {i = i} (omega (arith, table_of-length ns n)))

    -- none is skipped yet
    pub skipped-start : (first : ℕ) → RowsSkipped first first
    skipped-start first = record { same = refl }

    module _ {first i : ℕ} (s : RowsSkipped first i) where
      -- triangle i is skipped too
      pub skipped-next : i < n → has_corner p (triangle_at ns i) ≡ false → RowsSkipped first (i + 1)
      skipped-next h e = record { same = s.same ∙ around-miss i h e }

      -- triangle i is the next around p
      pub skipped-found : first ≤ i → i < n → has_corner p (triangle_at ns i) ≡ true → FirstAround p (table_of ns n) n first i
      skipped-found low h e = record { low = low; below = h; found = s.same ∙ around-hit i h e }

      -- all are skipped: there is none
      pub skipped-all : n ≤ i → around_from p (table_of ns n) first ≡ []
      skipped-all h = s.same ∙ around-end i h
