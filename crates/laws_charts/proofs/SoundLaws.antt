-- Soundness by the pairs i and j with j < i: the test that two triangles have a common interior point does not depend on their order.
-- Assumes nothing.
use mathlib.Core.Path.{◌≡◌, refl, ◌∙◌, ap}
use mathlib.Core.Bool.{Bool, not, ◌||◌}
use mathlib.Core.List.{List}
use Prim.Native.Nat.{ℕ, ◌≤◌, ◌<◌}
use native.Mathlib.Decide.{dec_le}
use native.Mathlib.Omega.{arith}
use borrow.Author.Tests.{eq-eqb, ne_eqb}
use lib.Dec.{T, eqb}
use Rattle.theory_lists.specs.Lists.{all, up_to}
use Rattle.theory_lists.proofs.Reflects.{Reflects, reflects-iff}
use Rattle.theory_lists.proofs.IndexLaws.{reflects-same, all-below-reflects}
use Rattle.spec_plane.specs.Interior.{interiors_meet}
use Rattle.spec_plane.proofs.InteriorLaws.{interiors_meet-sym}
use Rattle.spec_charts.specs.Table.{triangle_at, table_of, numbered}
use Rattle.spec_charts.specs.Reading.{sound}
use Rattle.laws_charts.proofs.TableLaws.{numbered-at, table_of-length}

-- triangle i has no common interior point with triangle j
abbrev pub triangles_disjoint : List ℕ → ℕ → ℕ → Bool
triangles_disjoint ns i j = not (interiors_meet (triangle_at ns i) (triangle_at ns j))

module _ (ns : List ℕ) (n : ℕ) where
  -- the test of the definition
  abbrev pair_disjoint : ℕ → ℕ → Bool
  pair_disjoint i j = eqb i j || not (interiors_meet (numbered (table_of ns n) i) (numbered (table_of ns n) j))

  -- of two different numbers, by the table's numbers
  pair-disjoint : (i j : ℕ) → i < n → j < n → (i ≡ j → ⊥) → pair_disjoint i j ≡ triangles_disjoint ns i j
  pair-disjoint i j h k d = rw (ne_eqb i j d, numbered-at ns n i h, numbered-at ns n j k) refl

  -- and the other way round
  pair-reversed : (i j : ℕ) → i < n → j < n → (i ≡ j → ⊥) → pair_disjoint i j ≡ triangles_disjoint ns j i
  pair-reversed i j h k d = pair-disjoint i j h k d ∙ ap not (interiors_meet-sym (triangle_at ns i) (triangle_at ns j))

  -- what both decide
  abbrev Below : Type 0
  Below = (i : ℕ) → i < n → (j : ℕ) → j < i → T (triangles_disjoint ns i j)

  -- the pairs with j < i
  below-reflects : Reflects (all (λ i. all (λ j. triangles_disjoint ns i j) (up_to i)) (up_to n)) Below
  below-reflects =
      reflects-iff
      (λ h i l. (all-below-reflects (λ j. triangles_disjoint ns i j) i).to (h i l))
      (λ h i l. (all-below-reflects (λ j. triangles_disjoint ns i j) i).from (h i l))
      (all-below-reflects (λ i. all (λ j. triangles_disjoint ns i j) (up_to i)) n)

  -- all pairs
  pairs-reflects : Reflects (all (λ i. all (λ j. pair_disjoint i j) (up_to n)) (up_to n)) Below
  pairs-reflects =
      reflects-iff
      (λ h i l j k. rw (pair-disjoint i j l (omega arith) (λ e. omega arith)) at ((all-below-reflects (λ j. pair_disjoint i j) n).to (h i l) j (omega arith)))
      (λ h i l. (all-below-reflects (λ j. pair_disjoint i j) n).from (λ j k. go h i j l k (dec_le i j) (dec_le j i)))
      (all-below-reflects (λ i. all (λ j. pair_disjoint i j) (up_to n)) n)
    where
      go : Below → (i j : ℕ) → i < n → j < n → Dec (i ≤ j) → Dec (j ≤ i) → T (pair_disjoint i j)
      go h i j l k (yes u) (yes v) = rw (eq-eqb i j (omega arith)) tt
      go h i j l k (yes u) (no v) = rw (pair-reversed i j l k (λ e. omega arith)) (h j k i (omega arith))
      go h i j l k (no u) v = rw (pair-disjoint i j l k (λ e. omega arith)) (h i l j (omega arith))

  -- soundness asks it of the pairs with j < i only
  pub sound-below : all (λ i. all (λ j. triangles_disjoint ns i j) (up_to i)) (up_to n) ≡ sound (table_of ns n)
  unfolding sound
  sound-below = rw (table_of-length ns n) (reflects-same below-reflects pairs-reflects)
