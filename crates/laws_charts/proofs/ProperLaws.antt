-- D > 0 of the triangles of a list of numbers, by their numbers.
-- Assumes nothing.
use mathlib.Core.Path.{◌≡◌, sym, ◌∙◌}
use mathlib.Core.Bool.{true}
use mathlib.Core.List.{List}
use Prim.Native.Nat.{ℕ, ◌≤◌, ◌<◌}
use Rattle.theory_lists.specs.Lists.{all, up_to}
use Rattle.theory_lists.proofs.Reflects.{test-true}
use Rattle.theory_lists.proofs.IndexLaws.{all_map, all-below-at, all-below-fewer}
use Rattle.spec_plane.specs.Triangle.{proper}
use Rattle.spec_charts.specs.Table.{triangle_at, table_of}

-- a table's triangles have D > 0 where each number's does
all-proper : (ns : List ℕ) (n : ℕ) → all (λ t. proper t) (table_of ns n) ≡ all (λ k. proper (triangle_at ns k)) (up_to n)
unfolding table_of
all-proper ns n = all_map (λ t. proper t) (λ k. triangle_at ns k) (up_to n)

-- then each of them has it
pub proper-at : (ns : List ℕ) (n i : ℕ) → all (λ t. proper t) (table_of ns n) ≡ true → i < n → proper (triangle_at ns i) ≡ true
proper-at ns n i h l = test-true (all-below-at (λ k. proper (triangle_at ns k)) (sym (all-proper ns n) ∙ h) l)

-- and so have all of a shorter table
pub proper-fewer : (ns : List ℕ) (m n : ℕ) → all (λ t. proper t) (table_of ns n) ≡ true → m ≤ n → all (λ t. proper t) (table_of ns m) ≡ true
proper-fewer ns m n h l = all-proper ns m ∙ all-below-fewer (λ k. proper (triangle_at ns k)) l (sym (all-proper ns n) ∙ h)
