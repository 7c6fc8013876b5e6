-- The lowest triangle with D ≤ 0: how a search from the start finds it, and which refusal it makes.
-- The idea: it is the length of the run of triangles with D > 0 at the start of the table.
-- Assumes nothing.
use mathlib.Core.Path.{◌≡◌, refl, sym, ◌∙◌, ap}
use mathlib.Core.Bool.{Bool, true, false, false≢true, not}
use mathlib.Core.List.{List, [], ◌∷◌}
use Prim.Native.Nat.{ℕ, suc, ◌+◌, ◌≤◌, ◌<◌}
use native.Mathlib.Nat.{add-zero, zero-add}
use native.Mathlib.Omega.{arith}
use lib.ListN.{length}
use Rattle.theory_lists.specs.Lists.{all, places_from, prefix_length}
use Rattle.theory_lists.proofs.Prefixes.{prefix-unique}
use Rattle.spec_plane.specs.Triangle.{proper}
use Rattle.spec_charts.specs.Table.{Table, table_of, triangle_at, numbered, no_triangle}
use Rattle.spec_charts.specs.declared.Refusal.TheVariants.{FaultyTriangle}
use Rattle.spec_charts.specs.Refusals.{refused, done}
use Rattle.spec_charts.specs.Edits.{faulty, refuse_faulty}
use Rattle.laws_charts.proofs.TableLaws.{numbered-at, table_of-length}
use Rattle.call_load.specs.Faulty.{first_faulty}

-- a search that has passed i triangles with D > 0, and ends at the next one or at the end of the table
pub faulty-found : (ns : List ℕ) (n i : ℕ) → i ≤ n → ((k : ℕ) → k < i → proper (triangle_at ns k) ≡ true)
    → (i < n → proper (triangle_at ns i) ≡ false) → i ≡ first_faulty (table_of ns n)
unfolding numbered
faulty-found ns n i h p q =
    let e = table_of-length ns n in
    prefix-unique (λ s. proper s) (table_of ns n) i no_triangle (omega arith)
    (λ k l. ap (λ s. proper s) (numbered-at ns n k (omega arith)) ∙ p k l)
    (λ l. ap (λ s. proper s) (numbered-at ns n i (omega arith)) ∙ q (omega arith))

-- ---- a table with no such triangle, and the refusal of one that has some

all-choice : (b : Bool) {r : Bool} (m n : ℕ) → suc n ≤ elim b [ true ↦ suc m | false ↦ 0 ] → (n ≤ m → r ≡ true)
    → elim b [ true ↦ r | false ↦ false ] ≡ true
all-choice true m n h f = f (omega arith)
all-choice false m n h f = absurd (omega arith)

-- the search ends at the end of the table: each triangle has D > 0
pub faulty-none : (t : Table) → length t ≤ first_faulty t → all (λ s. proper s) t ≡ true
unfolding all prefix_length
faulty-none [] h = refl
faulty-none (s ∷ t) h = all-choice (proper s) (first_faulty t) (length t) h (faulty-none t)

none-choice : (b : Bool) {r : Bool} (k : ℕ) (is : List ℕ) (u : Table) → elim b [ true ↦ r | false ↦ false ] ≡ true
    → (r ≡ true → refuse_faulty is u ≡ done u) → refuse_faulty (elim (not b) [ true ↦ k ∷ is | false ↦ is ]) u ≡ done u
none-choice true k is u h f = f h
none-choice false k is u h f = absurd (false≢true h)

-- no refusal where each triangle has D > 0
refuse-none : (k : ℕ) (t u : Table) → all (λ s. proper s) t ≡ true → refuse_faulty (places_from (λ s. not (proper s)) k t) u ≡ done u
unfolding all places_from refuse_faulty
refuse-none k [] u h = refl
refuse-none k (s ∷ t) u h =
    none-choice (proper s) k (places_from (λ s. not (proper s)) (suc k) t) u h (refuse-none (suc k) t u)

some-choice : (b : Bool) (k m n : ℕ) (is : List ℕ) (u : Table) → elim b [ true ↦ suc m | false ↦ 0 ] < suc n
    → (m < n → refuse_faulty is u ≡ refused (FaultyTriangle (suc k + m)))
    → refuse_faulty (elim (not b) [ true ↦ k ∷ is | false ↦ is ]) u ≡ refused (FaultyTriangle (k + elim b [ true ↦ suc m | false ↦ 0 ]))
unfolding refuse_faulty
some-choice true k m n is u h f = f (omega arith) ∙ ap (λ i. refused (FaultyTriangle i)) (omega arith)
some-choice false k m n is u h f = ap (λ i. refused (FaultyTriangle i)) (sym (add-zero k))

-- refusal 5 with the lowest place, where the first triangle has place k
refuse-some : (k : ℕ) (t u : Table) → first_faulty t < length t
    → refuse_faulty (places_from (λ s. not (proper s)) k t) u ≡ refused (FaultyTriangle (k + first_faulty t))
unfolding prefix_length places_from refuse_faulty
refuse-some k [] u h = absurd (omega arith)
refuse-some k (s ∷ t) u h =
    some-choice (proper s) k (first_faulty t) (length t) (places_from (λ s. not (proper s)) (suc k) t) u h (refuse-some (suc k) t u)

-- then there is no refusal
pub faulty-done : (t : Table) → length t ≤ first_faulty t → refuse_faulty (faulty t) t ≡ done t
unfolding faulty
faulty-done t h = refuse-none 0 t t (faulty-none t h)

-- the search ends before: refusal 5 with that triangle
pub faulty-refused : (t : Table) → first_faulty t < length t → refuse_faulty (faulty t) t ≡ refused (FaultyTriangle (first_faulty t))
unfolding faulty
faulty-refused t h = refuse-some 0 t t h ∙ ap (λ i. refused (FaultyTriangle i)) (zero-add (first_faulty t))
