-- The table of a list of numbers: its length, its triangles by their places, and its numbers again.
-- Assumes nothing.
use mathlib.Core.Path.{◌≡◌, refl, sym, ◌∙◌, ap, ap₂}
use mathlib.Core.List.{List, [], ◌∷◌, ◌++◌, map, flat_map, append-nil, map-append}
use Prim.Native.Nat.{ℕ, zero, suc, ◌+◌, ◌*◌, ◌≤◌, ◌<◌}
use native.Mathlib.Nat.{zero-add, add-zero}
use native.Mathlib.Omega.{arith}
use lib.Dec.{T}
use lib.ListN.{length, get_or, take, drop, length-map}
use lib.Seq.{take-add, drop-cons}
use Rattle.theory_lists.specs.Lists.{count_from, up_to}
use Rattle.theory_lists.proofs.ListsLaws.{Every, get_or-member}
use Rattle.theory_lists.proofs.FlatMapLaws.{flat_map-append}
use Rattle.theory_lists.proofs.IndexLaws.{up_to-suc, up_to-length}
use Rattle.spec_plane.specs.Triangle.{proper}
use Rattle.spec_charts.specs.Table.{Table, point_at, triangle_at, table_of, numbered, no_triangle, triangle_numbers, table_numbers, numbers_per_triangle}

-- a table of n triangles has n
pub table_of-length : (ns : List ℕ) (n : ℕ) → length (table_of ns n) ≡ n
unfolding table_of
table_of-length ns n = length-map (up_to n) (λ i. triangle_at ns i) ∙ up_to-length n

-- one triangle more
pub table_of-suc : (ns : List ℕ) (n : ℕ) → table_of ns (suc n) ≡ table_of ns n ++ (triangle_at ns n ∷ [])
unfolding table_of
table_of-suc ns n = ap (map (λ i. triangle_at ns i)) (up_to-suc n) ∙ map-append (λ i. triangle_at ns i) (up_to n) (n ∷ [])

-- what stands at a place of a list over the numbers from k on
counted : {A : Type 0} (f : ℕ → A) (k n i : ℕ) (d : A) → i < n → get_or (map f (count_from k n)) i d ≡ f (k + i)
unfolding count_from
counted f k zero i d h = absurd (omega arith)
counted f k (suc n) zero d h = ap f (sym (add-zero k))
counted f k (suc n) (suc i) d h = counted f (suc k) n i d (omega arith) ∙ ap f (omega arith)

-- triangle i of a table is read from its six numbers
pub numbered-at : (ns : List ℕ) (n i : ℕ) → i < n → numbered (table_of ns n) i ≡ triangle_at ns i
unfolding numbered table_of up_to
numbered-at ns n i h = counted (λ j. triangle_at ns j) 0 n i no_triangle h ∙ ap (triangle_at ns) (zero-add i)

-- some numbers of a list, by their places
take_places : (n k : ℕ) (ns : List ℕ) → k + n ≤ length ns → take n (drop k ns) ≡ map (λ i. get_or ns i 0) (count_from k n)
unfolding count_from
take_places zero k ns h = refl
take_places (suc n) k ns h =
    ap (take (suc n)) (drop-cons ns k 0 (omega arith))
    ∙ ap (λ l. get_or ns k 0 ∷ l) (take_places n (suc k) ns (omega arith))

-- those of triangle n
triangle-take : (ns : List ℕ) (n : ℕ) → numbers_per_triangle * n + numbers_per_triangle ≤ length ns → triangle_numbers (triangle_at ns n) ≡ take numbers_per_triangle (drop (numbers_per_triangle * n) ns)
unfolding triangle_numbers triangle_at point_at count_from
triangle-take ns n h =
    let k = numbers_per_triangle * n in
    let a : k + 1 ≡ suc k = omega arith in
    let b : k + 2 ≡ suc (suc k) = omega arith in
    let d : k + 2 + 1 ≡ suc (suc (suc k)) = omega arith in
    let e : k + 4 ≡ suc (suc (suc (suc k))) = omega arith in
    let f : k + 4 + 1 ≡ suc (suc (suc (suc (suc k)))) = omega arith in
    rw (take_places numbers_per_triangle k ns h) (cc)

-- the numbers of the first n triangles are the first numbers, so many for each
pub table_numbers-take : (ns : List ℕ) (n : ℕ) → numbers_per_triangle * n ≤ length ns → table_numbers (table_of ns n) ≡ take (numbers_per_triangle * n) ns
unfolding table_numbers table_of up_to count_from flat_map
table_numbers-take ns zero h = refl
table_numbers-take ns (suc n) h =
    let m : numbers_per_triangle * suc n ≡ numbers_per_triangle * n + numbers_per_triangle = omega arith in
    ap (flat_map (λ t. triangle_numbers t)) (table_of-suc ns n)
    ∙ flat_map-append (λ t. triangle_numbers t) (table_of ns n) (triangle_at ns n ∷ [])
    ∙ ap₂ ◌++◌ (table_numbers-take ns n (omega arith)) (append-nil (triangle_numbers (triangle_at ns n)) ∙ triangle-take ns n (omega arith))
    ∙ sym (take-add (numbers_per_triangle * n) numbers_per_triangle ns)
    ∙ ap (λ k. take k ns) (sym m)

-- where all triangles of a table have D > 0, so has each that a number below the count stands for
pub numbered-proper : (table : Table) → Every (λ t. T (proper t)) table → (i : ℕ) → i < length table → T (proper (numbered table i))
unfolding numbered
numbered-proper table good i h = good _ (get_or-member table i no_triangle h)
