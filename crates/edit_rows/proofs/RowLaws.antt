-- The table of a list of numbers: its rows from one on, and the table after a triangle is written into one of its rows.
-- The idea: the six numbers of a row are read back where they were written, and those of other rows are as they were.
-- Assumes nothing.
use mathlib.Core.Path.{◌≡◌, refl, sym, ◌∙◌, ap, ap₂}
use mathlib.Core.List.{List, [], ◌∷◌, ◌++◌}
use mathlib.Core.Logic.{◌⊎◌, inl, inr}
use Prim.Native.Nat.{ℕ, zero, suc, ◌+◌, ◌*◌, ◌≤◌, ◌<◌}
use native.Mathlib.Nat.{add-zero, suc-add, add-suc}
use native.Mathlib.Omega.{arith}
use native.Mathlib.Decide.{dec_le}
use lib.ListN.{length, get_or, set, drop, length-set}
use lib.Seq.{sets, length-sets, get_or-set_same, get_or-set_other, set_at, set-append_left, drop-cons}
use Rattle.theory_lists.specs.Lists.{up_to, count_from}
use Rattle.spec_plane.specs.Triangle.{Triangle}
use Rattle.spec_charts.specs.Table.{numbers_per_triangle, point_at, triangle_at, table_of, triangle_numbers, numbered, no_triangle}
use Rattle.laws_charts.proofs.TableLaws.{table_of-length, table_of-suc, numbered-at}

-- the rows from number i on: row i, and the rest
pub rows-cons : (ns : List ℕ) (n i : ℕ) → i < n → drop i (table_of ns n) ≡ triangle_at ns i ∷ drop (suc i) (table_of ns n)
unfolding numbered
rows-cons ns n i h =
    drop-cons (table_of ns n) i no_triangle (omega (arith, table_of-length ns n))
    ∙ ap (λ t. t ∷ drop (suc i) (table_of ns n)) (numbered-at ns n i h)

-- a place before a run of stores, or after it, keeps its number
pub get_or-sets-other : (vs l : List ℕ) (i j : ℕ) → (j < i) ⊎ (i + length vs ≤ j) → get_or (sets l i vs) j 0 ≡ get_or l j 0
get_or-sets-other [] l i j h = refl
get_or-sets-other (v ∷ vs) l i j (inl h) =
    get_or-sets-other vs (set l i v) (suc i) j (inl (omega arith)) ∙ get_or-set_other l i j v 0 (λ e. omega arith)
get_or-sets-other (v ∷ vs) l i j (inr h) =
    get_or-sets-other vs (set l i v) (suc i) j (inr (omega arith)) ∙ get_or-set_other l i j v 0 (λ e. omega arith)

-- a place of a run of stores has what is stored there
pub get_or-sets-same : (vs l : List ℕ) (i j : ℕ) → j < length vs → i + length vs ≤ length l → get_or (sets l i vs) (i + j) 0 ≡ get_or vs j 0
get_or-sets-same [] l i j h b = absurd (omega arith)
get_or-sets-same (v ∷ vs) l i zero h b =
    ap (λ k. get_or (sets (set l i v) (suc i) vs) k 0) (add-zero i)
    ∙ get_or-sets-other vs (set l i v) (suc i) i (inl (omega arith))
    ∙ get_or-set_same l i v 0 (omega arith)
get_or-sets-same (v ∷ vs) l i (suc j) h b =
    ap (λ k. get_or (sets (set l i v) (suc i) vs) k 0) (add-suc i j ∙ sym (suc-add i j))
    ∙ get_or-sets-same vs (set l i v) (suc i) j (omega arith) (omega (arith, length-set l i v))

-- the list of numbers with the triangle t in row i
abbrev pub with_row : List ℕ → ℕ → Triangle → List ℕ
with_row ns i t = sets ns (numbers_per_triangle * i) (triangle_numbers t)

-- as long as before
pub with_row-length : (ns : List ℕ) (i : ℕ) (t : Triangle) → length (with_row ns i t) ≡ length ns
with_row-length ns i t = length-sets ns (numbers_per_triangle * i) (triangle_numbers t)

-- the triangle of that row
pub row_same : (ns : List ℕ) (i : ℕ) (t : Triangle) → numbers_per_triangle * (i + 1) ≤ length ns → triangle_at (with_row ns i t) i ≡ t
unfolding triangle_at point_at triangle_numbers
row_same ns i t h =
    let at : (j : ℕ) → j < numbers_per_triangle → get_or (with_row ns i t) (numbers_per_triangle * i + j) 0 ≡ get_or (triangle_numbers t) j 0 = λ j b.
    get_or-sets-same (triangle_numbers t) ns (numbers_per_triangle * i) j b (omega arith) in
    let e : numbers_per_triangle * i + 2 + 1 ≡ numbers_per_triangle * i + 3 = omega arith in
    let f : numbers_per_triangle * i + 4 + 1 ≡ numbers_per_triangle * i + 5 = omega arith in
    let g : numbers_per_triangle * i ≡ numbers_per_triangle * i + 0 = omega arith in
    let read : (k j : ℕ) → k ≡ numbers_per_triangle * i + j → j < numbers_per_triangle → get_or (with_row ns i t) k 0 ≡ get_or (triangle_numbers t) j 0 = λ k j q b.
    ap (λ m. get_or (with_row ns i t) m 0) q ∙ at j b in
    λ z. record {
      a = record { x = read (numbers_per_triangle * i) 0 g (omega arith) z; y = read (numbers_per_triangle * i + 1) 1 refl (omega arith) z };
      b = record { x = read (numbers_per_triangle * i + 2) 2 refl (omega arith) z; y = read (numbers_per_triangle * i + 2 + 1) 3 e (omega arith) z };
      c = record { x = read (numbers_per_triangle * i + 4) 4 refl (omega arith) z; y = read (numbers_per_triangle * i + 4 + 1) 5 f (omega arith) z };
    }

-- the numbers of another row are none of row i's
other_row : (i j k : ℕ) → (j < i) ⊎ (i < j) → numbers_per_triangle * j ≤ k → k < numbers_per_triangle * j + numbers_per_triangle → (k < numbers_per_triangle * i) ⊎ (numbers_per_triangle * i + numbers_per_triangle ≤ k)
other_row i j k (inl h) a b = inl (omega arith)
other_row i j k (inr h) a b = inr (omega arith)

-- the triangle of another row
pub row_other : (ns : List ℕ) (i j : ℕ) (t : Triangle) → (j < i) ⊎ (i < j) → triangle_at (with_row ns i t) j ≡ triangle_at ns j
unfolding triangle_at point_at triangle_numbers
row_other ns i j t h =
    let read : (k : ℕ) → numbers_per_triangle * j ≤ k → k < numbers_per_triangle * j + numbers_per_triangle → get_or (with_row ns i t) k 0 ≡ get_or ns k 0 = λ k a b.
    get_or-sets-other (triangle_numbers t) ns (numbers_per_triangle * i) k (other_row i j k h a b) in
    λ z. record {
      a = record { x = read (numbers_per_triangle * j) (omega arith) (omega arith) z; y = read (numbers_per_triangle * j + 1) (omega arith) (omega arith) z };
      b = record { x = read (numbers_per_triangle * j + 2) (omega arith) (omega arith) z; y = read (numbers_per_triangle * j + 2 + 1) (omega arith) (omega arith) z };
      c = record { x = read (numbers_per_triangle * j + 4) (omega arith) (omega arith) z; y = read (numbers_per_triangle * j + 4 + 1) (omega arith) (omega arith) z };
    }

-- the rows before it
pub rows_before : (ns : List ℕ) (i n : ℕ) (t : Triangle) → n ≤ i → table_of (with_row ns i t) n ≡ table_of ns n
unfolding table_of up_to count_from
rows_before ns i zero t h = refl
rows_before ns i (suc n) t h =
    table_of-suc (with_row ns i t) n
    ∙ ap₂ (λ l s. l ++ (s ∷ [])) (rows_before ns i n t (omega arith)) (row_other ns i n t (inl (omega arith)))
    ∙ sym (table_of-suc ns n)

-- a triangle written behind the first n is appended to them
pub rows_append : (ns : List ℕ) (n : ℕ) (t : Triangle) → numbers_per_triangle * (n + 1) ≤ length ns
    → table_of (with_row ns n t) (suc n) ≡ table_of ns n ++ (t ∷ [])
rows_append ns n t h =
    table_of-suc (with_row ns n t) n
    ∙ ap₂ (λ l s. l ++ (s ∷ [])) (rows_before ns n n t (omega arith)) (row_same ns n t h)

-- a triangle written into one of the first n rows replaces what stood there
pub rows-set : (ns : List ℕ) (i n : ℕ) (t : Triangle) → i < n → numbers_per_triangle * n ≤ length ns
    → table_of (with_row ns i t) n ≡ set (table_of ns n) i t
rows-set ns i zero t h b = absurd (omega arith)
rows-set ns i (suc n) t h b = go (dec_le (suc i) n) (λ l. rows-set ns i n t l (omega arith))
  where
    end : set (table_of ns (suc n)) i t ≡ set (table_of ns n ++ (triangle_at ns n ∷ [])) i t
    end = ap (λ l. set l i t) (table_of-suc ns n)

    last : i ≡ n → table_of (with_row ns i t) (suc n) ≡ set (table_of ns (suc n)) i t
    last e =
        ap (λ k. table_of (with_row ns k t) (suc n)) e ∙ rows_append ns n t (omega arith)
        ∙ sym (set_at (table_of ns n) (triangle_at ns n) [] t i (table_of-length ns n ∙ sym e)) ∙ sym end

    go : Dec (suc i ≤ n) → (i < n → table_of (with_row ns i t) n ≡ set (table_of ns n) i t)
        → table_of (with_row ns i t) (suc n) ≡ set (table_of ns (suc n)) i t
    go (yes l) r =
        table_of-suc (with_row ns i t) n
        ∙ ap₂ (λ l s. l ++ (s ∷ [])) (r l) (row_other ns i n t (inr l))
        ∙ sym (set-append_left (table_of ns n) (triangle_at ns n ∷ []) i t (omega (arith, table_of-length ns n)))
        ∙ sym end
    go (no l) r = last (omega arith)
