-- Three triangles around a point merged: the table that the rows make.
-- The idea: without rows j and k the table is three runs of rows, of which the first has the merged triangle.
-- Assumes nothing.
use mathlib.Core.Path.{◌≡◌, sym, ◌∙◌, ap, ap₂}
use mathlib.Core.List.{List, [], ◌∷◌, ◌++◌, append-nil, append_assoc}
use Prim.Native.Nat.{ℕ, zero, suc, ◌+◌, ◌-◌, ◌*◌, ◌≤◌, ◌<◌}
use native.Mathlib.Decide.{dec_le}
use native.Mathlib.Numerals.{add-one}
use native.Mathlib.Omega.{arith}
use lib.ListN.{length, set, take, drop, length-set}
use lib.Seq.{take-set-lt, drop-set-lt, take-append-le, drop-append-le, set-append_left, take_at}
use Rattle.theory_lists.specs.Lists.{without, up_to, count_from}
use Rattle.spec_plane.specs.Triangle.{Triangle}
use Rattle.spec_charts.specs.Table.{numbers_per_triangle, triangle_at, table_of}
use Rattle.spec_charts.specs.Edits.{merge_around}
use Rattle.laws_charts.proofs.TableLaws.{table_of-length, table_of-suc}
use Rattle.edit_rows.proofs.RowLaws.{with_row, rows-set}
use Rattle.edit_rows.proofs.CopyLaws.{whole_copy}
use Rattle.edit_take_out.specs.Places.{Ascending}

-- the first k triangles of a table
pub take-rows : (ns : List ℕ) (k n : ℕ) → k ≤ n → take k (table_of ns n) ≡ table_of ns k
unfolding table_of up_to count_from
take-rows ns k zero h =
    let e : k ≡ 0 = omega arith in
    ap (λ m. take m (table_of ns 0)) e ∙ ap (table_of ns) (sym e)
take-rows ns k (suc n) h = go (dec_le k n) (λ l. take-rows ns k n l)
  where
    go : Dec (k ≤ n) → (k ≤ n → take k (table_of ns n) ≡ table_of ns k) → take k (table_of ns (suc n)) ≡ table_of ns k
    go (yes l) r =
        ap (take k) (table_of-suc ns n) ∙ take-append-le k (table_of ns n) (triangle_at ns n ∷ []) (omega (arith, table_of-length ns n)) ∙ r l
    go (no l) r =
        let e : k ≡ suc n = omega arith in
        ap (take k) (sym (append-nil (table_of ns (suc n)))) ∙ take_at (table_of ns (suc n)) [] k (table_of-length ns (suc n) ∙ sym e)
        ∙ ap (table_of ns) (sym e)

-- the merged table in three parts
merged-parts : (ns : List ℕ) (n i j k : ℕ) (t : Triangle) → Ascending i j k n
    → merge_around (table_of ns n) i j k t ≡ set (table_of ns j) i t ++ (drop (suc j) (table_of ns k) ++ drop (suc k) (table_of ns n))
unfolding merge_around without
merged-parts ns n i j k t o =
    let ij = o.ij in
    let jk = o.jk in
    let below = o.below in
    let whole = table_of ns n in
    let inner = table_of ns k in
    let x = set inner i t in
    let rest = drop (suc k) whole in
    let size : length x ≡ k = length-set inner i t ∙ table_of-length ns k in
    let outer : without k (set whole i t) ≡ x ++ rest =
    ap₂ ◌++◌ (take-set-lt k whole i t (omega arith) ∙ ap (λ l. set l i t) (take-rows ns k n (omega arith))) (drop-set-lt (suc k) whole i t (omega arith)) in
    ap (without j) outer
    ∙ ap₂ ◌++◌
    (take-append-le j x rest (omega (arith, size)) ∙ take-set-lt j inner i t ij ∙ ap (λ l. set l i t) (take-rows ns j k (omega arith)))
    (drop-append-le (suc j) x rest (omega (arith, size)) ∙ ap (λ l. l ++ rest) (drop-set-lt (suc j) inner i t (omega arith)))

-- the rows of a take-out
pub merged-rows : (ns o o₁ o₂ o₃ : List ℕ) {o₄ : List ℕ} (n i j k : ℕ) (t : Triangle) → Ascending i j k n → numbers_per_triangle * n ≤ length o₃
    → table_of o₁ (0 + (j - 0)) ≡ table_of o 0 ++ drop 0 (table_of ns j)
    → table_of o₂ (j + (k - (j + 1))) ≡ table_of o₁ j ++ drop (j + 1) (table_of ns k)
    → table_of o₃ (k - 1 + (n - (k + 1))) ≡ table_of o₂ (k - 1) ++ drop (k + 1) (table_of ns n)
    → o₄ ≡ with_row o₃ i t → table_of o₄ (n - 2) ≡ merge_around (table_of ns n) i j k t
merged-rows ns o o₁ o₂ o₃ n i j k t places room e₁ e₂ e₃ e₄ =
    let ij = places.ij in
    let jk = places.jk in
    let below = places.below in
    let a = table_of ns j in
    let b = drop (suc j) (table_of ns k) in
    let c = drop (suc k) (table_of ns n) in
    let q : k - 1 ≡ j + (k - (j + 1)) = omega arith in
    let r : n - 2 ≡ k - 1 + (n - (k + 1)) = omega arith in
    let in_a : i < length a = omega (arith, table_of-length ns j) in
    let two : table_of o₂ (k - 1) ≡ a ++ b =
    ap (table_of o₂) q ∙ e₂ ∙ ap₂ ◌++◌ (whole_copy ns o o₁ j e₁) (ap (λ m. drop m (table_of ns k)) (add-one j)) in
    let all : table_of o₃ (n - 2) ≡ a ++ (b ++ c) =
    ap (table_of o₃) r ∙ e₃ ∙ ap₂ ◌++◌ two (ap (λ m. drop m (table_of ns n)) (add-one k)) ∙ append_assoc a b c in
    ap (λ l. table_of l (n - 2)) e₄ ∙ rows-set o₃ i (n - 2) t (omega arith) (omega arith) ∙ ap (λ l. set l i t) all
    ∙ set-append_left a (b ++ c) i t in_a ∙ sym (merged-parts ns n i j k t places)
