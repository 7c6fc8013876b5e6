-- Rows of one table copied behind the rows of another, one by one.
-- Assumes nothing.
use mathlib.Core.Path.{◌≡◌, sym, ◌∙◌, ap, ap₂}
use mathlib.Core.List.{List, [], ◌∷◌, ◌++◌, append-nil, append_assoc}
use Prim.Native.Nat.{ℕ, suc, ◌+◌, ◌*◌, ◌-◌, ◌≤◌, ◌<◌}
use native.Mathlib.Numerals.{add-one}
use native.Mathlib.Omega.{arith}
use lib.ListN.{length, set, drop, drop_of_length-le}
use lib.Seq.{drop-append-le}
use Rattle.theory_lists.specs.Lists.{up_to, count_from}
use Rattle.spec_plane.specs.declared.Point.{Point}
use Rattle.spec_plane.specs.Triangle.{Triangle, triangle_of, corner_at, corners}
use Rattle.spec_charts.specs.Table.{numbers_per_triangle, triangle_at, table_of}
use Rattle.laws_charts.proofs.TableLaws.{table_of-length, table_of-suc}
use Rattle.edit_rows.proofs.RowLaws.{with_row, rows_append, rows-set}

-- the rows first, .., i - 1 of ns stand behind the first m rows that the scratch table had
pub record Appending (ns : List ℕ) (first : ℕ) (o : List ℕ) (m : ℕ) (o' : List ℕ) (i : ℕ) : Type 0 where
  pub made : table_of o' (m + (i - first)) ≡ table_of o m ++ drop first (table_of ns i)

-- none yet
pub appending-start : (ns : List ℕ) (first : ℕ) (o : List ℕ) (m : ℕ) → Appending ns first o m o first
appending-start ns first o m =
    let e : m + (first - first) ≡ m = omega arith in
    record {
      made =
          ap (table_of o) e ∙ sym (append-nil (table_of o m))
          ∙ ap (λ l. table_of o m ++ l) (sym (drop_of_length-le (table_of ns first) {i = first} (omega (arith, table_of-length ns first))));
    }

-- the triangle that an array of a triangle's corners is
pub triangle-read : (t : Triangle) {s : List Point} → s ≡ corners t → triangle_of s ≡ t
unfolding triangle_of corner_at
triangle-read t e = ap triangle_of e

-- one more
pub appending-next : {ns o o' o'' : List ℕ} {first m i : ℕ} {s : List Point} → Appending ns first o m o' i → first ≤ i
    → numbers_per_triangle * (m + (i - first) + 1) ≤ length o' → s ≡ corners (triangle_at ns i) → o'' ≡ with_row o' (m + (i - first)) (triangle_of s)
    → Appending ns first o m o'' (i + 1)
appending-next {ns} {o} {o'} {o''} {first} {m} {i} {s} a low room read wrote =
    let t = triangle_at ns i in
    let k = m + (i - first) in
    let next : m + (i + 1 - first) ≡ suc k = omega arith in
    let here : o'' ≡ with_row o' k t = wrote ∙ ap (with_row o' k) (triangle-read t read) in
    record {
      made =
          ap₂ table_of here next ∙ rows_append o' k t room
          ∙ ap (λ l. l ++ (t ∷ [])) a.made ∙ append_assoc (table_of o m) (drop first (table_of ns i)) (t ∷ [])
          ∙ ap (λ l. table_of o m ++ l)
          (sym (drop-append-le first (table_of ns i) (t ∷ []) (omega (arith, table_of-length ns i)))
          ∙ ap (drop first) (sym (table_of-suc ns i) ∙ ap (table_of ns) (sym (add-one i))));
    }

-- a whole table copied
pub whole_copy : (ns o o' : List ℕ) (n : ℕ) → table_of o' (0 + (n - 0)) ≡ table_of o 0 ++ drop 0 (table_of ns n) → table_of o' n ≡ table_of ns n
unfolding table_of up_to count_from
whole_copy ns o o' n e = let k : n ≡ 0 + (n - 0) = omega arith in ap (table_of o') k ∙ e

-- a whole table copied, then a triangle written into one of its rows
pub row-replaced : (ns o o₁ : List ℕ) {o₂ : List ℕ} (n i : ℕ) (x : Triangle) → i < n → numbers_per_triangle * n ≤ length o₁
    → table_of o₁ (0 + (n - 0)) ≡ table_of o 0 ++ drop 0 (table_of ns n) → o₂ ≡ with_row o₁ i x → table_of o₂ n ≡ set (table_of ns n) i x
row-replaced ns o o₁ n i x h room e₁ e₂ =
    ap (λ l. table_of l n) e₂ ∙ rows-set o₁ i n x h room ∙ ap (λ l. set l i x) (whole_copy ns o o₁ n e₁)
