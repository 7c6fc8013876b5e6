-- Lists of keys and items as those of entries: the items of a part, and what the rows know of them.
-- Assumes nothing.
use mathlib.Core.Path.{◌≡◌, refl, sym, ◌∙◌, ap, ap₂, subst}
use mathlib.Core.Bool.{Bool, true, false}
use mathlib.Core.List.{List, [], ◌∷◌, map}
use Prim.Native.Nat.{ℕ, zero, suc, ◌-◌, ◌≤◌, ◌<◌}
use native.Mathlib.Decide.{ℕ_discrete}
use native.Mathlib.Nat.{sub-zero}
use native.Mathlib.Omega.{arith}
use borrow.Author.Tests.{eq-eqb, ne_eqb}
use lib.Dec.{eqb}
use lib.ListN.{length, get_or, take, drop}
use lib.Seq.{take_all, length-take-le}
use Rattle.theory_lists.specs.Lists.{any, part}
use Rattle.theory_lists.proofs.PartLaws.{part-map}
use Rattle.theory_orthtree.specs.Entries.{Entry, span, chain}
use Rattle.theory_orthtree.proofs.EntriesLaws.{no_entry}
use Rattle.theory_orthtree.proofs.KeyCellsLaws.{KeysOf}
use Rattle.spec_calls.specs.Buffers.{zip_entries}
use Rattle.laws_calls.proofs.EntriesLaws.{first_count, first-at}
use Rattle.overlay_marks.specs.PairMarks.{place_of, some_at}
use Rattle.overlay_merge.specs.Merge.{KeyedItems, with_levels, EntriesFit, Overlapping, Merged}
use Rattle.spec_charts.specs.Table.{max_triangles}
use Rattle.spec_charts.specs.Cells.{max_entries}

-- the keys and items are those of the entries
pub record EntriesOf (s : KeyedItems) (es : List Entry) : Type 0 where
  pub keys : KeysOf s.keys s.count es
  pub items : (a r : ℕ) → a ≤ r → r ≤ s.count → take (r - a) (drop a s.items) ≡ map (λ e. e.item) (take (r - a) (drop a es))

-- of the entries with any levels
pub entries-of : (s : KeyedItems) → EntriesFit s → (us : List ℕ) → s.count ≤ length us → EntriesOf s (with_levels s us)
entries-of s f us l = record {
  keys = record { count = sym count; keys = first-keys };
  items = λ a r p q. part-map (λ e. e.item) es s.items no_entry a r p (omega (arith, count)) (omega (arith, f.for_items)) (λ i h. ap (λ e. e.item) (at i (omega arith)));
}
  where
    es : List Entry
    es = with_levels s us

    count : length es ≡ s.count
    count = first_count s.keys us s.items s.count f.for_keys l f.for_items

    at : (i : ℕ) → i < s.count → get_or es i no_entry ≡ record { key = get_or s.keys i 0; level = get_or us i 0; item = get_or s.items i 0 }
    at i h = first-at s.keys us s.items s.count f.for_keys l f.for_items no_entry i h

    first-keys : take s.count s.keys ≡ map (λ e. e.key) es
    first-keys =
        let p = part-map (λ e. e.key) es s.keys no_entry 0 s.count (omega arith) (omega (arith, count)) f.for_keys (λ i h. ap (λ e. e.key) (at i h)) in
        let whole : take s.count es ≡ es = take_all s.count es (omega (arith, count)) in
        rw (sub-zero s.count, whole) at p

-- entries of the first n keys and items, among the first n
zip-first : (n : ℕ) (ks us is : List ℕ) → take n (zip_entries (take n ks) us (take n is)) ≡ take n (zip_entries ks us is)
unfolding zip_entries
zip-first zero ks us is = refl
zip-first (suc n) [] us is = refl
zip-first (suc n) (k ∷ ks) [] is = refl
zip-first (suc n) (k ∷ ks) (u ∷ us) [] = refl
zip-first (suc n) (k ∷ ks) (u ∷ us) (i ∷ is) = ap (λ es. record { key = k; level = u; item = i } ∷ es) (zip-first n ks us is)

-- so many of the keys and items of a longer list
abbrev pub first_entries : List ℕ → List ℕ → ℕ → KeyedItems
first_entries ks is n = record { keys = take n ks; items = take n is; count = length (take n ks) }

-- they are all there
pub first-fit : (ks is : List ℕ) (n : ℕ) → n ≤ max_entries → n ≤ length ks → n ≤ length is → EntriesFit (first_entries ks is n)
first-fit ks is n few h l =
    let e = length-take-le n ks h in
    record { few = omega (arith, e); for_keys = omega arith; for_items = omega (arith, e, length-take-le n is l) }

-- and their entries are the first of the longer list's
first-levels : (ks us is : List ℕ) (n : ℕ) → n ≤ length ks → with_levels (first_entries ks is n) us ≡ take n (zip_entries ks us is)
first-levels ks us is n h = ap (λ m. take m (zip_entries (take n ks) us (take n is))) (length-take-le n ks h) ∙ zip-first n ks us is

-- so what is merged of them is merged of the longer lists' first entries
pub merged-first : {tree_end : ℕ} {rows : List ℕ} {r : ℕ} (ks is : List ℕ) (n : ℕ) (ls js : List ℕ) (m : ℕ) → n ≤ length ks → m ≤ length ls
    → Merged tree_end (first_entries ks is n) (first_entries ls js m) rows r → (arity depth : ℕ) → 0 < arity → span arity depth 0 ≡ tree_end
    → (us vs : List ℕ) → n ≤ length us → m ≤ length vs → (c d : ℕ)
    → chain arity depth c (take n (zip_entries ks us is)) ≡ true → chain arity depth d (take m (zip_entries ls vs js)) ≡ true
    → Overlapping arity depth (take n (zip_entries ks us is)) (take m (zip_entries ls vs js)) rows r
merged-first {rows = rows} {r = r} ks is n ls js m h l merged arity depth pos end us vs u v c d f g =
    let e = first-levels ks us is n h in
    let e' = first-levels ls vs js m l in
    subst (λ es. Overlapping arity depth es (take m (zip_entries ls vs js)) rows r) e
    (subst (λ fs. Overlapping arity depth (with_levels (first_entries ks is n) us) fs rows r) e'
    (merged.overlapping arity depth pos end us vs (omega (arith, length-take-le n ks h)) (omega (arith, length-take-le m ls l)) c d
    (ap (chain arity depth c) e ∙ f) (ap (chain arity depth d) e' ∙ g)))

-- of an item below max_triangles, its own number is its row and its bit
own-place : (t i : ℕ) → i < max_triangles → eqb (place_of t) i ≡ eqb t i
own-place t i h = elim (ℕ_discrete t i) [
  | yes e ↦ eq-eqb (place_of t) i (omega arith) ∙ sym (eq-eqb t i e)
  | no n ↦ ne_eqb (place_of t) i (λ e. n (omega arith)) ∙ sym (ne_eqb t i n)
]

some_item : (i : ℕ) → i < max_triangles → (gs : List Entry) → any (λ t. eqb (place_of t) i) (map (λ e. e.item) gs) ≡ any (λ g. eqb g.item i) gs
unfolding any
some_item i h [] = refl
some_item i h (g ∷ gs) =
    ap₂ (λ (b c : Bool). elim b [ true ↦ true | false ↦ c ]) (own-place g.item i h) (some_item i h gs)

-- some entry of a part lists the item
pub some-listed : {s : KeyedItems} {es : List Entry} → EntriesOf s es → (a r : ℕ) → a ≤ r → r ≤ s.count → (i : ℕ) → i < max_triangles
    → some_at (part a r s.items) i ≡ any (λ g. eqb g.item i) (take (r - a) (drop a es))
unfolding some_at
some-listed {es = es} x a r h l i low =
    ap (λ xs. any (λ t. eqb (place_of t) i) xs) (x.items a r h l) ∙ some_item i low (take (r - a) (drop a es))
