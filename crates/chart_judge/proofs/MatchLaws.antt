-- The comparison of three entry lists with the entries of a table.
-- The idea: building gives none, or another count, or the same count and the entries packed, which are compared place by place;
-- packing loses nothing.
-- Assumes nothing.
use mathlib.Core.Path.{◌≡◌, refl, sym, ◌∙◌, ap}
use mathlib.Core.Bool.{Bool, true, false, ◌&&◌, true≢false}
use mathlib.Core.List.{List}
use Prim.Native.Nat.{ℕ, ◌≤◌, ◌<◌}
use native.Mathlib.Omega.{arith}
use borrow.Author.Tests.{eq-eqb}
use lib.Dec.{T, eqb, eqb→eq}
use lib.ListN.{length, get_or, take, get_or-map}
use Rattle.std.proofs.Common.{Some, None}
use lib.Seq.{get_or-take, ext_get_or}
use Rattle.theory_lists.proofs.Reflects.{reflects-eqb, reflects-iff, test-false}
use Rattle.theory_lists.proofs.ListsLaws.{Every, get_or-member}
use Rattle.theory_lists.proofs.IndexLaws.{reflects-same, all-below-reflects}
use Rattle.theory_orthtree.specs.Entries.{Entry}
use Rattle.theory_orthtree.proofs.EntriesLaws.{no_entry}
use Rattle.spec_charts.specs.Table.{table_of, max_triangles}
use Rattle.spec_charts.specs.Cells.{entries_of}
use Rattle.spec_calls.specs.Buffers.{Chart, Roomy, zip_entries, chart_table, chart_entries, same_entries, indexed}
use Rattle.laws_calls.proofs.EntriesLaws.{same_entries-reflects, first_count, first-at}
use Rattle.base_entries.specs.Packed.{level_weight, level_places, packed}
use Rattle.base_entries.proofs.PackLaws.{Packable, packed-injective}
use Rattle.chart_links.specs.Links.{entry_at}
use Rattle.quadtree_build.specs.Packed.{Packed}
use Rattle.quadtree_build.proofs.PackableLaws.{entries-packable}
use Rattle.quadtree_build.proofs.PackedLaws.{none-given, packed-count, packed-take}
use Rattle.chart_judge.specs.Places.{same_place, same_places}

-- levels and items are of the widths that a packed entry has for them
pub record Widths (levels items : List ℕ) : Type 0 where
  pub level : (k : ℕ) → get_or levels k 0 < level_places
  pub item : (k : ℕ) → get_or items k 0 < level_weight

module _ (ks ls is : List ℕ) (m : ℕ) (room : Roomy m ks ls is) where
  abbrev lent : List Entry
  lent = take m (zip_entries ks ls is)

  lent-count : length lent ≡ m
  lent-count = first_count ks ls is m room.for_keys room.for_levels room.for_items

  lent_at : (i : ℕ) → i < m → get_or lent i no_entry ≡ entry_at ks ls is i
  unfolding entry_at
  lent_at i h = first-at ks ls is m room.for_keys room.for_levels room.for_items no_entry i h

  -- another count
  match-count : (es : List Entry) → (length es ≡ m → ⊥) → false ≡ same_entries lent es
  match-count es n = sym (test-false (λ t. n (sym (ap length ((same_entries-reflects lent es).to t)) ∙ lent-count)))

  module _ {most : ℕ} {es : List Entry} {r : ℕ} {l l' : List ℕ} (p : Packed most es (Some r) l l') where
    module _ (e : r ≡ m) (q : Every (λ e. Packable e) es) (w : Widths ls is) where
      -- what the list of packed entries holds
      packed-at : (i : ℕ) → i < m → get_or l' i 0 ≡ packed (get_or es i no_entry)
      unfolding packed
      packed-at i h =
          sym (get_or-take r l' i 0 (omega arith))
          ∙ ap (λ x. get_or x i 0) (packed-take p)
          ∙ get_or-map (λ d. packed d) es i no_entry

      same-to : ((i : ℕ) → i < m → T (same_place l' ks ls is i)) → lent ≡ es
      unfolding entry_at
      same-to t =
          let count = (packed-count p).1 in
          ext_get_or no_entry lent es (lent-count ∙ sym e ∙ count) (λ i h.
          let j : i < m = omega (arith, lent-count) in
          lent_at i j
          ∙ packed-injective (entry_at ks ls is i) (get_or es i no_entry) (record { level = w.level i; item = w.item i })
          (q (get_or es i no_entry) (get_or-member es i no_entry (omega arith)))
          (sym (eqb→eq (get_or l' i 0) (packed (entry_at ks ls is i)) (t i j)) ∙ packed-at i j))

      same_from : lent ≡ es → (i : ℕ) → i < m → T (same_place l' ks ls is i)
      same_from g i h =
          (reflects-eqb (get_or l' i 0) (packed (entry_at ks ls is i))).from
          (packed-at i h ∙ ap (λ x. packed (get_or x i no_entry)) (sym g) ∙ ap (λ d. packed d) (lent_at i h))

      -- the same count: the entries are equal when their numbers are, place by place
      match-places : same_places l' ks ls is m ≡ same_entries lent es
      match-places =
          reflects-same (all-below-reflects (λ i. same_place l' ks ls is i) m) (reflects-iff same_from same-to (same_entries-reflects lent es))

    -- as code compares them: the counts, then the places
    match-entries : Every (λ e. Packable e) es → Widths ls is → (eqb r m && same_places l' ks ls is m) ≡ same_entries lent es
    match-entries q w = go (eqb r m) refl
      where
        go : (b : Bool) → eqb r m ≡ b → (eqb r m && same_places l' ks ls is m) ≡ same_entries lent es
        go true e = ap (λ b. b && same_places l' ks ls is m) e ∙ match-places (eqb→eq r m (rw e tt)) q w
        go false e =
            ap (λ b. b && same_places l' ks ls is m) e
            ∙ match-count es (λ x. true≢false (sym (eq-eqb r m ((packed-count p).1 ∙ x)) ∙ e))

-- a chart whose entries are compared with what a build left
pub matched-within : (c : Chart) {most r : ℕ} {l l' : List ℕ} → Packed most (entries_of (table_of c.table c.triangle_count)) (Some r) l l'
    → c.triangle_count ≤ max_triangles → Roomy c.entry_count c.keys c.levels c.items
    → Widths c.levels c.items
    → {o : Bool} → o ≡ (eqb r c.entry_count && same_places l' c.keys c.levels c.items c.entry_count) → o ≡ indexed c
unfolding indexed chart_table chart_entries
matched-within c p h room w e =
    e ∙ match-entries c.keys c.levels c.items c.entry_count room p (entries-packable c.table c.triangle_count h) w

-- a build that left none: the table has more entries than the chart
pub matched-none : (c : Chart) {most : ℕ} {l l' : List ℕ} → Packed most (entries_of (table_of c.table c.triangle_count)) None l l'
    → c.entry_count ≤ most → Roomy c.entry_count c.keys c.levels c.items → false ≡ indexed c
unfolding indexed chart_table chart_entries
matched-none c p few room =
    match-count c.keys c.levels c.items c.entry_count room (entries_of (table_of c.table c.triangle_count))
    (λ e. let more = none-given (λ f. (p.fits f).0) in absurd (omega arith))
