-- What storing a table comes to: refusal 11 with lists and counts as they were, or the table with its entries.
-- The idea: building gives a count where the entries fit, and none where they do not.
-- Assumes nothing.
use mathlib.Core.Path.{◌≡◌, refl, sym, ◌∙◌, ap}
use mathlib.Core.List.{List}
use Prim.Native.Nat.{ℕ, ◌*◌, ◌≤◌, ◌<◌}
use borrow.Author.Tests.{lt-ltb, le-ltb}
use lib.ListN.{length, take}
use Rattle.std.proofs.Common.{Some, None}
use Rattle.spec_charts.specs.Table.{Table, table_of, table_length, numbers_per_triangle}
use Rattle.spec_charts.specs.Cells.{entries_of, max_entries}
use Rattle.spec_charts.specs.declared.Refusal.TheVariants.{TooManyEntries}
use Rattle.spec_charts.specs.Refusals.{refused, done, refuse_if}
use Rattle.spec_charts.specs.Edits.{within_limit, limited}
use Rattle.laws_charts.proofs.TableLaws.{table_numbers-take, table_of-length}
use Rattle.spec_calls.specs.Buffers.{Chart, chart_of, padded, chart_with, indexed_chart}
use Rattle.spec_calls.specs.Calls.{Changed, changed_by}
use Rattle.chart_index.specs.Lists.{Listed}
use Rattle.chart_index.proofs.ListedLaws.{listed-count, listed-many}

-- ---- refusal 11 by the number of entries

pub limit-over : (t : Table) → max_entries < length (entries_of t) → within_limit t ≡ refused TooManyEntries
unfolding within_limit limited refuse_if
limit-over t h = rw (lt-ltb max_entries (length (entries_of t)) h)

pub limit-fits : (t : Table) → length (entries_of t) ≤ max_entries → within_limit t ≡ done t
unfolding within_limit limited refuse_if
limit-fits t h = rw (le-ltb max_entries (length (entries_of t)) h)

-- ---- by what building gave

module _ (ns : List ℕ) (n : ℕ) (room : numbers_per_triangle * n ≤ length ns) (c : Chart) {ks ls is : List ℕ} where
  -- none: the lists are as they were
  pub store_many : Listed (entries_of (table_of ns n)) None c.keys ks c.levels ls c.items is
      → changed_by (chart_of c.table ks ls is c.triangle_count c.entry_count) (refused TooManyEntries) ≡ changed_by c (within_limit (table_of ns n))
  store_many l =
      let many = listed-many l in
      rw (l.over_keys many, l.over_levels many, l.over_items many, limit-over (table_of ns n) many) refl

  module _ {m : ℕ} (l : Listed (entries_of (table_of ns n)) (Some m) c.keys ks c.levels ls c.items is) where
    store-chart : {table : List ℕ} → table ≡ padded table_length (take (numbers_per_triangle * n) ns) c.table
        → chart_of table ks ls is n m ≡ indexed_chart c (table_of ns n)
    unfolding indexed_chart chart_with
    store-chart {table} p =
        let few = listed-count l in
        let numbers = ap (λ u. padded table_length u c.table) (sym (table_numbers-take ns n room)) in
        let count = sym (table_of-length ns n) in
        λ i. chart_of ((p ∙ numbers) i) (l.fits_keys few.0 i) (l.fits_levels few.0 i) (l.fits_items few.0 i) (count i) (few.1 i)

    -- else the lists hold the table and its entries
    pub store-done : {table : List ℕ} → table ≡ padded table_length (take (numbers_per_triangle * n) ns) c.table
        → ◌≡◌ {A = Changed} (record { number = 0; value = 0; chart = chart_of table ks ls is n m }) (changed_by c (within_limit (table_of ns n)))
    unfolding changed_by
    store-done p =
        rw (limit-fits (table_of ns n) (listed-count l).0) (λ i. record { number = 0; value = 0; chart = store-chart p i })
