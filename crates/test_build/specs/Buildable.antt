-- What can be built.
-- Assumes nothing.
use Rattle.std.specs.Prelude.{◌≡◌, Bool, ◌&&◌, List, ℕ, ◌+◌, ◌/◌, ◌%◌, leb, eqb, length, Option}
use Rattle.std.specs.Option.{unwrap_or}
use Rattle.theory_lists.specs.Lists.{all}
use Rattle.spec_plane.specs.Triangle.{proper}
use Rattle.spec_charts.specs.Table.{Table, numbers_per_triangle, table_length, table_of}
use Rattle.spec_charts.specs.Cells.{max_entries, entries_of}
use Rattle.spec_calls.specs.Lent.{Shown, Lent}
use Rattle.chart_index.specs.Lists.{ListedIn}

-- the numbers are whole triangles, at most 512, and the three lists have 16,384 places
unfoldable pub lengths_fit : List ℕ → List ℕ → List ℕ → List ℕ → Bool
lengths_fit table keys levels items =
    eqb (length table % numbers_per_triangle) 0
    && leb (length table) table_length
    && leb max_entries (length keys)
    && leb max_entries (length levels)
    && leb max_entries (length items)

-- and each triangle has D > 0
unfoldable pub buildable : List ℕ → List ℕ → List ℕ → List ℕ → Bool
buildable table keys levels items = lengths_fit table keys levels items && all (λ t. proper t) (table_of table (length table / numbers_per_triangle))

-- the same of what a caller lends, at entry
abbrev pub buildable_lent : Shown → Lent → Lent → Lent → Bool
buildable_lent table keys levels items = buildable table.entry.now keys.entry.now levels.entry.now items.entry.now

-- the answer where nothing can be built: a number of entries that no build answers
abbrev pub not_built : ℕ
not_built = max_entries + 2

-- the answer where the entries are too many: another such number
abbrev pub too_many : ℕ
too_many = max_entries + 1

-- what building a table answers and leaves in lists that a caller lends
pub record BuiltIn (table : Table) (r : ℕ) (keys levels items : Lent) : Type 0 where
  pub built : Option ℕ
  pub listed : ListedIn max_entries (entries_of table) built keys levels items
  pub answer : r ≡ unwrap_or built too_many
