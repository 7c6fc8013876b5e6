-- The three entry lists of a chart with the entries of a table.
-- Assumes nothing.
use Rattle.std.specs.Prelude.{◌≡◌, List, map, ℕ, ◌≤◌, ◌<◌, length, Option, Some, None}
use Rattle.theory_orthtree.specs.Entries.{Entry}
use Rattle.spec_charts.specs.Cells.{max_entries}
use Rattle.spec_calls.specs.Buffers.{padded}
use Rattle.spec_calls.specs.Lent.{Lent}

-- what building a table with the entries es leaves: their count and the three lists, "0 after its last used place", or none where
-- they are more than `most`, and the lists as they were
pub record ListedWithin (most : ℕ) (es : List Entry) (r : Option ℕ) (keys keys' levels levels' items items' : List ℕ) : Type 0 where
  pub fits : length es ≤ most → r ≡ Some (length es)
  pub fits_keys : length es ≤ most → keys' ≡ padded max_entries (map (λ e. e.key) es) keys
  pub fits_levels : length es ≤ most → levels' ≡ padded max_entries (map (λ e. e.level) es) levels
  pub fits_items : length es ≤ most → items' ≡ padded max_entries (map (λ e. e.item) es) items
  pub over : most < length es → r ≡ None
  pub over_keys : most < length es → keys' ≡ keys
  pub over_levels : most < length es → levels' ≡ levels
  pub over_items : most < length es → items' ≡ items

-- the same of lists that a caller lends
abbrev pub ListedIn : ℕ → List Entry → Option ℕ → Lent → Lent → Lent → Type 0
ListedIn most es r keys levels items =
    ListedWithin most es r keys.entry.now keys.exit.now levels.entry.now levels.exit.now items.entry.now items.exit.now

-- the same with the limit of a chart
abbrev pub Listed : List Entry → Option ℕ → List ℕ → List ℕ → List ℕ → List ℕ → List ℕ → List ℕ → Type 0
Listed es r keys keys' levels levels' items items' = ListedWithin max_entries es r keys keys' levels levels' items items'
