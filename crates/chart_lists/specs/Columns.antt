-- The three entry lists of a chart side by side, and what is written into them.
-- Assumes nothing.
use Rattle.std.specs.Prelude.{◌≡◌, List, map, ℕ, replicate}
use Rattle.std.proofs.lemmas.List.Edits.{sets}
use Rattle.spec_charts.specs.Cells.{max_entries}
use Rattle.spec_calls.specs.Buffers.{padded}
use Rattle.spec_calls.specs.Lent.{Lent}
use Rattle.base_entries.specs.Packed.{key_of, level_of, item_of}

-- entries by column: a list of keys, one of levels, one of items
pub record Columns : Type 0 where
  pub keys : List ℕ
  pub levels : List ℕ
  pub items : List ℕ

-- the columns of packed entries
abbrev pub unpacked : List ℕ → Columns
unpacked xs = record { keys = map key_of xs; levels = map level_of xs; items = map item_of xs }

-- n zeros in each column
abbrev pub zeros : ℕ → Columns
zeros n = record { keys = replicate n 0; levels = replicate n 0; items = replicate n 0 }

-- the columns that are lent, at entry
abbrev pub at_entry : Lent → Lent → Lent → Columns
at_entry keys levels items = record { keys = keys.entry.now; levels = levels.entry.now; items = items.entry.now }

-- and at exit
abbrev pub at_exit : Lent → Lent → Lent → Columns
at_exit keys levels items = record { keys = keys.exit.now; levels = levels.exit.now; items = items.exit.now }

-- the columns `new` are stored from place k on
pub record Stored (k : ℕ) (new before after : Columns) : Type 0 where
  pub keys : after.keys ≡ sets before.keys k new.keys
  pub levels : after.levels ≡ sets before.levels k new.levels
  pub items : after.items ≡ sets before.items k new.items

-- the columns are `used`, and "each written list holds 0 after its last used place"
pub record Filled (used before after : Columns) : Type 0 where
  pub keys : after.keys ≡ padded max_entries used.keys before.keys
  pub levels : after.levels ≡ padded max_entries used.levels before.levels
  pub items : after.items ≡ padded max_entries used.items before.items
