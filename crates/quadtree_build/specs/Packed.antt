-- What building a table leaves in a list.
-- Assumes nothing.
use Rattle.std.specs.Prelude.{◌≡◌, List, map, ℕ, ◌≤◌, ◌<◌, length}
use Rattle.std.specs.Prelude.{Option, Some, None}
use Rattle.std.proofs.lemmas.List.Edits.{sets}
use Rattle.theory_orthtree.specs.Entries.{Entry}
use Rattle.spec_charts.specs.Cells.{max_entries}
use Rattle.base_entries.specs.Packed.{packed}

-- the most triangles of a small table
abbrev pub few_triangles : ℕ
few_triangles = 32

-- the entries that a small table mostly does not exceed
abbrev pub few_entries : ℕ
few_entries = 1024

-- a list has room for `most` entries, and so many a chart may have
pub record EntryRoom (most : ℕ) (out : List ℕ) : Type 0 where
  pub places : most ≤ length out
  pub limit : most ≤ max_entries

-- building gave the number of the entries es and left them, packed, in a list, or gave none where they were more than `most`
pub record Packed (most : ℕ) (es : List Entry) (r : Option ℕ) (l l' : List ℕ) : Type 0 where
  pub room : most ≤ length l
  pub fits : length es ≤ most → (r ≡ Some (length es)) × (l' ≡ sets l 0 (map (λ e. packed e) es))
  pub over : most < length es → r ≡ None
