-- Document 01, "Marked cases": one table of rows, each what the definitions give beside what the document states, and one
-- statement that covers the rows, by computation. Numbers, points, entries and triangles are written out as numbers.
-- Assumes nothing.
use mathlib.Core.Path.{◌≡◌, refl}
use mathlib.Core.List.{List, [], ◌∷◌, ◌++◌, map}
use Prim.Native.Nat.{ℕ, ◌*◌}
use lib.ListN.{length}
use Rattle.spec_plane.specs.Triangle.{Triangle}
use Rattle.spec_squares.specs.Square.{z_order}
use Rattle.spec_charts.specs.Table.{Table, table_numbers}
use Rattle.spec_charts.specs.Cells.{cells, cell_entries, entries_of}
use Rattle.spec_charts.specs.Edits.{load, insert, take_out, flip, event_on, plain_table}
use Rattle.spec_charts.specs.Reading.{total_area}
use Rattle.spec_charts.proofs.Evaluate.{evaluate}
use Rattle.spec_charts.proofs.Written.{at, entry_numbers, cell_numbers, outcome_numbers, located_in, overlaid}

-- what the definitions give, and what document 01 states
pub record Row : Type 0 where
  pub given : List ℕ
  pub stated : List ℕ

-- "U is (0,0) (65535,0) (0,65535)"
abbrev U : Triangle
U = record { a = at 0 0; b = at 65535 0; c = at 0 65535 }

-- "V is (65535,65535) (0,65535) (65535,0)"
abbrev Vt : Triangle
Vt = record { a = at 65535 65535; b = at 0 65535; c = at 65535 0 }

-- "UV has U as 0, V as 1"
abbrev UV : Table
UV = U ∷ Vt ∷ []

-- "q = 268,435,456"
abbrev q : ℕ
q = 268435456

-- cases 1 to 10, in order; case 6 with the positions of wish 1, case 9 as wish 4 has it
abbrev marked_cases : List Row
marked_cases =
    record { given = z_order (at 3 1) ∷ z_order (at 2 3) ∷ z_order (at 0 32768) ∷ []; stated = 7 ∷ 14 ∷ 2147483648 ∷ [] }
    ∷ record { given = entry_numbers (entries_of []); stated = 0 ∷ 0 ∷ 65535 ∷ [] }
    ∷ record {
      given = entry_numbers (entries_of (U ∷ []));
      stated = 0 ∷ 2 ∷ 0 ∷ q ∷ 2 ∷ 0 ∷ 2 * q ∷ 2 ∷ 0 ∷ 3 * q ∷ 2 ∷ 0 ∷ 4 * q ∷ 1 ∷ 0 ∷ 8 * q ∷ 1 ∷ 0 ∷ 12 * q ∷ 1 ∷ 65535 ∷ [];
    }
    ∷ record {
      given = entry_numbers (entries_of (Vt ∷ []));
      stated = 0 ∷ 1 ∷ 0 ∷ 4 * q ∷ 1 ∷ 0 ∷ 8 * q ∷ 1 ∷ 0 ∷ 12 * q ∷ 1 ∷ 0 ∷ [];
    }
    ∷ record { given = cell_numbers (cells UV); stated = cell_numbers (cells (U ∷ [])) }
    ∷ record { given = map (λ s. length (cell_entries UV s)) (cells UV); stated = 1 ∷ 1 ∷ 1 ∷ 2 ∷ 2 ∷ 2 ∷ 1 ∷ [] }
    ∷ record { given = located_in (U ∷ []) (at 32768 32767); stated = 1 ∷ 0 ∷ 2 ∷ [] }
    ∷ record { given = located_in (U ∷ []) (at 32768 32768); stated = 0 ∷ 7 ∷ [] }
    ∷ record { given = located_in UV (at 65535 0); stated = 1 ∷ 0 ∷ 5 ∷ [] }
    ∷ record { given = overlaid (U ∷ []) (Vt ∷ []); stated = 0 ∷ 0 ∷ 7 ∷ [] }
    ∷ record { given = overlaid (U ∷ []) (U ∷ []); stated = 0 ∷ 1 ∷ 7 ∷ 0 ∷ 0 ∷ [] }
    ∷ record {
      given = outcome_numbers (event_on (flip 0 1) UV);
      stated = 0 ∷ 65535 ∷ 0 ∷ 65535 ∷ 65535 ∷ 0 ∷ 0 ∷ 65535 ∷ 65535 ∷ 0 ∷ 65535 ∷ 0 ∷ 0 ∷ [];
    }
    ∷ record {
      given = total_area UV ∷ total_area (plain_table (load (table_numbers UV) ∷ flip 0 1 ∷ [])) ∷ [];
      stated = 8589672450 ∷ 8589672450 ∷ [];
    }
    ∷ record {
      given =
          outcome_numbers (event_on (flip 0 0) UV)
          ++ outcome_numbers (event_on (flip 0 0) (plain_table (load (table_numbers UV) ∷ flip 0 1 ∷ [])));
      stated = 9 ∷ 0 ∷ 9 ∷ 0 ∷ [];
    }
    ∷ record {
      given = table_numbers (plain_table (load (table_numbers (U ∷ [])) ∷ insert (at 10000 10000) ∷ take_out (at 10000 10000) ∷ []));
      stated = table_numbers (U ∷ []);
    }
    ∷ record {
      given = outcome_numbers (event_on (take_out (at 10000 10000)) (plain_table (load (table_numbers (U ∷ [])) ∷ insert (at 10000 10000) ∷ [])));
      stated = 0 ∷ table_numbers (U ∷ []);
    }
    ∷ record {
      given = outcome_numbers (event_on (insert (at 32768 32767)) (U ∷ []));
      stated = 0 ∷ 65535 ∷ 0 ∷ 32768 ∷ 32767 ∷ 0 ∷ 0 ∷ 32768 ∷ 32767 ∷ 0 ∷ 65535 ∷ 0 ∷ 0 ∷ [];
    }
    ∷ record { given = outcome_numbers (event_on (load (0 ∷ 0 ∷ 5 ∷ 5 ∷ 9 ∷ 9 ∷ [])) []); stated = 5 ∷ 0 ∷ [] }
    ∷ record { given = outcome_numbers (event_on (load (0 ∷ 0 ∷ 5 ∷ 5 ∷ 9 ∷ 9 ∷ 1 ∷ [])) []); stated = 4 ∷ 0 ∷ [] }
    ∷ []

-- every row gives what document 01 states
pub marked-cases : map (λ r. r.given) marked_cases ≡ map (λ r. r.stated) marked_cases
unfolding evaluate
marked-cases = refl
