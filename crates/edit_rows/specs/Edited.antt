-- How an edit of a plain table went, with the numbers that the scratch table holds.
-- Assumes nothing.
use Rattle.std.specs.Prelude.{List, ℕ, Result, Ok, Err}
use Rattle.spec_charts.specs.Table.{Table, table_of}
use Rattle.spec_charts.specs.declared.Refusal.{Refusal}
use Rattle.spec_charts.specs.Refusals.{Outcome, refused, done}

-- done with the table of the first m rows of the scratch table, or refused
abbrev pub edited_outcome : Result ℕ Refusal → List ℕ → Outcome Table
edited_outcome (Ok m) ns = done (table_of ns m)
edited_outcome (Err r) ns = refused r

-- how many triangles the table made has; 0 where none is made
abbrev pub edited_count : Result ℕ Refusal → ℕ
edited_count (Ok m) = m
edited_count (Err r) = 0
