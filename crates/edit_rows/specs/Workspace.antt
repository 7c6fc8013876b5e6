-- What an edit of a plain table works on.
-- Assumes nothing.
use Rattle.std.specs.Prelude.{List, ℕ, ◌*◌, ◌≤◌, length}
use Rattle.spec_charts.specs.Table.{max_triangles, numbers_per_triangle, table_length}

-- the first n triangles of a table, at most 512 and all of them there, and a scratch table with room for a full one
pub record Workspace (ns : List ℕ) (n : ℕ) (out : List ℕ) : Type 0 where
  pub few : n ≤ max_triangles
  pub room : numbers_per_triangle * n ≤ length ns
  pub scratch : table_length ≤ length out
