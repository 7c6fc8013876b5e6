-- Triangles of a table that are marked and meet a window, on a list.
-- Assumes nothing.
use Rattle.std.specs.Prelude.{◌≡◌, Bool, false, ◌&&◌, List, ℕ, ◌≤◌, leb, length, get_or, drop}
use Rattle.theory_lists.specs.Lists.{Compacted}
use Rattle.spec_plane.specs.declared.Point.{Point}
use Rattle.spec_plane.specs.Box.{Box, Framed, triangle_meets}
use Rattle.spec_charts.specs.Table.{max_triangles, triangle_at, Drawn}

-- the point is in the box, its border included
abbrev pub within : Point → Box → Bool
within p b = leb b.left p.x && leb p.x b.right && leb b.top p.y && leb p.y b.bottom

-- triangle i is marked and meets the window
abbrev pub is_in : List ℕ → Box → List Bool → ℕ → Bool
is_in table w near i = get_or near i false && triangle_meets (triangle_at table i) w

-- n triangles are there, each with D > 0, with their marks, and the window is one of the grid that has points
pub record Listable (table : List ℕ) (w : Box) (near : List Bool) (n : ℕ) : Type 0 where
  pub drawn : Drawn table n
  pub marks : n ≤ length near
  pub framed : Framed w

-- the numbers below n that pass a test are the first c of a list, which is as before beyond its first 512 places
pub record Listed (f : ℕ → Bool) (before list : List ℕ) (n c : ℕ) : Type 0 where
  pub compact : Compacted f list n c
  pub same : length list ≡ length before
  pub beyond : drop max_triangles list ≡ drop max_triangles before
