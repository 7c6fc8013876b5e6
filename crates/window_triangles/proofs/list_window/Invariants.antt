-- Of the first i triangles, those that are in the window are listed.
use Rattle.base_geometry.specs.Bounds.{bounds_box}
use Rattle.window_triangles.specs.Listed.{is_in, Listed}
use Rattle.window_triangles.proofs.list_window.Given as goal

abbrev pub invariant-loop-i : goal.invariant-loop-i
invariant-loop-i l = Listed (is_in l.table (bounds_box l.w) l.near) l.initial.list l.list l.i l.c
