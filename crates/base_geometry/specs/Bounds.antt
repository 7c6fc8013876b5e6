-- The bounding boxes that code works out.
-- Assumes nothing.
use Rattle.spec_plane.specs.Box.{Box}
use Rattle.base_geometry.specs.declared.bounds.Bounds.{Bounds}

-- the box that bounds are
abbrev pub bounds_box : Bounds → Box
bounds_box b = record { left = b.left; top = b.top; right = b.right; bottom = b.bottom }
