-- The doubled area of a triangle with D > 0.
-- Assumes nothing.
use mathlib.Core.Path.{◌≡◌, sym, ◌∙◌}
use mathlib.Core.Bool.{true}
use Prim.Native.Nat.{ℕ, ◌-◌, ◌<◌}
use native.Mathlib.Omega.{arith}
use borrow.Author.Tests.{ltb-true}
use lib.IntN.{pos, ◌-ℤ◌}
use Rattle.spec_plane.specs.Point.{orient}
use Rattle.spec_plane.specs.Triangle.{Triangle, proper, doubled_area}
use Rattle.spec_plane.proofs.Difference.{Diff, diff, diff-above, diff-nat_abs}

-- the higher sum less the lower one
pub doubled_area-value : (t : Triangle) (h l : ℕ) → pos h -ℤ pos l ≡ orient t.a t.b t.c → proper t ≡ true
    → (l < h) × (h - l ≡ doubled_area t)
unfolding proper doubled_area
doubled_area-value t h l e p =
    let d : Diff (orient t.a t.b t.c) h l = rw e at (diff h l) in
    let low = ltb-true l h (sym (diff-above d) ∙ p) in
    (low, omega (arith, diff-nat_abs d))
