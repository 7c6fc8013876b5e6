-- The corner of a box at which D is largest: the box is on the outer side exactly when that corner is.
-- Assumes nothing.
use mathlib.Core.Path.{◌≡◌, refl, sym, ◌∙◌, ap, ap₂}
use mathlib.Core.Bool.{Bool, true, false, cond}
use Prim.Native.Nat.{ℕ, ◌+◌, ◌*◌, ◌-◌, ◌≤◌}
use native.Mathlib.Omega.{arith}
use lib.Dec.{leb, ltb}
use lib.IntN.{pos, ◌-ℤ◌}
use lib.Signed.{lt_z}
use Rattle.spec_plane.specs.declared.Point.{Point}
use Rattle.spec_plane.specs.Point.{orient}
use Rattle.spec_plane.specs.Box.{Box, Framed, all_outer}
use Rattle.spec_plane.proofs.Difference.{diff, diff-below}
use Rattle.spec_plane.proofs.ExtremeLaws.{OnGrid, mirror, far, steep_x, steep_y, offset, orient-mirrored, all_outer-extreme}

-- the end of low to high that is farther, as code chooses it
abbrev farther : ℕ → ℕ → ℕ → ℕ → ℕ
farther u v low high = cond (leb v u) high low

-- mirrored, it is the largest
far-chosen : (u v low high : ℕ) → mirror u v (farther u v low high) ≡ far u v low high
far-chosen u v low high = go (leb v u)
  where
    go : (b : Bool) → cond b (cond b high low) (65536 - cond b high low) ≡ cond b high (65536 - low)
    go true = refl
    go false = refl

chosen-most : (u v low high : ℕ) → low ≤ high → high ≤ 65536 → farther u v low high ≤ 65536
chosen-most u v low high h k = go (leb v u)
  where
    go : (b : Bool) → cond b high low ≤ 65536
    go true = k
    go false = omega arith

-- the corner at which D is largest
abbrev pub far_corner : Point → Point → Box → Point
far_corner p q b =
    record { x = farther p.y q.y b.left b.right; y = farther q.x p.x b.top b.bottom }

pub outer-corner : (p q : Point) → OnGrid p → (b : Box) → Framed b → (high low : ℕ) → pos high -ℤ pos low ≡ orient p q (far_corner p q b)
    → ltb high low ≡ all_outer p q b
outer-corner p q g b f high low e =
    let c = far_corner p q b in
    let x = far-chosen p.y q.y b.left b.right in
    let y = far-chosen q.x p.x b.top b.bottom in
    sym (diff-below (diff high low))
    ∙ ap (λ z. lt_z z (pos 0)) e
    ∙ diff-below (orient-mirrored p q c g (chosen-most p.y q.y b.left b.right f.wide f.right) (chosen-most q.x p.x b.top b.bottom f.tall f.bottom))
    ∙ ap₂ (λ m n. ltb (steep_x p q * m + steep_y p q * n) (offset p q)) x y
    ∙ sym (all_outer-extreme p q g b f)
