-- D from two sums of products: what code computes, and what its tests mean.
-- Assumes nothing.
use mathlib.Core.Path.{◌≡◌, ◌∙◌, sym, ap}
use Prim.Native.Nat.{ℕ}
use lib.Dec.{eqb, ltb, leb}
use lib.IntN.{ℤ, pos, nat_abs, ◌-ℤ◌}
use lib.Signed.{lt_z, le_z}
use Rattle.spec_plane.specs.declared.Point.{Point}
use Rattle.spec_plane.specs.Point.{orient}
use Rattle.spec_plane.proofs.Difference.{diff, diff-unique, diff-above, diff-nonneg, diff-zero}
use Rattle.spec_plane.proofs.OrientLaws.{orient_high, orient_low, orient-difference}

-- the difference of the two sums is D
pub sums-orient : (p q r : Point) {h l : ℕ} → h ≡ orient_high p q r → l ≡ orient_low p q r → pos h -ℤ pos l ≡ orient p q r
sums-orient p q r {h} {l} eh el = diff-unique (diff h l) (rw (eh, el) (orient-difference p q r))

-- the order of the two sums is the sign of their difference
pub sums-positive : {z : ℤ} (h l : ℕ) → pos h -ℤ pos l ≡ z → ltb l h ≡ lt_z (pos 0) z
sums-positive h l e = sym (diff-above (diff h l)) ∙ ap (lt_z (pos 0)) e

pub sums-nonneg : {z : ℤ} (h l : ℕ) → pos h -ℤ pos l ≡ z → leb l h ≡ le_z (pos 0) z
sums-nonneg h l e = sym (diff-nonneg (diff h l)) ∙ ap (le_z (pos 0)) e

pub sums-zero : {z : ℤ} (h l : ℕ) → pos h -ℤ pos l ≡ z → eqb l h ≡ eqb (nat_abs z) 0
sums-zero h l e = sym (diff-zero (diff h l)) ∙ ap (λ w. eqb (nat_abs w) 0) e
