-- D, raised, at three corners at a time.
-- Assumes nothing.
use Rattle.std.specs.Prelude.{◌≡◌, ℕ, ◌+◌, ◌*◌, ◌<◌}
use Rattle.std.specs.Int.Bits.{bit_or}
use Rattle.spec_plane.specs.Triangle.{Triangle}
use Rattle.base_interiors.specs.declared.differences.SideDifferences.{SideDifferences}
use Rattle.base_interiors.specs.declared.differences.Offset.{Offset}
use Rattle.base_interiors.specs.declared.corners.Offsets.{Offsets}
use Rattle.base_interiors.specs.declared.corners.Raised.{Raised}
use Rattle.base_interiors.specs.Differences.{SmallOffset, RaisedAt, Near, twice_high}

-- the offsets of a triangle's corners, by 65,536 less the coordinates of a
pub record OffsetsBy (x y : ℕ) (t : Triangle) (r : Offsets) : Type 0 where
  pub ax : r.a.x ≡ t.a.x + x
  pub ay : r.a.y ≡ t.a.y + y
  pub bx : r.b.x ≡ t.b.x + x
  pub by : r.b.y ≡ t.b.y + y
  pub cx : r.c.x ≡ t.c.x + x
  pub cy : r.c.y ≡ t.c.y + y

-- three offsets of points of the grid
pub record SmallOffsets (r : Offsets) : Type 0 where
  pub a : SmallOffset r.a
  pub b : SmallOffset r.b
  pub c : SmallOffset r.c

-- D of a side at three corners
pub record RaisedAll (d : SideDifferences) (r : Offsets) (n : Raised) : Type 0 where
  pub a : RaisedAt d r.a n.a
  pub b : RaisedAt d r.b n.b
  pub c : RaisedAt d r.c n.c

-- three numbers near 2^40
pub record NearAll (n : Raised) : Type 0 where
  pub a : Near n.a
  pub b : Near n.b
  pub c : Near n.c

-- three numbers of at most 41 bits
pub record BelowAll (n : Raised) : Type 0 where
  pub a : n.a < twice_high
  pub b : n.b < twice_high
  pub c : n.c < twice_high

-- D of the third side at three corners: what those of the other two leave of the sum
pub record ThirdOf (sum : ℕ) (ab ca n : Raised) : Type 0 where
  pub a : n.a + (ab.a + ca.a) ≡ sum
  pub b : n.b + (ab.b + ca.b) ≡ sum
  pub c : n.c + (ab.c + ca.c) ≡ sum

-- D of the side from p to q, by their offsets from a, at a
pub record AtA (p q : Offset) (n : ℕ) : Type 0 where
  pub at : n + (p.y * q.x + 65536 * p.x + 65536 * q.y) ≡ p.x * q.y + 65536 * q.x + 65536 * p.y + 1099511627775

-- D of the side from p to q of the second triangle at a, b and c, by what the sides ab and ca have at p and q
pub record SecondOf (p q : Offset) (ab_p ab_q ca_p ca_q : ℕ) (n : Raised) : Type 0 where
  pub a : AtA p q n.a
  pub b : n.b + ab_q ≡ n.a + ab_p
  pub c : n.c + ca_p ≡ n.a + ca_q

-- three numbers joined: high where one of them is
pub record Joined (n : Raised) (j : ℕ) : Type 0 where
  pub at : j ≡ bit_or (bit_or n.a n.b) n.c
  pub below : j < twice_high
