-- Document 02, wish 3: the coordinate differences of a triangle's sides, and D from them. A number that stands for D is raised, which
-- means D + 2^40 − 1: it is never negative, and D > 0 exactly where it is 2^40 or more.
-- Assumes nothing.
use Rattle.std.specs.Prelude.{◌≡◌, ℕ, ◌+◌, ◌*◌, ◌≤◌, pos, ◌-ℤ◌}
use Rattle.spec_plane.specs.declared.Point.{Point}
use Rattle.spec_plane.specs.Point.{orient}
use Rattle.spec_plane.specs.Triangle.{Triangle}
use Rattle.base_interiors.specs.declared.differences.SideDifferences.{SideDifferences}
use Rattle.base_interiors.specs.declared.differences.Differences.{Differences}
use Rattle.base_interiors.specs.declared.differences.Offset.{Offset}

-- 2^40: a raised number says D > 0 from here on
abbrev pub high : ℕ
high = 1099511627776

-- what no raised number reaches
abbrev pub twice_high : ℕ
twice_high = 2199023255552

-- the numbers are the coordinate differences of the side from p to q, qx − px and py − qy, each with 65,536 added, and what a raised D has
-- of them alone
pub record SideOf (p q : Point) (d : SideDifferences) : Type 0 where
  pub dx : d.dx + p.x ≡ q.x + 65536
  pub dy : d.dy + q.y ≡ p.y + 65536
  pub base : d.base + 65536 * (d.dx + d.dy) ≡ 1108101562367

-- the numbers are rx − ax and ry − ay, each with 65,536 added
pub record OffsetOf (a r : Point) (o : Offset) : Type 0 where
  pub x : o.x + a.x ≡ r.x + 65536
  pub y : o.y + a.y ≡ r.y + 65536

-- n is D raised, of a side with these differences, at a point with this offset from an end of the side
pub record RaisedAt (d : SideDifferences) (r : Offset) (n : ℕ) : Type 0 where
  pub at : n + 65536 * (r.x + r.y) ≡ d.dx * r.y + d.dy * r.x + d.base

-- differences of coordinates below 65,536, and the base that goes with them
pub record SmallSide (d : SideDifferences) : Type 0 where
  pub dx : d.dx ≤ 131071
  pub dy : d.dy ≤ 131071
  pub low : 1090921824255 ≤ d.base
  pub high : d.base ≤ 1108101562367

-- the offset of a point of the grid from another
pub record SmallOffset (o : Offset) : Type 0 where
  pub x : o.x ≤ 131071
  pub y : o.y ≤ 131071

-- a number is at most 2^36 away from 2^40, as every raised D of the grid is
pub record Near (n : ℕ) : Type 0 where
  pub low : 1030792151040 ≤ n
  pub high : n ≤ 1168231104512

-- a number is at most 2^36 away from three times 2^40 less 2, as every doubled area of the grid is that is raised three times
pub record ThirdSmall (n : ℕ) : Type 0 where
  pub low : 3229815406590 ≤ n
  pub high : n ≤ 3367254360062

-- what the test of a pair is handed of its first triangle: where a is, the differences of ab and of ca, and the doubled area, raised three
-- times
pub record DifferencesOf (s : Triangle) (d : Differences) : Type 0 where
  pub x : d.x + s.a.x ≡ 65536
  pub y : d.y + s.a.y ≡ 65536
  pub ab : SideOf s.a s.b d.ab
  pub ca : SideOf s.c s.a d.ca
  pub third : pos d.third -ℤ pos 3298534883325 ≡ orient s.a s.b s.c

-- those of a triangle of the grid
pub record SmallDifferences (d : Differences) : Type 0 where
  pub x : d.x ≤ 65536
  pub y : d.y ≤ 65536
  pub ab : SmallSide d.ab
  pub ca : SmallSide d.ca
  pub third : ThirdSmall d.third

-- what is handed is that of s, a triangle of the grid
abbrev pub Handed : Triangle → Differences → Type 0
Handed s d = DifferencesOf s d × SmallDifferences d
