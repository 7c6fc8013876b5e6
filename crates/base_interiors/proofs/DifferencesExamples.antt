-- Examples of the definitions: the differences of a large triangle, and D of its sides at the corners of another. No corner has an x
-- that is its y.
-- Assumes nothing.
use mathlib.Core.Path.{◌≡◌, refl}
use native.Mathlib.Omega.{arith}
use Rattle.spec_plane.specs.Point.{orient}
use Rattle.spec_plane.specs.Triangle.{Triangle}
use Rattle.base_interiors.specs.declared.differences.SideDifferences.{SideDifferences}
use Rattle.base_interiors.specs.declared.differences.Differences.{Differences}
use Rattle.base_interiors.specs.declared.corners.Offsets.{Offsets}
use Rattle.base_interiors.specs.declared.corners.Raised.{Raised}
use Rattle.base_interiors.specs.Differences.{high, twice_high, SideOf, OffsetOf, RaisedAt, SmallSide, SmallOffset, Near, ThirdSmall, DifferencesOf, SmallDifferences, Handed}
use Rattle.base_interiors.specs.Corners.{OffsetsBy, SmallOffsets, RaisedAll, NearAll, BelowAll, ThirdOf, AtA, SecondOf, Joined}

-- the first triangle, and what the test is handed of it
abbrev s : Triangle
s = record { a = record { x = 50000; y = 3 }; b = record { x = 65531; y = 40001 }; c = record { x = 7; y = 65535 } }

abbrev ab : SideDifferences
ab = record { dx = 81067; dy = 25538; base = 1101115097087 }

abbrev ca : SideDifferences
ca = record { dx = 115529; dy = 131068; base = 1091940581375 }

abbrev handed : Differences
handed = record { x = 15536; y = 65533; ab = ab; ca = ca; third = 3301552280831 }

-- the second, as it is seen from a, and D of ab, ca and bc at its corners
abbrev t : Triangle
t = record { a = record { x = 12; y = 60001 }; b = record { x = 61000; y = 9 }; c = record { x = 40000; y = 65001 } }

abbrev seen : Offsets
seen = record { a = record { x = 15548; y = 125534 }; b = record { x = 76536; y = 65542 }; c = record { x = 55536; y = 130534 } }

abbrev of_ab : Raised
of_ab = record { a = 1102442876737; b = 1099071742961; c = 1100921091713 }

abbrev of_ca : Raised
of_ca = record { a = 1099235294173; b = 1100232779733; c = 1102105752789 }

abbrev of_bc : Raised
of_bc = record { a = 1099874109921; b = 1102247758137; c = 1098525436329 }

-- D of its first side at the corners of the first triangle
abbrev of_second : Raised
of_second = record { a = 1098851349847; b = 1102222483623; c = 1099848835407 }

-- ---- one number

high-example : (high ≡ 1099511627776) × (twice_high ≡ 2199023255552)
high-example = (refl, refl)

side-example : SideOf s.a s.b ab × SideOf s.c s.a ca
side-example = (record { dx = refl; dy = refl; base = refl }, record { dx = refl; dy = refl; base = refl })

offset-example : OffsetOf s.a t.a seen.a
offset-example = record { x = refl; y = refl }

raised-example : RaisedAt ab seen.a of_ab.a
raised-example = record { at = refl }

-- D raised is D + 2^40 − 1: here D is 2931248962
raised-difference-example : of_ab.a ≡ 1102442876737
raised-difference-example = refl

-- bounds: the last numbers within, and the first beyond
small-side-example : SmallSide (record { dx = 131071; dy = 131071; base = 1090921824255 }) × SmallSide (record { dx = 0; dy = 0; base = 1108101562367 })
small-side-example = (record { dx = omega arith; dy = omega arith; low = omega arith; high = omega arith }, record { dx = omega arith; dy = omega arith; low = omega arith; high = omega arith })

small-dx-example : SmallSide (record { dx = 131072; dy = 5; base = 1100000000000 }) → ⊥
small-dx-example h = omega (arith, h.dx)

small-dy-example : SmallSide (record { dx = 5; dy = 131072; base = 1100000000000 }) → ⊥
small-dy-example h = omega (arith, h.dy)

small-low-example : SmallSide (record { dx = 5; dy = 6; base = 1090921824254 }) → ⊥
small-low-example h = omega (arith, h.low)

small-high-example : SmallSide (record { dx = 5; dy = 6; base = 1108101562368 }) → ⊥
small-high-example h = omega (arith, h.high)

small-offset-example : SmallOffset (record { x = 131071; y = 0 }) × SmallOffset (record { x = 0; y = 131071 })
small-offset-example = (record { x = omega arith; y = omega arith }, record { x = omega arith; y = omega arith })

small-x-example : SmallOffset (record { x = 131072; y = 7 }) → ⊥
small-x-example h = omega (arith, h.x)

small-y-example : SmallOffset (record { x = 7; y = 131072 }) → ⊥
small-y-example h = omega (arith, h.y)

near-example : Near 1030792151040 × Near 1168231104512
near-example = (record { low = omega arith; high = omega arith }, record { low = omega arith; high = omega arith })

near-low-example : Near 1030792151039 → ⊥
near-low-example h = omega (arith, h.low)

near-high-example : Near 1168231104513 → ⊥
near-high-example h = omega (arith, h.high)

third-small-example : ThirdSmall 3229815406590 × ThirdSmall 3367254360062
third-small-example = (record { low = omega arith; high = omega arith }, record { low = omega arith; high = omega arith })

third-low-example : ThirdSmall 3229815406589 → ⊥
third-low-example h = omega (arith, h.low)

third-high-example : ThirdSmall 3367254360063 → ⊥
third-high-example h = omega (arith, h.high)

-- ---- what is handed

differences-example : DifferencesOf s handed
unfolding orient
differences-example = record { x = refl; y = refl; ab = side-example.0; ca = side-example.1; third = refl }

small-example : SmallDifferences handed
small-example = record {
  x = omega arith;
  y = omega arith;
  ab = record { dx = omega arith; dy = omega arith; low = omega arith; high = omega arith };
  ca = record { dx = omega arith; dy = omega arith; low = omega arith; high = omega arith };
  third = record { low = omega arith; high = omega arith };
}

handed-example : Handed s handed
handed-example = (differences-example, small-example)

-- 65,536 less 0, for a corner on the left or on top
corner-example : SmallDifferences (record { x = 65536; y = 65536; ab = ab; ca = ca; third = handed.third })
corner-example = record { x = omega arith; y = omega arith; ab = small-example.ab; ca = small-example.ca; third = small-example.third }

corner-x-example : SmallDifferences (record { x = 65537; y = 3; ab = ab; ca = ca; third = handed.third }) → ⊥
corner-x-example h = omega (arith, h.x)

corner-y-example : SmallDifferences (record { x = 3; y = 65537; ab = ab; ca = ca; third = handed.third }) → ⊥
corner-y-example h = omega (arith, h.y)

-- ---- three corners

offsets-example : OffsetsBy handed.x handed.y t seen
offsets-example = record { ax = refl; ay = refl; bx = refl; by = refl; cx = refl; cy = refl }

offsets-small-example : SmallOffsets seen
offsets-small-example = record {
  a = record { x = omega arith; y = omega arith };
  b = record { x = omega arith; y = omega arith };
  c = record { x = omega arith; y = omega arith };
}

ab-example : RaisedAll ab seen of_ab
ab-example = record { a = record { at = refl }; b = record { at = refl }; c = record { at = refl } }

ca-example : RaisedAll ca seen of_ca
ca-example = record { a = record { at = refl }; b = record { at = refl }; c = record { at = refl } }

near-all-example : NearAll of_ab
near-all-example = record {
  a = record { low = omega arith; high = omega arith };
  b = record { low = omega arith; high = omega arith };
  c = record { low = omega arith; high = omega arith };
}

below-example : BelowAll (record { a = 2199023255551; b = 5; c = 2199023255550 })
below-example = record { a = omega arith; b = omega arith; c = omega arith }

below-a-example : BelowAll (record { a = 2199023255552; b = 5; c = 6 }) → ⊥
below-a-example h = omega (arith, h.a)

below-b-example : BelowAll (record { a = 5; b = 2199023255552; c = 6 }) → ⊥
below-b-example h = omega (arith, h.b)

below-c-example : BelowAll (record { a = 5; b = 6; c = 2199023255552 }) → ⊥
below-c-example h = omega (arith, h.c)

bc-example : ThirdOf handed.third of_ab of_ca of_bc
bc-example = record { a = refl; b = refl; c = refl }

at-a-example : AtA seen.a seen.b of_second.a
at-a-example = record { at = refl }

second-example : SecondOf seen.a seen.b of_ab.a of_ab.b of_ca.a of_ca.b of_second
second-example = record { a = at-a-example; b = refl; c = refl }

joined-example : Joined of_second 2198985373183
joined-example = record { at = refl; below = omega arith }
