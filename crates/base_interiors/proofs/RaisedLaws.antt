-- D from coordinate differences, raised: n + 1 is D and 2^40.
-- The idea: D is linear in each of its points. So D of a side is a sum of two products of differences; D of bc is what D of ab and of ca
-- leave of the doubled area; and D of another triangle's side changes from corner a to b by what D of ab has at the ends of that side.
-- Assumes nothing.
use mathlib.Core.Path.{◌≡◌, sym, ◌∙◌, ap, ap₂}
use mathlib.Core.Bool.{◌||◌}
use Prim.Native.Nat.{ℕ, suc, ◌+◌, ◌*◌}
use native.Mathlib.Omega.{arith}
use lib.Bits.{bit_or}
use lib.Dec.{leb}
use lib.IntN.{ℤ, pos, negsuc, ◌-ℤ◌}
use lib.Signed.{lt_z}
use Rattle.theory_lists.proofs.Reflects.{reflects-leb, reflects-ltb, reflects-iff}
use Rattle.theory_lists.proofs.IndexLaws.{reflects-same}
use Rattle.spec_plane.specs.declared.Point.{Point}
use Rattle.spec_plane.specs.Point.{orient}
use Rattle.spec_plane.specs.Triangle.{Triangle}
use Rattle.spec_plane.specs.Interior.{some_corner_inner}
use Rattle.spec_plane.proofs.Difference.{Diff, diff, diff-unique, diff-shift}
use Rattle.spec_plane.proofs.OrientLaws.{orient_high, orient_low, orient-difference, orient-positive}
use Rattle.base_interiors.specs.declared.differences.SideDifferences.{SideDifferences}
use Rattle.base_interiors.specs.declared.differences.Offset.{Offset}
use Rattle.base_interiors.specs.declared.corners.Raised.{Raised}
use Rattle.base_interiors.specs.Differences.{high, SideOf, OffsetOf, RaisedAt}
use Rattle.base_interiors.specs.Corners.{AtA, Joined}
use Rattle.base_interiors.proofs.HighLaws.{or-high}

-- n is D(p,q,r), raised
pub record IsRaised (p q r : Point) (n : ℕ) : Type 0 where
  pub at : orient_high p q r + high ≡ suc n + orient_low p q r

-- so it is high where D > 0
pub raised-positive : {p q r : Point} {n : ℕ} → IsRaised p q r n → leb high n ≡ lt_z (pos 0) (orient p q r)
raised-positive {p} {q} {r} {n} e =
    reflects-same (reflects-leb high n) (reflects-iff (λ h. omega (arith, e.at)) (λ h. omega (arith, e.at)) (reflects-ltb (orient_low p q r) (orient_high p q r)))
    ∙ sym (orient-positive p q r)

-- ---- offsets

-- by 65,536 less the coordinates of a
pub offset-from : {a r : Point} {o : Offset} (x y : ℕ) → x + a.x ≡ 65536 → y + a.y ≡ 65536 → o.x ≡ r.x + x → o.y ≡ r.y + y → OffsetOf a r o
offset-from x y e f g h = record { x = omega arith; y = omega arith }

-- ---- D of a side

-- two products of differences are D at r, less D at the point o from which r is seen
side-sums : (px py qx qy ox oy rx ry dx dy x y base n : ℕ) → dx + px ≡ qx + 65536 → dy + qy ≡ py + 65536
    → x + ox ≡ rx + 65536 → y + oy ≡ ry + 65536 → base + 65536 * (dx + dy) ≡ 1108101562367
    → n + 65536 * (x + y) ≡ dx * y + dy * x + base
    → (qx * ry + qy * px + py * rx) + (qx * py + px * oy + qy * ox) + 1099511627776
    ≡ suc n + (qx * py + px * ry + qy * rx) + (qx * oy + qy * px + py * ox)
side-sums px py qx qy ox oy rx ry dx dy x y base n e f g h b k =
    omega (arith, ap (λ m. m * y) e, ap (λ m. px * m) h, ap (λ m. qx * m) h, ap (λ m. m * x) f, ap (λ m. qy * m) g, ap (λ m. py * m) g)

-- so where o is on the line of the side, D at o being 0, they are D at r
raised-from : {p q o r : Point} {d : SideDifferences} {f : Offset} {n : ℕ} → orient_high p q o ≡ orient_low p q o
    → SideOf p q d → OffsetOf o r f → RaisedAt d f n → IsRaised p q r n
raised-from {p} {q} {o} {r} {d} {f} {n} e s g k = record {
  at = omega (arith, e, side-sums p.x p.y q.x q.y o.x o.y r.x r.y d.dx d.dy f.x f.y d.base n s.dx s.dy g.x g.y s.base k.at);
}

-- as from either end
pub raised-from-start : {p q r : Point} {d : SideDifferences} {o : Offset} {n : ℕ} → SideOf p q d → OffsetOf p r o → RaisedAt d o n → IsRaised p q r n
raised-from-start = raised-from (omega arith)

pub raised-from-end : {p q r : Point} {d : SideDifferences} {o : Offset} {n : ℕ} → SideOf p q d → OffsetOf q r o → RaisedAt d o n → IsRaised p q r n
raised-from-end = raised-from (omega arith)

-- ---- D of bc

-- two differences that are one integer
same-difference : {z : ℤ} {h l k m : ℕ} → Diff z h l → Diff z k m → h + m ≡ k + l
same-difference {z = pos n} d e = omega (arith, d.at, e.at)
same-difference {z = negsuc n} d e = omega (arith, d.at, e.at)

-- a difference that is D, as sums
pub difference-sums : (p q r : Point) (h l : ℕ) → pos h -ℤ pos l ≡ orient p q r → h + orient_low p q r ≡ orient_high p q r + l
difference-sums p q r h l e = same-difference (rw e at (diff h l)) (orient-difference p q r)

-- the doubled area, raised three times
pub area-raised : {a b c : Point} {n : ℕ} → IsRaised a b c n → pos (n + 2199023255550) -ℤ pos 3298534883325 ≡ orient a b c
area-raised {a} {b} {c} {n} i =
    diff-unique (diff (n + 2199023255550) 3298534883325) (diff-shift _ _ (orient-difference a b c) (omega (arith, i.at)))

-- less D of ab and D of ca, it is D of bc
pub raised-third : {a b c r : Point} {u w third n : ℕ} → IsRaised a b r u → IsRaised c a r w → pos third -ℤ pos 3298534883325 ≡ orient a b c
    → n + (u + w) ≡ third → IsRaised b c r n
raised-third {a} {b} {c} {r} {third = third} i j e f = record { at = omega (arith, i.at, j.at, difference-sums a b c third 3298534883325 e) }

-- ---- D of a side of another triangle

at-a-sums : (ax ay px py qx qy ux uy vx vy n : ℕ) → ux + ax ≡ px + 65536 → uy + ay ≡ py + 65536 → vx + ax ≡ qx + 65536 → vy + ay ≡ qy + 65536
    → n + (uy * vx + 65536 * ux + 65536 * vy) ≡ ux * vy + 65536 * vx + 65536 * uy + 1099511627775
    → (qx * ay + qy * px + py * ax) + 1099511627776 ≡ suc n + (qx * py + px * ay + qy * ax)
at-a-sums ax ay px py qx qy ux uy vx vy n e f g h k =
    omega (arith, ap (λ m. m * vy) e, ap (λ m. px * m) h, ap (λ m. ax * m) h, ap (λ m. m * vx) f, ap (λ m. py * m) g, ap (λ m. ay * m) g)

pub raised-at-a : {a p q : Point} {u v : Offset} {n : ℕ} → OffsetOf a p u → OffsetOf a q v → AtA u v n → IsRaised p q a n
raised-at-a {a} {p} {q} {u} {v} {n} f g k = record {
  at = at-a-sums a.x a.y p.x p.y q.x q.y u.x u.y v.x v.y n f.x f.y g.x g.y k.at;
}

-- from a to b, and from a to c
pub raised-at-b : {a b p q : Point} {n m u v : ℕ} → IsRaised p q a n → IsRaised a b p u → IsRaised a b q v → m + v ≡ n + u → IsRaised p q b m
raised-at-b i j k e = record { at = omega (arith, i.at, j.at, k.at) }

pub raised-at-c : {a c p q : Point} {n m u v : ℕ} → IsRaised p q a n → IsRaised c a p u → IsRaised c a q v → m + u ≡ n + v → IsRaised p q c m
raised-at-c i j k e = record { at = omega (arith, i.at, j.at, k.at) }

-- ---- three corners

-- D of the side from p to q at the corners of t, raised
pub record RaisedCorners (p q : Point) (t : Triangle) (n : Raised) : Type 0 where
  pub a : IsRaised p q t.a n.a
  pub b : IsRaised p q t.b n.b
  pub c : IsRaised p q t.c n.c

-- joined, they say whether some corner has D > 0
pub corners-say : {p q : Point} {t : Triangle} {n : Raised} {j : ℕ} → RaisedCorners p q t n → Joined n j → leb high j ≡ some_corner_inner p q t
unfolding some_corner_inner
corners-say {n = n} i k =
    ap (leb high) k.at
    ∙ or-high (bit_or n.a n.b) n.c
    ∙ ap₂ ◌||◌ (or-high n.a n.b ∙ ap₂ ◌||◌ (raised-positive i.a) (raised-positive i.b)) (raised-positive i.c)
