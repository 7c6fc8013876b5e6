-- A triangle with a corner in a box meets it: a triangle with D > 0 holds its own corners.
-- Assumes nothing.
use mathlib.Core.Path.{◌≡◌}
use mathlib.Core.Bool.{Bool, true, false, ◌||◌}
use native.Mathlib.Omega.{arith}
use lib.Dec.{T, ltb→lt}
use Prim.Native.Nat.{◌≤◌}
use Rattle.theory_lists.proofs.Reflects.{reflects-and, reflects-leb, test-true}
use Rattle.spec_plane.specs.declared.Point.{Point}
use Rattle.spec_plane.specs.Triangle.{Triangle, proper, holds}
use Rattle.spec_plane.specs.Box.{Box, triangle_meets}
use Rattle.spec_plane.proofs.OrientLaws.{orient_low, orient_high, orient-positive, orient-nonneg}
use Rattle.laws_separation.proofs.Meets.{holds-meets}
use Rattle.window_triangles.specs.Listed.{within}

module _ (t : Triangle) (d : T (proper t)) where
  -- D > 0 as an order of two sums
  sums : orient_low t.a t.b t.c ≤ orient_high t.a t.b t.c
  unfolding proper
  sums = let h = ltb→lt (orient_low t.a t.b t.c) (orient_high t.a t.b t.c) (rw (orient-positive t.a t.b t.c) at d) in omega arith

  -- a point at which three sums are so is held
  held : (p : Point) → orient_low t.a t.b p ≤ orient_high t.a t.b p → orient_low t.b t.c p ≤ orient_high t.b t.c p
      → orient_low t.c t.a p ≤ orient_high t.c t.a p → T (holds t p)
  unfolding holds
  held p x y z =
      rw (orient-nonneg t.a t.b p, orient-nonneg t.b t.c p, orient-nonneg t.c t.a p)
      ((reflects-and (reflects-and (reflects-leb _ _) (reflects-leb _ _)) (reflects-leb _ _)).from ((x, y), z))

  held-a : T (holds t t.a)
  held-a = held t.a (omega arith) (omega (arith, sums)) (omega arith)

  held-b : T (holds t t.b)
  held-b = held t.b (omega arith) (omega arith) (omega (arith, sums))

  held-c : T (holds t t.c)
  held-c = held t.c (omega (arith, sums)) (omega arith) (omega arith)

  module _ (b : Box) where
    -- a point that it holds is in the box
    meets-by : (p : Point) → T (holds t p) → T (within p b) → T (triangle_meets t b)
    meets-by p h i =
        let r = (reflects-and (reflects-and (reflects-and (reflects-leb b.left p.x) (reflects-leb p.x b.right)) (reflects-leb b.top p.y)) (reflects-leb p.y b.bottom)).to i in
        holds-meets t b p d h r.0.0.0 r.0.0.1 r.0.1 r.1

    -- one of its corners is
    pub corner-meets : within t.a b || within t.b b || within t.c b ≡ true → triangle_meets t b ≡ true
    corner-meets e = test-true (go (within t.a b) (within t.b b) (within t.c b) (meets-by t.a held-a) (meets-by t.b held-b) (meets-by t.c held-c) e)
      where
        go : (x y z : Bool) {M : Type 0} → (T x → M) → (T y → M) → (T z → M) → x || y || z ≡ true → M
        go true y z f g h e = f tt
        go false true z f g h e = g tt
        go false false z f g h e = h (rw e tt)
