-- The test of a pair by the differences of its first triangle tells whether the two have a common interior point.
-- The idea: its numbers are D, raised, of the three sides of either triangle at the corners of the other.
-- Assumes nothing.
use mathlib.Core.Path.{◌≡◌, refl, sym, ◌∙◌, ap, ap₂, subst}
use mathlib.Core.Logic.{◌↔◌}
use mathlib.Core.Bool.{Bool, true, false, true≢false, ◌&&◌}
use mathlib.Core.List.{List}
use Prim.Native.Nat.{ℕ, ◌≤◌, ◌<◌}
use borrow.Author.Tests.{le-leb, lt-leb}
use lib.Bits.{bit_and, and_lt}
use lib.Dec.{T, leb}
use Rattle.spec_plane.specs.declared.Point.{Point}
use Rattle.spec_plane.specs.Triangle.{Triangle, corners, triangle_of, corner_at, proper}
use Rattle.spec_plane.specs.Interior.{some_corner_inner, no_side_separates, interiors_meet, CommonInterior}
use Rattle.laws_separation.proofs.Separation.{interiors-meet-iff}
use Rattle.base_interiors.specs.declared.differences.Differences.{Differences}
use Rattle.base_interiors.specs.declared.differences.Offset.{Offset}
use Rattle.base_interiors.specs.declared.corners.Offsets.{Offsets}
use Rattle.base_interiors.specs.declared.corners.Raised.{Raised}
use Rattle.base_interiors.specs.Differences.{high, OffsetOf, DifferencesOf, Handed}
use Rattle.base_interiors.specs.Corners.{OffsetsBy, RaisedAll, ThirdOf, SecondOf, Joined}
use Rattle.base_interiors.proofs.HighLaws.{and_high}
use Rattle.base_interiors.proofs.RaisedLaws.{IsRaised, RaisedCorners, offset-from, raised-from-start, raised-from-end, raised-third, raised-at-a, raised-at-b, raised-at-c, corners-say}

-- what the test answers: the computed test, and exactly whether there is a common interior point
pub record ToldExactly (s t : Triangle) (o : Bool) : Type 0 where
  pub computed : o ≡ interiors_meet s t
  pub exact : T (proper s) → T (proper t) → CommonInterior s t ↔ T o

told : {s t : Triangle} {o : Bool} → o ≡ interiors_meet s t → ToldExactly s t o
told {s} {t} e = record {
  computed = e;
  exact = λ p q. let k = interiors-meet-iff s t p q in (λ c. subst T (sym e) (k.0 c), λ h. k.1 (subst T e h));
}

-- "and" of the three sides of the first triangle, in the order in which they are tested, and of the second's
one-fails : (a b c d : Bool) → a ≡ false → false ≡ (a && b && c) && d
one-fails true b c d e = absurd (true≢false e)
one-fails false b c d e = refl

two-fail : (a b c d : Bool) → c && b ≡ false → false ≡ (a && b && c) && d
two-fail false b c d e = refl
two-fail true false c d e = refl
two-fail true true false d e = refl
two-fail true true true d e = absurd (true≢false e)

all_pass : (a b c d : Bool) → a ≡ true → c && b ≡ true → d ≡ (a && b && c) && d
all_pass false b c d e f = absurd (true≢false (sym e))
all_pass true true true d e f = refl
all_pass true true false d e f = absurd (true≢false (sym f))
all_pass true false true d e f = absurd (true≢false (sym f))
all_pass true false false d e f = absurd (true≢false (sym f))

module _ {s t : Triangle} {d : Differences} {r : Offsets} (of : DifferencesOf s d) (seen : OffsetsBy d.x d.y t r) where
  -- the corners of t as they are seen from a
  seen-a : OffsetOf s.a t.a r.a
  seen-a = offset-from d.x d.y of.x of.y seen.ax seen.ay

  seen_b : OffsetOf s.a t.b r.b
  seen_b = offset-from d.x d.y of.x of.y seen.bx seen.by

  seen-c : OffsetOf s.a t.c r.c
  seen-c = offset-from d.x d.y of.x of.y seen.cx seen.cy

  -- D of each side of s at the corners of t
  pub of-ab : {n : Raised} → RaisedAll d.ab r n → RaisedCorners s.a s.b t n
  of-ab k = record {
    a = raised-from-start of.ab seen-a k.a;
    b = raised-from-start of.ab seen_b k.b;
    c = raised-from-start of.ab seen-c k.c;
  }

  pub of-ca : {n : Raised} → RaisedAll d.ca r n → RaisedCorners s.c s.a t n
  of-ca k = record {
    a = raised-from-end of.ca seen-a k.a;
    b = raised-from-end of.ca seen_b k.b;
    c = raised-from-end of.ca seen-c k.c;
  }

  pub of-bc : {u w n : Raised} → RaisedAll d.ab r u → RaisedAll d.ca r w → ThirdOf d.third u w n → RaisedCorners s.b s.c t n
  of-bc k l m =
      let i = of-ab k in
      let j = of-ca l in
      record {
        a = raised-third i.a j.a of.third m.a;
        b = raised-third i.b j.b of.third m.b;
        c = raised-third i.c j.c of.third m.c;
      }

  -- D of a side of t at the corners of s
  second : {p q : Point} {f g : Offset} {u v w x : ℕ} {n : Raised} → OffsetOf s.a p f → OffsetOf s.a q g
      → IsRaised s.a s.b p u → IsRaised s.a s.b q v → IsRaised s.c s.a p w → IsRaised s.c s.a q x
      → SecondOf f g u v w x n → RaisedCorners p q s n
  second f g u v w x m =
      let i = raised-at-a f g m.a in
      record { a = i; b = raised-at-b i u v m.b; c = raised-at-c i w x m.c }

  -- a side of s separates the two: ab, or one of the others
  pub first-told : {u : Raised} {j : ℕ} → RaisedAll d.ab r u → Joined u j → j < high → ToldExactly s t false
  unfolding interiors_meet no_side_separates
  first-told {j = j} k m e =
      told (one-fails (some_corner_inner s.a s.b t) (some_corner_inner s.b s.c t) (some_corner_inner s.c s.a t) (no_side_separates t s)
      (sym (corners-say (of-ab k) m) ∙ lt-leb high j e))

  others-say : {u w n : Raised} {j k : ℕ} → RaisedAll d.ab r u → RaisedAll d.ca r w → ThirdOf d.third u w n → Joined w j → Joined n k
      → leb high (bit_and j k) ≡ some_corner_inner s.c s.a t && some_corner_inner s.b s.c t
  others-say {j = j} {k = k} u w n l m =
      and_high j k l.below m.below ∙ ap₂ ◌&&◌ (corners-say (of-ca w) l) (corners-say (of-bc u w n) m)

  pub others-told : {u w n : Raised} {j k : ℕ} → RaisedAll d.ab r u → RaisedAll d.ca r w → ThirdOf d.third u w n → Joined w j → Joined n k
      → bit_and j k < high → ToldExactly s t false
  unfolding interiors_meet no_side_separates
  others-told {j = j} {k = k} u w n l m e =
      told (two-fail (some_corner_inner s.a s.b t) (some_corner_inner s.b s.c t) (some_corner_inner s.c s.a t) (no_side_separates t s)
      (sym (others-say u w n l m) ∙ lt-leb high (bit_and j k) e))

  -- no side of s does: then those of t tell
  module _ {u w n : Raised} {j k l : ℕ} (ab : RaisedAll d.ab r u) (ca : RaisedAll d.ca r w) (bc : ThirdOf d.third u w n) (ju : Joined u j) (jw : Joined w k) (jn : Joined n l)
      (e : high ≤ j) (f : high ≤ bit_and k l) where
    pub second-told : {a b c : Raised} {x y z : ℕ} → SecondOf r.a r.b u.a u.b w.a w.b a
        → SecondOf r.b r.c u.b u.c w.b w.c b → SecondOf r.c r.a u.c u.a w.c w.a c
        → Joined a x → Joined b y → Joined c z → ToldExactly s t (leb high (bit_and (bit_and x y) z))
    unfolding interiors_meet no_side_separates
    second-told {x = x} {y = y} {z = z} p q o jx jy jz =
        let i = of-ab ab in
        let m = of-ca ca in
        let sides = and_high (bit_and x y) z (and_lt 41 x y jx.below jy.below) jz.below
        ∙ ap₂ ◌&&◌
        (and_high x y jx.below jy.below
        ∙ ap₂ ◌&&◌ (corners-say (second seen-a seen_b i.a i.b m.a m.b p) jx) (corners-say (second seen_b seen-c i.b i.c m.b m.c q) jy))
        (corners-say (second seen-c seen-a i.c i.a m.c m.a o) jz) in
        told (sides
        ∙ all_pass (some_corner_inner s.a s.b t) (some_corner_inner s.b s.c t) (some_corner_inner s.c s.a t) (no_side_separates t s)
        (sym (corners-say i ju) ∙ le-leb high j e) (sym (others-say ab ca bc jw jn) ∙ le-leb high (bit_and k l) f))

-- ---- corners as code holds them

-- what is handed of an array of corners is that of their triangle
pub handed-corners : (s : Triangle) {l : List Point} {d : Differences} → l ≡ corners s → Handed (triangle_of l) d → Handed s d
unfolding triangle_of corner_at
handed-corners s {d = d} e h = subst (λ l. Handed (triangle_of l) d) e h

-- and so is what is told
pub told-corners : (s t : Triangle) {l : List Point} {o : Bool} → l ≡ corners t → o ≡ interiors_meet s (triangle_of l) → o ≡ interiors_meet s t
unfolding triangle_of corner_at
told-corners s t e k = k ∙ ap (λ l. interiors_meet s (triangle_of l)) e
