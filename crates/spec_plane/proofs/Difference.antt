-- Integers as differences of naturals: `Diff z h l` says that the integer z is h − l. Integers are awkward to prove with
-- and sums of naturals are not, so an integer formula is followed by such a pair: the relation goes through negation,
-- sum, difference and product, and in the end the order of two integers is the order of two sums of naturals.
-- Assumes nothing.
use mathlib.Core.Path.{◌≡◌, refl, sym, ◌∙◌, ap}
use mathlib.Core.Bool.{Bool, true, false, cond}
use mathlib.Core.Logic.{◌↔◌}
use Prim.Native.Nat.{ℕ, zero, suc, ◌+◌, ◌*◌, ◌-◌}
use native.Mathlib.Omega.{arith}
use native.Mathlib.Nat.{zero-add, add-zero}
use lib.Dec.{T, eqb, ltb, leb, ltb→lt, lt→ltb, leb→le, le→leb}
use lib.IntN.{ℤ, pos, negsuc, neg_ℤ, nat_abs, sub_ℕ, ◌+ℤ◌, ◌-ℤ◌, ◌*ℤ◌}
use lib.Signed.{lt_z, le_z}
use borrow.Author.Tests.{ltb-true, ltb-false, eq-eqb, ne_eqb}

-- z is h − l, by the sign of z
abbrev pub Is : ℤ → ℕ → ℕ → Type 0
Is (pos n) h l = h ≡ l + n
Is (negsuc n) h l = l ≡ h + suc n

-- the same as a record, so that z, h and l can be inferred from a proof of it
pub record Diff (z : ℤ) (h l : ℕ) : Type 0 where
  pub at : Is z h l

-- any other pair with the same difference will do
pub diff-shift : {z : ℤ} {h l : ℕ} (k m : ℕ) → Diff z h l → h + m ≡ k + l → Diff z k m
diff-shift {z = pos n} k m d e = record { at = omega arith }
diff-shift {z = negsuc n} k m d e = record { at = omega arith }

-- an integer is one difference only
pub diff-unique : {z w : ℤ} {h l : ℕ} → Diff z h l → Diff w h l → z ≡ w
diff-unique {z = pos n} {w = pos m} d e = ap pos (omega arith)
diff-unique {z = pos n} {w = negsuc m} d e = absurd (omega arith)
diff-unique {z = negsuc n} {w = pos m} d e = absurd (omega arith)
diff-unique {z = negsuc n} {w = negsuc m} d e = ap negsuc (omega arith)

pub diff-pos : (n : ℕ) → Diff (pos n) n 0
diff-pos n = record { at = omega arith }

pub diff-neg : {z : ℤ} {h l : ℕ} → Diff z h l → Diff (neg_ℤ z) l h
diff-neg {z = pos zero} d = record { at = omega arith }
diff-neg {z = pos (suc n)} d = record { at = d.at }
diff-neg {z = negsuc n} d = record { at = d.at }

diff-subℕ : (h l : ℕ) → Diff (sub_ℕ h l) h l
diff-subℕ h l = go (ltb h l) refl
  where
    go : (b : Bool) → ltb h l ≡ b → Diff (cond b (negsuc (l - suc h)) (pos (h - l))) h l
    go true e = let a = ltb-true h l e in record { at = omega arith }
    go false e = let a = ltb-false h l e in record { at = omega arith }

pub diff-add : {z w : ℤ} {h l k m : ℕ} → Diff z h l → Diff w k m → Diff (z +ℤ w) (h + k) (l + m)
diff-add {z = pos n} {w = pos p} d e = record { at = omega arith }
diff-add {z = pos n} {w = negsuc p} d e =
    diff-shift _ _ (diff-subℕ n (suc p)) (omega arith)
diff-add {z = negsuc n} {w = pos p} d e =
    diff-shift _ _ (diff-subℕ p (suc n)) (omega arith)
diff-add {z = negsuc n} {w = negsuc p} d e = record { at = omega arith }

pub diff-sub : {z w : ℤ} {h l k m : ℕ} → Diff z h l → Diff w k m → Diff (z -ℤ w) (h + m) (l + k)
diff-sub d e = diff-add d (diff-neg e)

pub diff : (h l : ℕ) → Diff (pos h -ℤ pos l) h l
diff h l = diff-shift h l (diff-sub (diff-pos h) (diff-pos l)) (omega arith)

diff-mul-pos : {n p h l k m : ℕ} → Diff (pos n) h l → Diff (pos p) k m
    → Diff (pos (n * p)) (h * k + l * m) (h * m + l * k)
diff-mul-pos d e = record { at = rw (d.at, e.at) (omega arith) }

pub diff-mul : {z w : ℤ} {h l k m : ℕ} → Diff z h l → Diff w k m → Diff (z *ℤ w) (h * k + l * m) (h * m + l * k)
diff-mul {z = pos n} {w = pos p} d e = diff-mul-pos d e
diff-mul {z = pos n} {w = negsuc p} d e = diff-neg (diff-mul-pos d (diff-neg e))
diff-mul {z = negsuc n} {w = pos p} d e = diff-shift _ _ (diff-neg (diff-mul-pos (diff-neg d) e)) (omega arith)
diff-mul {z = negsuc n} {w = negsuc p} d e =
    diff-shift _ _ (diff-mul-pos (diff-neg d) (diff-neg e)) (omega arith)

-- two tests that pass together are equal
same_test : (a b : Bool) → T a ↔ T b → a ≡ b
same_test true true e = refl
same_test true false e = absurd (e.0 tt)
same_test false true e = absurd (e.1 tt)
same_test false false e = refl

-- the order of two differences
pub diff-lt : {z w : ℤ} {h l k m : ℕ} → Diff z h l → Diff w k m → lt_z z w ≡ ltb (h + m) (k + l)
diff-lt {z = pos n} {w = pos p} d e = same_test _ _ (omega (arith, ltb→lt, lt→ltb))
diff-lt {z = pos n} {w = negsuc p} d e = same_test _ _ (omega (arith, ltb→lt, lt→ltb))
diff-lt {z = negsuc n} {w = pos p} d e = same_test _ _ (omega (arith, ltb→lt, lt→ltb))
diff-lt {z = negsuc n} {w = negsuc p} d e = same_test _ _ (omega (arith, ltb→lt, lt→ltb))

pub diff-le : {z w : ℤ} {h l k m : ℕ} → Diff z h l → Diff w k m → le_z z w ≡ leb (h + m) (k + l)
diff-le {z = pos n} {w = pos p} d e = same_test _ _ (omega (arith, leb→le, le→leb))
diff-le {z = pos n} {w = negsuc p} d e = same_test _ _ (omega (arith, leb→le, le→leb))
diff-le {z = negsuc n} {w = pos p} d e = same_test _ _ (omega (arith, leb→le, le→leb))
diff-le {z = negsuc n} {w = negsuc p} d e = same_test _ _ (omega (arith, leb→le, le→leb))

-- the sign of a difference
pub diff-above : {z : ℤ} {h l : ℕ} → Diff z h l → lt_z (pos 0) z ≡ ltb l h
diff-above d = diff-lt (diff-pos 0) d ∙ simp (zero-add, add-zero)

pub diff-nonneg : {z : ℤ} {h l : ℕ} → Diff z h l → le_z (pos 0) z ≡ leb l h
diff-nonneg d = diff-le (diff-pos 0) d ∙ simp (zero-add, add-zero)

pub diff-below : {z : ℤ} {h l : ℕ} → Diff z h l → lt_z z (pos 0) ≡ ltb h l
diff-below d = diff-lt d (diff-pos 0) ∙ simp (zero-add, add-zero)

pub diff-zero : {z : ℤ} {h l : ℕ} → Diff z h l → eqb (nat_abs z) 0 ≡ eqb l h
diff-zero {z = pos zero} {h} {l} d = sym (eq-eqb l h (omega arith))
diff-zero {z = pos (suc n)} {h} {l} d = rw (ne_eqb (suc n) 0 (omega arith), ne_eqb l h (omega arith))
diff-zero {z = negsuc n} {h} {l} d = rw (ne_eqb (suc n) 0 (omega arith), ne_eqb l h (omega arith))

pub diff-gap : {z : ℤ} {h l : ℕ} → Diff z h l → T (le_z (pos 0) z) → h ≡ l + nat_abs z
diff-gap {z = pos n} d t = d.at
diff-gap {z = negsuc n} d t = absurd t

pub diff-nat_abs : {z : ℤ} {h l : ℕ} → Diff z h l → nat_abs z ≡ (h - l) + (l - h)
diff-nat_abs {z = pos n} d = omega arith
diff-nat_abs {z = negsuc n} d = omega arith
