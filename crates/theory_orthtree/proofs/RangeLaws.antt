-- Ranges of keys: size many numbers from a first one on, where the size is a power of the arity and the first is a multiple of it.
-- The idea: such a range holds exactly the numbers whose quotient by the size is the first one's (`aligned-iff`), so a number
-- common to two of them puts the smaller within the larger.
-- Assumes nothing.
use mathlib.Core.Path.{◌≡◌, sym, ◌∙◌, ap, subst}
use mathlib.Core.Logic.{◌↔◌}
use Prim.Native.Nat.{ℕ, suc, ◌+◌, ◌*◌, ◌-◌, ◌/◌, ◌%◌, ◌^◌, ◌≤◌, ◌<◌, ◌∣◌}
use native.Mathlib.Nat.{pow-succ', one-le-pow, div-add-mod, div-eq_of_lt-le, mod-lt, lt_of_mul-lt-mul_right, mul-le-mul_right, add-sub_of_le, le_of_suc-le-suc, div-add-mod', add-mul-mod_self_right, mod-mod_of_dvd, dvd-mul_left, zero-mod, div-lt_iff_lt-mul}
use native.Mathlib.Omega.{arith}
use lib.Pow.{pow-add}
use Rattle.theory_orthtree.specs.Entries.{span}

-- k is one of the size many numbers from `first` on
pub record Within (first size k : ℕ) : Type 0 where
  pub starts : first ≤ k
  pub ends : k < first + size

-- the numbers of one range are all in another
pub record Inside (first size outer room : ℕ) : Type 0 where
  pub starts : outer ≤ first
  pub ends : first + size ≤ outer + room

-- a number of the inner range is one of the outer
pub inside-within : {first size outer room k : ℕ} → Inside first size outer room → Within first size k → Within outer room k
inside-within i w = record { starts = omega arith; ends = omega arith }

-- a range whose first number is a multiple of its size holds the numbers with the same quotient
pub aligned-iff : (b k x : ℕ) → 0 < b → k % b ≡ 0 → Within k b x ↔ (x / b ≡ k / b)
aligned-iff b k x pos e =
    let kb = div-add-mod k b in
    let xb = div-add-mod x b in
    let r = mod-lt x pos in (
      λ w. div-eq_of_lt-le b (omega arith) (omega arith),
      λ q. let p = ap (λ n. b * n) q in record { starts = omega arith; ends = omega arith },
    )

-- ranges of b and of b c numbers that have one in common: with k = i b and l = j b c, compare i with j c and with j c + c
nested-multiples : (b c : ℕ) {k l x : ℕ} → k % b ≡ 0 → l % (b * c) ≡ 0 → Within k b x → Within l (b * c) x → Inside k b l (b * c)
nested-multiples b c {k} {l} {x} e f u w =
    let ki = div-add-mod' k b in
    let lj = div-add-mod' l (b * c) in
    let low : l / (b * c) * c * b < suc (k / b) * b = omega arith in
    let high : k / b * b < (l / (b * c) * c + c) * b = omega arith in
    let p = le_of_suc-le-suc (lt_of_mul-lt-mul_right b low) in
    let q = lt_of_mul-lt-mul_right b high in
    record { starts = omega (arith, mul-le-mul_right b p); ends = omega (arith, mul-le-mul_right b q) }

-- a key common to two ranges puts that of the node further down, or as far, within the other
pub ranges-nested : (arity h g : ℕ) {k l x : ℕ} → h ≤ g → k % arity ^ h ≡ 0 → l % arity ^ g ≡ 0
    → Within k (arity ^ h) x → Within l (arity ^ g) x → Inside k (arity ^ h) l (arity ^ g)
ranges-nested arity h g {k} {l} {x} le a b u w =
    let e = ap (λ n. arity ^ n) (sym (add-sub_of_le le)) ∙ pow-add arity h (g - h) in
    subst (λ m. l % m ≡ 0 → Within l m x → Inside k (arity ^ h) l m) (sym e)
    (λ c v. nested-multiples (arity ^ h) (arity ^ (g - h)) a c u v) b w

-- the same by levels: the range of a node as deep or deeper is within that of a node with which it has a key in common
pub spans-nested : (arity depth l m : ℕ) {k j x : ℕ} → m ≤ l → k % span arity depth l ≡ 0 → j % span arity depth m ≡ 0
    → Within k (span arity depth l) x → Within j (span arity depth m) x → Inside k (span arity depth l) j (span arity depth m)
unfolding span
spans-nested arity depth l m h a b u w = ranges-nested arity (depth - l) (depth - m) (omega arith) a b u w

-- a node above the deepest level has arity times the keys of a child
pub span-split : (arity depth level : ℕ) → level < depth → span arity depth level ≡ arity * span arity depth (suc level)
unfolding span
span-split arity depth level h = let e : depth - level ≡ suc (depth - suc level) = omega arith in rw (e, pow-succ')

module _ (arity h k : ℕ) where
  -- where child i of a node starts, if the node starts at k and its children have arity ^ h keys each
  abbrev pub child_key : ℕ → ℕ
  child_key i = k + i * arity ^ h

  -- the first child starts where the node does
  pub child-first : child_key 0 ≡ k
  child-first = omega arith

  -- each next one starts where the one before it ends
  pub child-next : (i : ℕ) → child_key (suc i) ≡ child_key i + arity ^ h
  child-next i = omega arith

  -- the last ends where the node does
  pub child-last : child_key arity ≡ k + arity ^ suc h
  child-last = rw pow-succ'

  -- a child's range is aligned if the node's is
  pub child-aligned : (i : ℕ) → k % arity ^ suc h ≡ 0 → child_key i % arity ^ h ≡ 0
  child-aligned i e =
      let d : arity ^ h ∣ arity ^ suc h = rw pow-succ' (dvd-mul_left (arity ^ h) arity) in
      rw (add-mul-mod_self_right, ← mod-mod_of_dvd (arity ^ h) k d, e, zero-mod)

  -- a child's range is within the node's
  pub child-inside : (i : ℕ) → i < arity → Inside (child_key i) (arity ^ h) k (arity ^ suc h)
  child-inside i l = rw pow-succ' (let m = mul-le-mul_right (arity ^ h) l in record { starts = omega arith; ends = omega arith })

  -- every key of the node is one of some child
  pub child-of : 0 < arity → (x : ℕ) → Within k (arity ^ suc h) x → (i : ℕ) × (i < arity) × Within (child_key i) (arity ^ h) x
  child-of pos x w =
      let s = one-le-pow h arity pos in
      let d = div-add-mod' (x - k) (arity ^ h) in
      let r = mod-lt (x - k) s in
      let e = pow-succ' arity h in
      ((x - k) / arity ^ h, (div-lt_iff_lt-mul s).1 (omega arith), record { starts = omega arith; ends = omega arith })

  -- and of no other
  pub child-unique : (i j x : ℕ) → Within (child_key i) (arity ^ h) x → Within (child_key j) (arity ^ h) x → i ≡ j
  child-unique i j x u w =
      let p : i * arity ^ h < suc j * arity ^ h = omega arith in
      let q : j * arity ^ h < suc i * arity ^ h = omega arith in
      let a = lt_of_mul-lt-mul_right (arity ^ h) p in
      let b = lt_of_mul-lt-mul_right (arity ^ h) q in
      omega arith
