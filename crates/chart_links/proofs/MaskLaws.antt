-- The keys that a square covers, less one, as a mask: its bits, and what "and", "or" and "xor" with it tell.
-- A square's level is one of seventeen, so what is to be known of the spans is computed for each.
-- Assumes nothing.
use mathlib.Core.Path.{◌≡◌, sym, ◌∙◌, ap, subst}
use Prim.Native.Nat.{ℕ, ◌+◌, ◌-◌, ◌*◌, ◌%◌, ◌^◌, ◌≤◌, ◌<◌}
use native.Mathlib.Nat.{mod_self}
use native.Mathlib.Decide.{dec_le}
use native.Mathlib.Omega.{arith}
use Rattle.std.proofs.Common.{Option, Some, None, SomeIff}
use Rattle.std.specs.Option.{unwrap_or}
use lib.Bits.{bit_and, bit_or, bit_xor, and_mask, or_disjoint, xor_add_and}
use lib.Dec.{T, eqb}
use Rattle.theory_lists.specs.Lists.{all, count_from, up_to}
use Rattle.theory_lists.proofs.Reflects.{reflects-eqb}
use Rattle.theory_lists.proofs.IndexLaws.{all-below-reflects}
use Rattle.theory_orthtree.specs.Entries.{span}
use Rattle.spec_squares.specs.Square.{arity, depth}

every-span : T (all (λ l. eqb (span arity depth l) (2 ^ (2 * (16 - l)))) (up_to 17))
unfolding all up_to count_from span
every-span = tt

-- the span of a level is a power of two
span-power : (l : ℕ) → l ≤ depth → span arity depth l ≡ 2 ^ (2 * (16 - l))
span-power l h =
    (reflects-eqb (span arity depth l) (2 ^ (2 * (16 - l)))).to
    ((all-below-reflects (λ i. eqb (span arity depth i) (2 ^ (2 * (16 - i)))) 17).to every-span l (omega arith))

-- the ones above the mask of a level but the first, as code gets them by a shift
every-shift : T (all (λ k. eqb (4294967295 - (4294967295 * 2 ^ (32 - 2 * (k + 1))) % 2 ^ 32 + 1) (span arity depth (k + 1))) (up_to 16))
unfolding all up_to count_from span
every-shift = tt

-- what is not among them is the mask, at the first level too, where the shift gives nothing
pub span-less : (l : ℕ) (o : Option ℕ) → l ≤ depth → SomeIff o (32 - 2 * l < 32) ((4294967295 * 2 ^ (32 - 2 * l)) % 2 ^ 32)
    → 4294967295 - unwrap_or o 0 + 1 ≡ span arity depth l
span-less l None h n =
    let z : 0 ≡ l = elim (dec_le l 0) [ yes g ↦ omega arith | no g ↦ absurd (n (omega arith)) ] in
    subst (λ k. 4294967296 ≡ span arity depth k) z (sym (span-power 0 (omega arith)))
span-less l (Some x) h s =
    let q : l - 1 + 1 ≡ l = omega (arith, s.0) in
    let e = (reflects-eqb _ _).to ((all-below-reflects (λ k. eqb (4294967295 - (4294967295 * 2 ^ (32 - 2 * (k + 1))) % 2 ^ 32 + 1) (span arity depth (k + 1))) 16).to every-shift (l - 1) (omega arith)) in
    ap (λ y. 4294967295 - y + 1) s.1
    ∙ subst (λ k. 4294967295 - (4294967295 * 2 ^ (32 - 2 * k)) % 2 ^ 32 + 1 ≡ span arity depth k) q e

-- "xor" of a power of two and one less is one less than the next power
pub xor_below : (h k : ℕ) → 1 ≤ h → h ≡ 2 ^ k → bit_xor h (h - 1) + 1 ≡ h + h
xor_below h k p e =
    let z : bit_and h (h - 1) ≡ 0 = ap (λ s. bit_and h (s - 1)) e ∙ and_mask h k ∙ ap (λ s. h % s) (sym e) ∙ mod_self h in
    let x = xor_add_and h (h - 1) in
    omega arith

-- "and" with the mask is the remainder
pub and-span : (k l m : ℕ) → l ≤ depth → m + 1 ≡ span arity depth l → bit_and k m ≡ k % span arity depth l
and-span k l m h e =
    let p = span-power l h in
    let q : m ≡ 2 ^ (2 * (16 - l)) - 1 = less m _ (e ∙ p) in
    ap (bit_and k) q ∙ and_mask k (2 * (16 - l)) ∙ ap (λ s. k % s) (sym p)
  where
    less : (m s : ℕ) → m + 1 ≡ s → m ≡ s - 1
    less m s e = omega arith

-- "or" with it is the last key that the square covers, where the key is a multiple of the span
pub or-span : (k m s : ℕ) → bit_and k m ≡ 0 → m + 1 ≡ s → bit_or k m + 1 ≡ k + s
or-span k m s z e = let d = or_disjoint k m z in omega arith
