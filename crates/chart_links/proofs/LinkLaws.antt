-- The test of two neighbouring entries, as code makes it, is `linked`; that of the last entry is `ends_tree`.
-- Assumes nothing.
use mathlib.Core.Path.{◌≡◌, ◌∙◌, ap, ap₂}
use mathlib.Core.Bool.{Bool, not, ◌&&◌, ◌||◌}
use Prim.Native.Nat.{ℕ, ◌+◌, ◌%◌, ◌≤◌, ◌<◌}
use native.Mathlib.Omega.{arith}
use borrow.Author.Tests.{eqb-true}
use lib.Bits.{bit_and, bit_or}
use lib.Dec.{ltb, eqb}
use Rattle.theory_orthtree.specs.Entries.{empty_mark, is_mark, same_cell, span, range_end, follows, entry}
use Rattle.spec_squares.specs.Square.{arity, depth}
use Rattle.chart_links.specs.Links.{aligned, linked, ends_tree}
use Rattle.theory_lists.proofs.TestLaws.{and_then, and-skip, and_second, eqb_same}
use Rattle.chart_links.proofs.ItemLaws.{no-mark}
use Rattle.chart_links.proofs.MaskLaws.{and-span, or-span}

-- u is that the next key is one more than the last of the square
pub linked-tested : (k l t k' l' t' m : ℕ) {u : Bool} → l ≤ depth → t' < 65536 → m + 1 ≡ span arity depth l
    → u ≡ eqb k' (bit_or k m + 1)
    → (eqb (bit_and k m) 0 && ((eqb k k' && eqb l l' && ltb t t' && not (eqb t' 65535)) || u)) ≡ linked (entry k l t) (entry k' l' t')
unfolding linked aligned follows same_cell is_mark empty_mark range_end
linked-tested k l t k' l' t' m {u} h small e eu =
    ap (λ b. eqb b 0 && ((eqb k k' && eqb l l' && ltb t t' && not (eqb t' 65535)) || u)) (and-span k l m h e)
    ∙ and_then (eqb (k % span arity depth l) 0) (λ a.
    ap₂ ◌||◌ (and-skip (eqb k k' && eqb l l' && ltb t t') (not (eqb t 65535)) (not (eqb t' 65535)) (λ p.
    no-mark t t' small (and_second (eqb k k' && eqb l l') (ltb t t') p)))
    (eu ∙ ap (eqb k') (or-span k m (span arity depth l) (and-span k l m h e ∙ eqb-true (k % span arity depth l) 0 a) e)))

-- the last key that the square covers is the tree's
pub last-ends : (k l t m : ℕ) → l ≤ depth → m + 1 ≡ span arity depth l
    → (eqb (bit_and k m) 0 && eqb (bit_or k m) 4294967295) ≡ ends_tree (entry k l t)
unfolding ends_tree aligned range_end span
last-ends k l t m h e =
    ap (λ b. eqb b 0 && eqb (bit_or k m) 4294967295) (and-span k l m h e)
    ∙ and_then (eqb (k % span arity depth l) 0) (λ a.
    let o = or-span k m (span arity depth l) (and-span k l m h e ∙ eqb-true (k % span arity depth l) 0 a) e in
    eqb_same (bit_or k m) 4294967295 (k + span arity depth l) 4294967296 (λ q. omega arith) (λ q. omega arith))
