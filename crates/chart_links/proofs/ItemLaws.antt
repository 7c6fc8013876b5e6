-- The tests of an item that code makes in other words than the definitions.
-- Assumes nothing.
use mathlib.Core.Path.{◌≡◌, refl, sym, ◌∙◌, ap}
use mathlib.Core.Bool.{true, not}
use Prim.Native.Nat.{ℕ, suc, ◌+◌, ◌%◌, ◌<◌}
use native.Mathlib.Decide.{ℕ_discrete}
use native.Mathlib.Omega.{arith}
use Rattle.std.proofs.Common.{Option, Some, None, SomeIff}
use Rattle.std.specs.Option.{unwrap_or}
use borrow.Author.Tests.{ltb-true, le-leb, eq-eqb, ne_eqb}
use lib.Dec.{leb, ltb, eqb}
use Rattle.theory_orthtree.specs.Entries.{empty_mark}
use Rattle.chart_links.specs.Links.{item_fits}
use Rattle.theory_lists.proofs.TestLaws.{leb-same, or-fails, or-passes}

-- one more than an item that is no mark is at most the count when the item fits
pub item_count : (item r count : ℕ) → (item ≡ 65535 → ⊥) → r ≡ item + 1 → leb r count ≡ item_fits count item
unfolding item_fits empty_mark
item_count item r count n e =
    leb-same r count (suc item) count (λ x. omega arith) (λ x. omega arith) ∙ or-fails (ltb item count) (ne_eqb item 65535 n)

-- 0 is at most the count, and the mark fits
pub mark-count : (item r count : ℕ) → item ≡ 65535 → r ≡ 0 → leb r count ≡ item_fits count item
unfolding item_fits empty_mark
mark-count item r count m e = le-leb r count (omega arith) ∙ sym (or-passes (ltb item count) (eq-eqb item 65535 m))

-- one more than an item of 16 bits, where the highest one is followed by 0
pub next-count : (item count : ℕ) → item < 65536 → leb ((item + 1) % 65536) count ≡ item_fits count item
next-count item count h = elim (ℕ_discrete item 65535) [
  | yes m ↦ mark-count item ((item + 1) % 65536) count m (omega arith)
  | no n ↦ item_count item ((item + 1) % 65536) count n (omega arith)
]

-- the same as code gets it, where nothing is one more than the highest item
pub next-given : (item count : ℕ) (o : Option ℕ) → item < 65536 → SomeIff o (item + 1 < 65536) (item + 1) → leb (unwrap_or o 0) count ≡ item_fits count item
next-given item count None h n =
    let m : item ≡ 65535 = elim (ℕ_discrete item 65535) [ yes m ↦ m | no m ↦ absurd (n (omega arith)) ] in
    mark-count item 0 count m refl
next-given item count (Some x) h s = item_count item x count (λ m. omega (arith, s.0)) s.1

-- an item below another one of 16 bits is no mark
pub no-mark : (i j : ℕ) → j < 65536 → ltb i j ≡ true → not (eqb i empty_mark) ≡ true
unfolding empty_mark
no-mark i j h e = let l = ltb-true i j e in ap not (ne_eqb i 65535 (λ q. omega arith))
