-- Two lists that satisfy the chain rule have at most cells + cells - 1 meetings.
-- The idea: among nodes that tile a range, those that overlap a part of it are one, which has the part's first key, and those that start
-- strictly within the part. The parts of a tiling have no start in common, and the first node starts in none of them strictly.
-- Assumes nothing.
use mathlib.Core.Path.{◌≡◌}
use mathlib.Core.Bool.{true, false, ◌&&◌}
use mathlib.Core.List.{List}
use Prim.Native.Nat.{ℕ, ◌+◌, ◌≤◌, ◌<◌}
use native.Mathlib.Decide.{dec_le}
use native.Mathlib.Omega.{arith}
use lib.Dec.{T, ltb}
use lib.ListN.{length}
use Rattle.theory_lists.specs.Lists.{sum_of}
use Rattle.theory_lists.proofs.Reflects.{Reflects, reflects-dec, reflects-and, reflects-ltb, test-true, test-false}
use Rattle.theory_lists.proofs.ListsLaws.{Every}
use Rattle.theory_lists.proofs.SumLaws.{sum-agree, sum-le, sum-add, sum_ones}
use Rattle.theory_orthtree.specs.Entries.{Entry, cell_heads, span, range_end, overlaps, meetings, chain}
use Rattle.theory_orthtree.proofs.EntriesLaws.{span-positive}
use Rattle.theory_orthtree.proofs.TilingLaws.{Tiles, done, next, tiles-le, tiles-inside}
use Rattle.theory_orthtree.proofs.ChainHeadsLaws.{heads-tile}

-- 1 where a < b and c < d, else 0
abbrev one : ℕ → ℕ → ℕ → ℕ → ℕ
one a b c d = elim (ltb a b && ltb c d) [ true ↦ 1 | false ↦ 0 ]

module _ (a b c d : ℕ) where
  both : Reflects (ltb a b && ltb c d) ((a < b) × (c < d))
  both = reflects-and (reflects-ltb a b) (reflects-ltb c d)

  one-yes : (a < b) × (c < d) → one a b c d ≡ 1
  one-yes h = rw (one, test-true {b = ltb a b && ltb c d} (both.from h))

  one-no : ((a < b) × (c < d) → ⊥) → one a b c d ≡ 0
  one-no n = rw (one, test-false {b = ltb a b && ltb c d} (λ t. n (both.to t)))

  one-most : one a b c d ≤ 1
  one-most = elim (reflects-dec both) [ yes h ↦ omega (arith, one-yes h) | no n ↦ omega (arith, one-no n) ]

one-le : (a b c d x y z w : ℕ) → ((a < b) × (c < d) → (x < y) × (z < w)) → one a b c d ≤ one x y z w
one-le a b c d x y z w f = elim (reflects-dec (both a b c d)) [
  | yes h ↦ omega (arith, one-most a b c d, one-yes x y z w (f h))
  | no n ↦ omega (arith, one-no a b c d n)
]

module _ {Node : Type 0} (key size : Node → ℕ) where
  -- the node has a key from x on and below y
  abbrev meets : ℕ → ℕ → Node → ℕ
  meets x y m = one x (key m + size m) (key m) y

  -- the node starts after x and below y
  abbrev starts : ℕ → ℕ → Node → ℕ
  starts x y m = one x (key m) (key m) y

  -- where all nodes start after x, they are the same
  meets-later : (x y : ℕ) {a b : ℕ} {ms : List Node} → Tiles key size a ms b → x < a → sum_of (meets x y) ms ≡ sum_of (starts x y) ms
  meets-later x y {ms = ms} t h =
      sum-agree (meets x y) (starts x y) ms (λ m c.
      let g = tiles-inside key size t m c in
      let p = one-le x (key m + size m) (key m) y x (key m) (key m) y (λ u. omega arith) in
      let q = one-le x (key m) (key m) y x (key m + size m) (key m) y (λ u. omega arith) in
      omega arith)

  -- where x is in the tiled range, there is one more, the node that has x
  meets-count : (x y : ℕ) {a b : ℕ} {ms : List Node} → Tiles key size a ms b → a ≤ x → x < b → x < y
      → sum_of (meets x y) ms ≡ 1 + sum_of (starts x y) ms
  unfolding sum_of
  meets-count x y (done e) h l u = absurd (omega arith)
  meets-count x y (next {a = a} {n = n} e t) h l u =
      let s = one-no x (key n) (key n) y (λ v. omega arith) in
      elim (dec_le (a + size n) x) [
        | yes g ↦ let m = one-no x (key n + size n) (key n) y (λ v. omega arith) in omega (arith, meets-count x y t g l u)
        | no g ↦ let m = one-yes x (key n + size n) (key n) y (omega arith) in omega (arith, meets-later x y t (omega arith))
      ]

  -- starts within two parts, one after the other, are starts within both together
  starts-join : (x y z : ℕ) → x ≤ y → y ≤ z → (m : Node) → starts x y m + starts y z m ≤ starts x z m
  starts-join x y z h g m =
      let k = key m in
      elim (dec_le y k) [
        | yes l ↦ omega (arith, one-no x k k y (λ v. omega arith), one-le y k k z x k k z (λ v. omega arith))
        | no l ↦ omega (arith, one-no y k k z (λ v. omega arith), one-le x k k y x k k z (λ v. omega arith))
      ]

  -- so those within the parts of a tiling are no more than those within the whole
  starts-tiling : {Part : Type 0} (from width : Part → ℕ) (ms : List Node) {a b : ℕ} {ns : List Part} → Tiles from width a ns b
      → sum_of (λ n. sum_of (starts (from n) (from n + width n)) ms) ns ≤ sum_of (starts a b) ms
  unfolding sum_of
  starts-tiling from width ms (done e) = omega arith
  starts-tiling from width ms {b = b} (next {a = a} {n = n} {ns = ns} e t) =
      let r = starts-tiling from width ms t in
      let y = a + width n in
      let j = sum-le (λ m. starts a y m + starts y b m) (starts a b) ms (λ m c. starts-join a y b (omega arith) (tiles-le from width t) m) in
      let s = sum-add (starts a y) (starts y b) ms in
      rw e (omega arith)

  -- the first node starts at the start, not after it
  starts_first : (y : ℕ) {a b : ℕ} {ms : List Node} → Tiles key size a ms b → a < b → sum_of (starts a y) ms + 1 ≤ length ms
  unfolding sum_of
  starts_first y (done e) h = absurd (omega arith)
  starts_first y (next {a = a} {n = n} {ns = ns} e t) h =
      let s = one-no a (key n) (key n) y (λ v. omega arith) in
      let r = sum-le (starts a y) (λ m. 1) ns (λ m c. one-most a (key m) (key m) y) in
      omega (arith, sum_ones ns)

  -- the pairs of overlapping nodes of two tilings of one range
  pub tilings-meet : {Part : Type 0} (from width : Part → ℕ) {a b : ℕ} {ns : List Part} {ms : List Node} → a < b
      → Every (λ n. 0 < width n) ns → Tiles from width a ns b → Tiles key size a ms b
      → sum_of (λ n. sum_of (λ m. meets (from n) (from n + width n) m) ms) ns + 1 ≤ length ns + length ms
  tilings-meet {Part} from width {a} {b} {ns} {ms} h p t u =
      let within : Part → ℕ = λ n. sum_of (starts (from n) (from n + width n)) ms in
      let e = sum-agree (λ n. sum_of (λ m. meets (from n) (from n + width n) m) ms) (λ n. 1 + within n) ns (λ n c.
      let g = tiles-inside from width t n c in
      let w = p n c in
      meets-count (from n) (from n + width n) u (omega arith) (omega arith) (omega arith)) in
      omega (arith, e, sum-add (λ n. 1) within ns, sum_ones ns, starts-tiling from width ms t, starts_first b u h)

-- the meetings of two lists that satisfy the chain rule are at most cells + cells - 1
pub meetings-bound : (arity depth : ℕ) → 0 < arity → (c d : ℕ) (es fs : List Entry) → T (chain arity depth c es) → T (chain arity depth d fs)
    → meetings arity depth es fs + 1 ≤ length (cell_heads es) + length (cell_heads fs)
unfolding meetings overlaps range_end
meetings-bound arity depth pos c d es fs p q =
    let key : Entry → ℕ = λ e. e.key in
    let size : Entry → ℕ = λ e. span arity depth e.level in
    tilings-meet key size key size (span-positive arity depth 0 pos) (λ e m. span-positive arity depth e.level pos)
    (heads-tile arity depth c pos es p) (heads-tile arity depth d pos fs q)
