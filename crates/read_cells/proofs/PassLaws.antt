-- Keys that never fall are parted at any bound, and where they are parted, they pass it.
-- Assumes nothing.
use mathlib.Core.Path.{◌≡◌}
use mathlib.Core.Bool.{Bool, true, false}
use mathlib.Core.List.{List}
use Prim.Native.Nat.{ℕ, ◌+◌, ◌-◌, ◌≤◌, ◌<◌}
use native.Mathlib.Decide.{dec_le}
use native.Mathlib.Nat.{le_refl}
use native.Mathlib.Omega.{arith}
use borrow.Author.Tests.{leb-true, leb-false, ltb-true, ltb-false}
use lib.Dec.{leb, ltb}
use lib.ListN.{length, get_or, take}
use lib.Seq.{get_or-take, length-take-le}
use Rattle.std.specs.List.Sorted.{IsNonDecreasingBy, IsPartitionPoint}
use Rattle.std.proofs.lemmas.List.Sorted.{IsNonDecreasingBy-from_default}
use Rattle.read_cells.specs.Keys.{Searchable, Passes, LastCell}

-- the first n keys, as a list
pub rising : {keys : List ℕ} {n : ℕ} → Searchable keys n → IsNonDecreasingBy (λ y. y) (take n keys)
rising {keys} {n} s =
    let e = length-take-le n keys s.room in
    IsNonDecreasingBy-from_default (λ y. y) (take n keys) 0 (λ i j h l.
    let r = s.rises.later i j h (omega arith) in
    omega (arith, get_or-take n keys i 0 (omega arith), get_or-take n keys j 0 (omega arith)))

-- the place where they are parted by a test that tells those below the bound b
parted-passes : {keys : List ℕ} {n b r : ℕ} (p : ℕ → Bool) → n ≤ length keys → ((x : ℕ) → p x ≡ true → x < b) → ((x : ℕ) → p x ≡ false → b ≤ x)
    → r ≤ length (take n keys) → IsPartitionPoint (λ y. p y ≡ true) (λ y. p y ≡ false) (take n keys) r → Passes keys n b r
parted-passes {keys} {n} {b} {r} p room low high w s =
    let e = length-take-le n keys room in
    record {
      within = omega arith;
      before = λ i l. let k = low _ (s.0 i 0 (omega arith) l) in omega (arith, get_or-take n keys i 0 (omega arith));
      after = λ i h l. let k = high _ (s.1 i 0 h (omega arith)) in omega (arith, get_or-take n keys i 0 l);
    }

-- the test of a key that is at most k, and that of one below b
pub passes-most : {keys : List ℕ} {n : ℕ} (k : ℕ) {r : ℕ} → n ≤ length keys → r ≤ length (take n keys)
    → IsPartitionPoint (λ y. leb y k ≡ true) (λ y. leb y k ≡ false) (take n keys) r → Passes keys n (k + 1) r
passes-most k room = parted-passes (λ y. leb y k) room (λ x e. let h = leb-true x k e in omega arith) (λ x e. let h = leb-false x k e in omega arith)

pub passes-below : {keys : List ℕ} {n : ℕ} (b : ℕ) {r : ℕ} → n ≤ length keys → r ≤ length (take n keys)
    → IsPartitionPoint (λ y. ltb y b ≡ true) (λ y. ltb y b ≡ false) (take n keys) r → Passes keys n b r
passes-below b room = parted-passes (λ y. ltb y b) room (λ x e. ltb-true x b e) (λ x e. ltb-false x b e)

module _ {keys : List ℕ} {n b r : ℕ} (p : Passes keys n b r) (m : ℕ) (l : m < n) where
  -- a key that is below the bound is before the place
  pub passed : get_or keys m 0 < b → m < r
  passed h = elim (dec_le r m) [ yes g ↦ absurd (let k = p.after m g l in omega arith) | no g ↦ omega arith ]

  -- one that is not below it is not
  pub not-passed : b ≤ get_or keys m 0 → r ≤ m
  not-passed h = elim (dec_le r m) [ yes g ↦ g | no g ↦ absurd (let k = p.before m (omega arith) in omega arith) ]

-- the last of those that are passed is not below itself, so that it has a cell
pub cell-found : {keys : List ℕ} {n k from to : ℕ} → 0 < to → Passes keys n (k + 1) to → Passes keys n (get_or keys (to - 1) 0) from
    → LastCell keys n k from to
cell-found {keys} {to = to} h p q =
    let l = not-passed q (to - 1) (omega (arith, p.within)) (le_refl (get_or keys (to - 1) 0)) in
    record { some = omega arith; ends = p; starts = q }
