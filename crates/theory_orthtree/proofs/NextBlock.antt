-- The next block of two lists that satisfy the chain rule, by keys alone: two runs that start where both are cut, and go on to
-- where the larger of the two cells there ends.
-- The idea: the run of the list that has the larger cell is that cell, and every entry of the other run starts in it.
-- Assumes nothing.
use mathlib.Core.Path.{◌≡◌, sym, subst}
use mathlib.Core.List.{List}
use mathlib.Core.Logic.{◌⊎◌, inl, inr}
use Prim.Native.Nat.{ℕ, ◌-◌, ◌≤◌, ◌<◌, max}
use native.Mathlib.Decide.{dec_le}
use native.Mathlib.Omega.{arith}
use lib.Dec.{T}
use lib.ListN.{length, get_or, take, drop}
use Rattle.theory_lists.proofs.ListsLaws.{Every}
use Rattle.theory_orthtree.specs.Entries.{Entry, span, range_end, overlaps, chain}
use Rattle.theory_orthtree.proofs.EntriesLaws.{no_entry, overlaps-reflects}
use Rattle.theory_orthtree.specs.KeyCells.{CellEnd, RunEnd, key_from}
use Rattle.theory_orthtree.proofs.KeyCellsLaws.{KeysOf}
use Rattle.theory_orthtree.proofs.CutLaws.{Cut}
use Rattle.theory_orthtree.proofs.RunLaws.{starts-before, Larger, cell-ends, run-grows, run-cut, run-part, run-cell, larger-at}

-- the entries from a up to a' and from b up to b' go up to the key e, and each of the one part overlaps each of the other
pub record Block (arity depth e a b a' b' : ℕ) (es fs : List Entry) : Type 0 where
  pub first : Cut arity depth e a' es
  pub second : Cut arity depth e b' fs
  pub first_grows : a < a'
  pub second_grows : b < b'
  pub whole : Every (λ g. Every (λ h. T (overlaps arity depth g h)) (take (b' - b) (drop b fs))) (take (a' - a) (drop a es))

module _ (arity depth : ℕ) (pos : 0 < arity) where
  -- each of the one run holds all of the range, and each of the other starts in it
  overlap-first : {k e : ℕ} (x y : Entry) → (x.key ≡ k) × (range_end arity depth x ≡ e) → (k ≤ y.key) × (y.key < e) → T (overlaps arity depth x y)
  overlap-first x y h l =
      let s = starts-before arity depth pos y in
      (overlaps-reflects arity depth pos x y).from (record {
        key = y.key;
        first = record { starts = omega arith; ends = omega arith };
        second = record { starts = omega arith; ends = s };
      })

  overlap-second : {k e : ℕ} (x y : Entry) → (k ≤ x.key) × (x.key < e) → (y.key ≡ k) × (range_end arity depth y ≡ e) → T (overlaps arity depth x y)
  overlap-second x y l h =
      let s = starts-before arity depth pos x in
      (overlaps-reflects arity depth pos x y).from (record {
        key = x.key;
        first = record { starts = omega arith; ends = s };
        second = record { starts = omega arith; ends = omega arith };
      })

  module _ (c d : ℕ) (es fs : List Entry) (rule : T (chain arity depth c es)) (rule₂ : T (chain arity depth d fs))
      {ks ls : List ℕ} {n m : ℕ} (x : KeysOf ks n es) (y : KeysOf ls m fs) {k a b : ℕ}
      (u : Cut arity depth k a es) (v : Cut arity depth k b fs) where
    -- the cells at the two places
    abbrev cell : Entry
    cell = get_or es a no_entry

    abbrev cell₂ : Entry
    cell₂ = get_or fs b no_entry

    runs_block : a < length es → b < length fs → {e : ℕ} → Larger arity depth pos k e → range_end arity depth cell ≤ e
        → range_end arity depth cell₂ ≤ e → (e ≡ range_end arity depth cell) ⊎ (e ≡ range_end arity depth cell₂)
        → {a' b' : ℕ} → RunEnd ks n a e a' → RunEnd ls m b e b' → Block arity depth e a b a' b' es fs
    runs_block h l {e} g le le₂ which {a'} {b'} run run₂ = record {
      first = run-cut arity depth pos c es rule no_entry x u h g le run;
      second = run-cut arity depth pos d fs rule₂ no_entry y v l g le₂ run₂;
      first_grows = run-grows arity depth pos c es rule no_entry x u h g le run;
      second_grows = run-grows arity depth pos d fs rule₂ no_entry y v l g le₂ run₂;
      whole = go which;
    }
      where
        go : (e ≡ range_end arity depth cell) ⊎ (e ≡ range_end arity depth cell₂)
            → Every (λ f. Every (λ f₂. T (overlaps arity depth f f₂)) (take (b' - b) (drop b fs))) (take (a' - a) (drop a es))
        go (inl q) f i f₂ j =
            overlap-first f f₂ (run-cell arity depth pos c es rule no_entry x u h g le run q f i)
            (run-part arity depth pos d fs rule₂ no_entry y v l g le₂ run₂ f₂ j)
        go (inr q) f i f₂ j =
            overlap-second f f₂ (run-part arity depth pos c es rule no_entry x u h g le run f i)
            (run-cell arity depth pos d fs rule₂ no_entry y v l g le₂ run₂ q f₂ j)

    -- two runs that start where both lists are cut, and go on to where the larger of the two cells there ends, are a block
    pub next-block : a < n → b < m → {p q : ℕ} → CellEnd ks n a p → CellEnd ls m b q → {e : ℕ}
        → e ≡ max (key_from ks n (span arity depth 0) p) (key_from ls m (span arity depth 0) q) → {a' b' : ℕ}
        → RunEnd ks n a e a' → RunEnd ls m b e b' → Block arity depth e a b a' b' es fs
    next-block h l {p} {q} g r {e} s run run₂ =
        let i : a < length es = omega (arith, x.count) in
        let j : b < length fs = omega (arith, y.count) in
        let first = cell-ends arity depth pos c es rule no_entry x a p g in
        let second = cell-ends arity depth pos d fs rule₂ no_entry y b q r in
        elim (dec_le (range_end arity depth cell₂) (range_end arity depth cell)) [
          | yes w ↦ let z : range_end arity depth cell ≡ e = omega arith in
              runs_block i j (subst (λ o. Larger arity depth pos k o) z (larger-at arity depth pos c es rule no_entry u i)) (omega arith) (omega arith)
              (inl (sym z)) run run₂
          | no w ↦ let z : range_end arity depth cell₂ ≡ e = omega arith in
              runs_block i j (subst (λ o. Larger arity depth pos k o) z (larger-at arity depth pos d fs rule₂ no_entry v j)) (omega arith) (omega arith)
              (inr (sym z)) run run₂
        ]
