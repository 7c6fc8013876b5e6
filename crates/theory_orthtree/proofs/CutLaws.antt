-- Places at which a list of entries is cut at a key: no cell goes over it.
-- Assumes nothing.
use mathlib.Core.Path.{◌≡◌}
use mathlib.Core.List.{List}
use Prim.Native.Nat.{ℕ, ◌≤◌, ◌<◌}
use native.Mathlib.Decide.{dec_le}
use native.Mathlib.Omega.{arith}
use lib.Dec.{T}
use lib.ListN.{length, get_or, take, drop}
use Rattle.theory_lists.proofs.ListsLaws.{Every}
use Rattle.theory_lists.proofs.EveryLaws.{every-nil}
use Rattle.theory_orthtree.specs.Entries.{Entry, span, range_end, chain}
use Rattle.theory_orthtree.proofs.EntriesLaws.{no_entry, span-positive}
use Rattle.theory_orthtree.proofs.ChainPlaces.{chain_first, chain-none, chain-within}

-- at place a the entries are cut at key k: those before it end at or before the key, and the next one starts there
pub record Cut (arity depth k a : ℕ) (es : List Entry) : Type 0 where
  pub within : a ≤ length es
  pub ended : Every (λ e. range_end arity depth e ≤ k) (take a es)
  pub later : Every (λ e. k ≤ e.key) (drop a es)
  pub starts : (d : Entry) → a < length es → (get_or es a d).key ≡ k
  pub last : a ≡ length es → k ≡ span arity depth 0

module _ (arity depth : ℕ) (pos : 0 < arity) where
  -- a list that satisfies the chain rule is cut at its start
  pub cut-start : (count : ℕ) (es : List Entry) → T (chain arity depth count es) → Cut arity depth 0 0 es
  cut-start count es rule = record {
    within = omega arith;
    ended = every-nil (λ e. range_end arity depth e ≤ 0);
    later = λ e m. omega arith;
    starts = λ d h. chain_first arity depth d count pos es rule h;
    last = λ h. chain-none arity depth no_entry count pos es rule h;
  }

  -- no entry starts where the tree ends
  start-below : (d : Entry) (count : ℕ) (es : List Entry) → T (chain arity depth count es) → (i : ℕ) → i < length es
      → (get_or es i d).key < span arity depth 0
  unfolding range_end
  start-below d count es rule i h =
      let p = span-positive arity depth (get_or es i d).level pos in
      let w = chain-within arity depth d count pos es rule i h in
      omega arith

  -- where two are cut at one key, they end together
  pub cut-ends : (d : ℕ) (es fs : List Entry) → T (chain arity depth d fs) → {k a b : ℕ}
      → Cut arity depth k a es → Cut arity depth k b fs → a ≡ length es → b ≡ length fs
  cut-ends d es fs rule {b = b} u v h =
      elim (dec_le (length fs) b) [
        | yes l ↦ omega (arith, v.within)
        | no l ↦ absurd (let g : b < length fs = omega arith in
            omega (arith, u.last h, v.starts no_entry g, start-below no_entry d fs rule b g))
      ]
