-- Among the entries of a tiling, those whose cell has a key are the entries of the one node that has it.
-- The idea: along the tiling, nodes before that node end at or before the key, and nodes after it start after the key.
-- Assumes nothing.
use mathlib.Core.Path.{◌≡◌, sym, ◌∙◌, ap, ap₂, subst}
use mathlib.Core.Bool.{Bool, true, false}
use mathlib.Core.List.Memᴰ
use mathlib.Core.List.{List, [], ◌++◌, map, flat_map, append-nil, Memᴰ}
use mathlib.Core.Logic.{◌⊎◌, inl, inr}
use Prim.Native.Nat.{ℕ}
use native.Mathlib.Omega.{arith}
use Rattle.theory_lists.specs.Lists.{filter}
use Rattle.theory_lists.proofs.Reflects.{test-true, test-false}
use Rattle.theory_lists.proofs.ListsLaws.{Every}
use Rattle.theory_lists.proofs.EveryLaws.{every_map, every-flat_map}
use Rattle.theory_lists.proofs.FilterLaws.{filter-append, filter-all, filter_none}
use Rattle.theory_orthtree.specs.Entries.{Entry, span, range_end, covers, entry}
use Rattle.theory_orthtree.proofs.EntriesLaws.{covers-reflects}
use Rattle.theory_orthtree.proofs.RangeLaws.{Within}
use Rattle.theory_orthtree.proofs.TilingLaws.{Tiles, done, next, tiles-inside}
use Rattle.theory_orthtree.proofs.ChainTilingLaws.{entries_from}

module _ (arity depth k : ℕ) {Node : Type 0} (key level : Node → ℕ) (items : Node → List ℕ) where
  abbrev size : Node → ℕ
  size n = span arity depth (level n)

  abbrev entries_at : Node → List Entry
  entries_at n = map (λ i. entry (key n) (level n) i) (items n)

  abbrev has : Entry → Bool
  has e = covers arity depth k e

  entry_has : (n : Node) (i : ℕ) → Within (key n) (size n) k → has (entry (key n) (level n) i) ≡ true
  unfolding range_end
  entry_has n i w =
      let e = entry (key n) (level n) i in
      test-true {b = has e} ((covers-reflects arity depth k e).from (record { starts = w.starts; ends = w.ends }))

  entry-lacks : (n : Node) (i : ℕ) → (Within (key n) (size n) k → ⊥) → has (entry (key n) (level n) i) ≡ false
  unfolding range_end
  entry-lacks n i w =
      let e = entry (key n) (level n) i in
      test-false {b = has e} (λ t. let h = (covers-reflects arity depth k e).to t in w (record { starts = h.starts; ends = h.ends }))

  -- all entries of a node that has the key are kept, and none of nodes that have not
  at_all : (n : Node) → Within (key n) (size n) k → filter has (entries_at n) ≡ entries_at n
  at_all n w =
      filter-all has (entries_at n)
      (every_map (λ e. has e ≡ true) (λ i. entry (key n) (level n) i) (items n) (λ i m. entry_has n i w))

  at_none : (n : Node) → (Within (key n) (size n) k → ⊥) → Every (λ e. has e ≡ false) (entries_at n)
  at_none n w = every_map (λ e. has e ≡ false) (λ i. entry (key n) (level n) i) (items n) (λ i m. entry-lacks n i w)

  from-none : (ns : List Node) → Every (λ n. Within (key n) (size n) k → ⊥) ns → filter has (entries_from key level items ns) ≡ []
  from-none ns h = filter_none has (entries_from key level items ns) (every-flat_map entries_at ns (λ n m. at_none n (h n m)))

  -- the entries of the key's cell are those of the node that has the key
  pub cell-of-key : {a b : ℕ} {ns : List Node} {n : Node} → Tiles key (λ m. span arity depth (level m)) a ns b → Memᴰ n ns
      → Within (key n) (span arity depth (level n)) k
      → filter (λ e. covers arity depth k e) (entries_from key level items ns) ≡ map (λ i. entry (key n) (level n) i) (items n)
  unfolding flat_map
  cell-of-key (done e) m w = absurd (Memᴰ.not-nil m)
  cell-of-key {n = n} (next {n = x} {ns = ns} e t) m w =
      filter-append has (entries_at x) (entries_from key level items ns) ∙ go (λ c. cell-of-key t c w) (Memᴰ.cases_cons m)
    where
      go : (Memᴰ n ns → filter has (entries_from key level items ns) ≡ entries_at n) → (n ≡ x) ⊎ Memᴰ n ns
          → filter has (entries_at x) ++ filter has (entries_from key level items ns) ≡ entries_at n
      go rec (inl q) =
          let later = from-none ns (λ m c v. let h = tiles-inside key size t m c in omega (arith, ap key q, ap size q)) in
          ap₂ ◌++◌ (at_all x (subst (λ y. Within (key y) (size y) k) q w)) later ∙ append-nil (entries_at x) ∙ ap entries_at (sym q)
      go rec (inr c) =
          let h = tiles-inside key size t n c in
          ap₂ ◌++◌ (filter_none has (entries_at x) (at_none x (λ v. omega arith))) (rec c)
