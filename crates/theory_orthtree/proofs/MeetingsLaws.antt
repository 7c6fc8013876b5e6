-- The first entries of the cells, where the entries are those of nodes that tile a key range: one for each node, with its first item,
-- in order. So the meetings of two such lists are the pairs of nodes whose key ranges overlap.
-- The idea: the entries of a node are of one cell, and the next node starts where it ends, so it is another cell.
-- Assumes nothing.
use mathlib.Core.Path.{◌≡◌, refl, ◌∙◌, ap}
use mathlib.Core.Bool.{true, false}
use mathlib.Core.List.{List, [], ◌∷◌, ◌++◌, map, flat_map}
use Prim.Native.Nat.{ℕ, ◌+◌, ◌<◌}
use native.Mathlib.Omega.{arith}
use lib.ListN.{length, get_or, drop}
use lib.Seq.{drop-cons}
use Rattle.theory_lists.specs.Lists.{sum_of}
use Rattle.theory_lists.proofs.ListsLaws.{Every, every-uncons}
use Rattle.theory_lists.proofs.SumLaws.{sum-map, sum-agree}
use Rattle.theory_orthtree.specs.Entries.{Entry, same_cell, cell_heads, cell_heads_after, span, range_end, overlaps, meetings, entry}
use Rattle.theory_orthtree.proofs.EntriesLaws.{span-positive}
use Rattle.theory_orthtree.proofs.TilingLaws.{Tiles, done, next}
use Rattle.theory_orthtree.proofs.ChainLaws.{SameCell}
use Rattle.theory_orthtree.proofs.ChainTilingLaws.{entries_from}
use Rattle.theory_orthtree.proofs.ChainHeadsLaws.{heads-same, heads-next}

-- what comes after an entry depends on its cell alone
heads-after-cell : {e f : Entry} → SameCell e f → (es : List Entry) → cell_heads_after e es ≡ cell_heads_after f es
unfolding cell_heads_after same_cell
heads-after-cell s [] = refl
heads-after-cell s (g ∷ es) = rw (s.key, s.level)

-- further entries of the cell are passed over
heads-after-items : (k l i : ℕ) (is : List ℕ) (es : List Entry)
    → cell_heads_after (entry k l i) (map (entry k l) is ++ es) ≡ cell_heads_after (entry k l i) es
heads-after-items k l i [] es = refl
heads-after-items k l i (j ∷ is) es =
    let same : (a b : ℕ) → SameCell (entry k l a) (entry k l b) = λ a b. record { key = refl; level = refl } in
    heads-same (entry k l i) (entry k l j) (map (entry k l) is ++ es) (same i j) ∙ heads-after-items k l j is es
    ∙ heads-after-cell (same j i) es

module _ (arity depth : ℕ) (pos : 0 < arity) {Node : Type 0} (key level : Node → ℕ) (items : Node → List ℕ) where
  abbrev size : Node → ℕ
  size n = span arity depth (level n)

  -- the first entry of a node
  abbrev first_entry : Node → Entry
  first_entry n = entry (key n) (level n) (get_or (items n) 0 0)

  -- and the further ones
  abbrev further_entries : Node → List Entry
  further_entries n = map (entry (key n) (level n)) (drop 1 (items n))

  first-and-further : (n : Node) (ns : List Node) → 0 < length (items n)
      → entries_from key level items (n ∷ ns) ≡ first_entry n ∷ (further_entries n ++ entries_from key level items ns)
  unfolding flat_map
  first-and-further n ns h = ap (λ is. map (entry (key n) (level n)) is ++ entries_from key level items ns) (drop-cons (items n) 0 0 h)

  other-cell : (e : Entry) (n : Node) {a : ℕ} → range_end arity depth e ≡ a → key n ≡ a → SameCell e (first_entry n) → ⊥
  unfolding range_end
  other-cell e n h g s = let p = span-positive arity depth e.level pos in omega (arith, s.key)

  -- after an entry whose cell ends where the nodes start
  heads-after-tiling : (e : Entry) {a b : ℕ} {ns : List Node} → range_end arity depth e ≡ a → Tiles key (λ n. span arity depth (level n)) a ns b
      → Every (λ n. 0 < length (items n)) ns → cell_heads_after e (entries_from key level items ns) ≡ map first_entry ns
  unfolding cell_heads_after flat_map range_end
  heads-after-tiling e h (done q) some = refl
  heads-after-tiling e h (next {n = n} {ns = ns} q t) some =
      let g = every-uncons some in
      ap (cell_heads_after e) (first-and-further n ns g.0)
      ∙ heads-next e (first_entry n) (further_entries n ++ entries_from key level items ns) (other-cell e n h q)
      ∙ ap (λ r. first_entry n ∷ r)
      (heads-after-items (key n) (level n) (get_or (items n) 0 0) (drop 1 (items n)) (entries_from key level items ns)
      ∙ heads-after-tiling (first_entry n) (ap (λ x. x + size n) q) t g.1)

  -- the first entries of the cells are one for each node, with its first item, in order
  pub heads-of-tiling : {a b : ℕ} {ns : List Node} → Tiles key (λ n. span arity depth (level n)) a ns b → Every (λ n. 0 < length (items n)) ns
      → cell_heads (entries_from key level items ns) ≡ map (λ n. entry (key n) (level n) (get_or (items n) 0 0)) ns
  unfolding cell_heads flat_map range_end
  heads-of-tiling (done q) some = refl
  heads-of-tiling (next {n = n} {ns = ns} q t) some =
      let g = every-uncons some in
      ap cell_heads (first-and-further n ns g.0)
      ∙ ap (λ r. first_entry n ∷ r)
      (heads-after-items (key n) (level n) (get_or (items n) 0 0) (drop 1 (items n)) (entries_from key level items ns)
      ∙ heads-after-tiling (first_entry n) (ap (λ x. x + size n) q) t g.1)

-- the meetings of two lists whose cells are given otherwise
pub meetings-of-heads : (arity depth : ℕ) {A B : Type 0} (f : A → Entry) (g : B → Entry) (ns : List A) (ms : List B) (es fs : List Entry)
    → cell_heads es ≡ map f ns → cell_heads fs ≡ map g ms
    → meetings arity depth es fs ≡ sum_of (λ n. sum_of (λ m. elim (overlaps arity depth (f n) (g m)) [ true ↦ 1 | false ↦ 0 ]) ms) ns
unfolding meetings
meetings-of-heads arity depth f g ns ms es fs p q =
    let one : Entry → Entry → ℕ = λ e h. elim (overlaps arity depth e h) [ true ↦ 1 | false ↦ 0 ] in
    rw (p, q) (sum-map (λ e. sum_of (λ h. one e h) (map g ms)) f ns
    ∙ sum-agree (λ n. sum_of (λ h. one (f n) h) (map g ms)) (λ n. sum_of (λ m. one (f n) (g m)) ms) ns (λ n m. sum-map (λ h. one (f n) h) g ms))
