-- The leaves below a node are the only list of nodes that tiles the node's key range and in which each node is stopped and has no
-- stopped node above it.
-- The idea: of two such nodes that have a key in common one is below the other (`below-comparable`), so they are equal; and two
-- tilings in which nodes with a common key are equal are equal (`tilings-unique`).
-- Assumes nothing.
use mathlib.Core.Path.{◌≡◌, refl, sym, subst}
use mathlib.Core.Bool.{Bool, true, false}
use mathlib.Core.List.{List, Memᴰ}
use mathlib.Core.Logic.{inl, inr}
use Prim.Native.Nat.{ℕ, zero, suc, ◌+◌, ◌-◌, ◌<◌}
use native.Mathlib.Omega.{arith}
use Rattle.theory_lists.proofs.ListsLaws.{Every, every-cons}
use Rattle.theory_lists.proofs.EveryLaws.{every-nil, every-imp, every-flat_map}
use Rattle.theory_orthtree.specs.Leaves.{leaves_below}
use Rattle.theory_orthtree.specs.Entries.{span}
use Rattle.theory_orthtree.proofs.EntriesLaws.{span-positive}
use Rattle.theory_orthtree.proofs.RangeLaws.{Within, inside-within}
use Rattle.theory_orthtree.proofs.TilingLaws.{Tiles, tilings-unique}
use Rattle.theory_orthtree.proofs.LeavesLaws.{Tree, leaves_of, every-cases, leaves-tile}
use Rattle.theory_orthtree.proofs.BelowLaws.{Below, here, down, below-nodes, below-antisym, below-inside, children-apart, below-comparable}

-- x is stopped, and of the nodes from n down to x no other is
pub record LeafOf {Node : Type 0} (depth : ℕ) (children : Node → List Node) (level : Node → ℕ) (stopped : Node → Bool)
    (n x : Node) : Type 0 where
  pub below : Below depth children level n x
  pub stop : stopped x ≡ true
  pub first : (y : Node) → Below depth children level n y → Below depth children level y x → stopped y ≡ true → y ≡ x

module _ {Node : Type 0} {arity depth : ℕ} {children : Node → List Node} {key level : Node → ℕ} {InTree : Node → Type 0}
    (tree : Tree arity depth children key level InTree) (stopped : Node → Bool) where
  abbrev size : Node → ℕ
  size n = span arity depth (level n)

  abbrev Leaf : Node → Node → Type 0
  Leaf n x = LeafOf depth children level stopped n x

  size-positive : (x : Node) → 0 < size x
  size-positive x = span-positive arity depth (level x) tree.positive

  first_key : (x : Node) → Within (key x) (size x) (key x)
  first_key x = let h = size-positive x in record { starts = omega arith; ends = omega arith }

  -- leaves of one node that have a key in common are equal
  pub leaf_apart : {n x y : Node} (k : ℕ) → InTree n → Leaf n x → Leaf n y
      → Within (key x) (size x) k → Within (key y) (size y) k → x ≡ y
  leaf_apart {x = x} {y = y} k good a b p q = elim (below-comparable tree k good a.below b.below p q) [
    | inl u ↦ b.first x a.below u a.stop
    | inr u ↦ sym (a.first y b.below u b.stop)
  ]

  -- a stopped node is a leaf of itself
  leaf-self : (n : Node) → InTree n → stopped n ≡ true → Leaf n n
  leaf-self n good e = record { below = here refl; stop = e; first = λ y a b s. below-antisym tree good a b }

  -- a leaf of a child is one of the node, if that is not stopped
  leaf-up-first : {n m x y : Node} → InTree n → stopped n ≡ false → Memᴰ m (children n) → Leaf m x
      → Below depth children level n y → Below depth children level y x → stopped y ≡ true → y ≡ x
  leaf-up-first good e c leaf (here f) b s = cc
  leaf-up-first {x = x} {y = y} good e c leaf (down {n = n} {m = o} l d a) b s =
      let q = below-inside tree (below-nodes tree (tree.nodes n good l o d) a) b in
      let same = children-apart tree (key x) good l d c a leaf.below (inside-within q (first_key x)) (first_key x) in
      leaf.first y (subst (λ z. Below depth children level z y) same a) b s

  leaf-up : {n m x : Node} → InTree n → level n < depth → stopped n ≡ false → Memᴰ m (children n) → Leaf m x → Leaf n x
  leaf-up good l e c leaf = record {
    below = down l c leaf.below;
    stop = leaf.stop;
    first = λ y a b s. leaf-up-first good e c leaf a b s;
  }

  -- the stopping rule keeps to the depth: nodes of the deepest level are stopped
  module _ (bottom : (n : Node) → InTree n → level n ≡ depth → stopped n ≡ true) where
    leaves-are-induct : (h : ℕ) (n : Node) → h + level n ≡ depth → InTree n → Every (λ x. Leaf n x) (leaves_below children stopped h n)
    unfolding leaves_below
    leaves-are-induct zero n e good = every-cons (leaf-self n good (bottom n good (omega arith)), every-nil (λ x. Leaf n x))
    leaves-are-induct (suc h) n e good =
        let l : level n < depth = omega arith in
        every-cases (λ x. Leaf n x) (stopped n) (leaf-self n good)
        (λ f. every-flat_map (λ m. leaves_below children stopped h m) (children n) (λ m c.
        let q = tree.levels n good l m c in
        every-imp (λ x leaf. leaf-up good l f c leaf) (leaves-are-induct h m (omega arith) (tree.nodes n good l m c))))

    -- each leaf is stopped and has no stopped node above it
    pub leaves-are : (n : Node) → InTree n → Every (λ x. Leaf n x) (leaves_of depth children level stopped n)
    leaves-are n good = let d = tree.deep n good in leaves-are-induct (depth - level n) n (omega arith) good

    -- and no other list of such nodes tiles the range
    pub leaves-unique : (n : Node) → InTree n → (ns : List Node) → Tiles key size (key n) ns (key n + size n)
        → Every (λ x. Leaf n x) ns → ns ≡ leaves_of depth children level stopped n
    leaves-unique n good ns t leaf =
        tilings-unique key size (λ m c. size-positive m) (λ m c. size-positive m)
        (λ x y k c d p q. leaf_apart k good (leaf x c) (leaves-are n good y d) p q) t (leaves-tile tree stopped n good)
