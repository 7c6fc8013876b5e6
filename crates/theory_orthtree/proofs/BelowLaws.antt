-- Nodes below one another in an orthtree.
-- The idea: the range of a node below another is within it, and children have no key in common. So of two nodes below a third that
-- have a key in common, one is below the other: go down from the third as long as both lie below the same child.
-- Assumes nothing.
use mathlib.Core.Path.{◌≡◌, sym, ap, subst}
use mathlib.Core.List.{List, Memᴰ}
use mathlib.Core.Logic.{◌⊎◌, inl, inr}
use Prim.Native.Nat.{ℕ, suc, ◌<◌}
use native.Mathlib.Omega.{arith}
use Rattle.theory_orthtree.specs.Entries.{span}
use Rattle.theory_orthtree.proofs.RangeLaws.{Within, Inside, inside-within}
use Rattle.theory_orthtree.proofs.TilingLaws.{tiles-inside, tiles-apart}
use Rattle.theory_orthtree.proofs.LeavesLaws.{Tree, children-tile}

-- x is n or a node below it
pub data Below {Node : Type 0} (depth : ℕ) (children : Node → List Node) (level : Node → ℕ) : Node → Node → Type 0 where
  here : {n x : Node} → n ≡ x → Below depth children level n x
  down : {n m x : Node} → level n < depth → Memᴰ m (children n) → Below depth children level m x
      → Below depth children level n x

module _ {Node : Type 0} {arity depth : ℕ} {children : Node → List Node} {key level : Node → ℕ} {InTree : Node → Type 0}
    (tree : Tree arity depth children key level InTree) where
  abbrev size : Node → ℕ
  size n = span arity depth (level n)

  abbrev Under : Node → Node → Type 0
  Under n x = Below depth children level n x

  -- what is below a node of the tree is one
  pub below-nodes : {n x : Node} → InTree n → Under n x → InTree x
  below-nodes good (here e) = subst InTree e good
  below-nodes good (down {n = n} {m = m} l c b) = below-nodes (tree.nodes n good l m c) b

  below-level : {n x : Node} → InTree n → Under n x → (n ≡ x) ⊎ (level n < level x)
  below-level good (here e) = inl e
  below-level {x = x} good (down {n = n} {m = m} l c b) =
      inr (go (tree.levels n good l m c) (below-level (tree.nodes n good l m c) b))
    where
      go : level m ≡ suc (level n) → (m ≡ x) ⊎ (level m < level x) → level n < level x
      go up (inl e) = omega (arith, ap level e)
      go up (inr h) = omega arith

  -- two nodes below one another are equal
  pub below-antisym : {n y : Node} → InTree n → Under n y → Under y n → y ≡ n
  below-antisym {n} {y} good a b = go (below-level good a) (below-level (below-nodes good a) b)
    where
      go : (n ≡ y) ⊎ (level n < level y) → (y ≡ n) ⊎ (level y < level n) → y ≡ n
      go (inl e) d = sym e
      go (inr h) (inl e) = e
      go (inr h) (inr g) = absurd (omega arith)

  -- the range of a node below another is within it
  pub below-inside : {n x : Node} → InTree n → Under n x → Inside (key x) (size x) (key n) (size n)
  below-inside good (here e) = rw e (record { starts = omega arith; ends = omega arith })
  below-inside good (down {n = n} {m = m} l c b) =
      let h = below-inside (tree.nodes n good l m c) b in
      let g = tiles-inside key size (children-tile tree n good l) m c in
      record { starts = omega arith; ends = omega arith }

  -- two children are equal if nodes below them have a key in common
  pub children-apart : {n m o x y : Node} (k : ℕ) → InTree n → level n < depth → Memᴰ m (children n) → Memᴰ o (children n)
      → Under m x → Under o y → Within (key x) (size x) k → Within (key y) (size y) k → m ≡ o
  children-apart {n = n} {m = m} {o = o} k good l c d a b p q =
      tiles-apart key size k (children-tile tree n good l) c d
      (inside-within (below-inside (tree.nodes n good l m c) a) p) (inside-within (below-inside (tree.nodes n good l o d) b) q)

  -- of two nodes below a third that have a key in common, one is below the other
  pub below-comparable : {n x y : Node} (k : ℕ) → InTree n → Under n x → Under n y
      → Within (key x) (size x) k → Within (key y) (size y) k → Under x y ⊎ Under y x
  below-comparable {y = y} k good (here e) c p q = inl (subst (λ z. Under z y) e c)
  below-comparable {x = x} k good (down l d b) (here e) p q = inr (subst (λ z. Under z x) e (down l d b))
  below-comparable {y = y} k good (down {n = n} {m = m} l d b) (down l' d' c) p q =
      let same = children-apart k good l d d' b c p q in
      below-comparable k (tree.nodes n good l m d) b (subst (λ z. Under z y) (sym same) c) p q
