-- The leaves of an orthtree tile the key range of the node that they are below, in rising order.
-- The idea: the children of a node tile its range, so tilings of the children's ranges put together tile the node's. The
-- recursion counts levels; `leaves-stopped` and `leaves-split` are the equations that a reader expects, so that no crate above need
-- look at the count.
-- Assumes nothing.
use mathlib.Core.Path.{◌≡◌, refl}
use mathlib.Core.Bool.{Bool, true, false}
use mathlib.Core.List.{List, [], ◌∷◌, flat_map}
use Prim.Native.Nat.{ℕ, zero, suc, ◌+◌, ◌*◌, ◌-◌, ◌%◌, ◌≤◌, ◌<◌}
use native.Mathlib.Omega.{arith}
use lib.ListN.{length, get_or}
use Rattle.theory_lists.proofs.ListsLaws.{Every, every-cons}
use Rattle.theory_lists.proofs.EveryLaws.{every-nil, every-imp, every-flat_map, flat_map-agree}
use Rattle.theory_orthtree.specs.Leaves.{leaves_below}
use Rattle.theory_orthtree.specs.Entries.{span}
use Rattle.theory_orthtree.proofs.RangeLaws.{span-split}
use Rattle.theory_orthtree.proofs.TilingLaws.{Tiles, tiles-one, tiles-flat_map, tiles-steps}

-- the leaves below a node, as many levels down as there are
abbrev pub leaves_of : {Node : Type 0} → ℕ → (Node → List Node) → (Node → ℕ) → (Node → Bool) → Node → List Node
leaves_of depth children level stopped n = leaves_below children stopped (depth - level n) n

-- a node that is stopped is its only leaf
pub leaves-stopped : {Node : Type 0} (children : Node → List Node) (stopped : Node → Bool) (height : ℕ) (n : Node)
    → stopped n ≡ true → leaves_below children stopped height n ≡ n ∷ []
unfolding leaves_below
leaves-stopped children stopped zero n e = refl
leaves-stopped children stopped (suc height) n e = rw (leaves_below, e)

-- the leaves of a node that is not stopped are those of its children, one level deeper
pub leaves-split : {Node : Type 0} (depth : ℕ) (children : Node → List Node) (level : Node → ℕ) (stopped : Node → Bool) (n : Node)
    → level n < depth → Every (λ m. level m ≡ suc (level n)) (children n) → stopped n ≡ false
    → leaves_of depth children level stopped n ≡ flat_map (leaves_of depth children level stopped) (children n)
unfolding leaves_below
leaves-split depth children level stopped n l h e =
    let d : depth - level n ≡ suc (depth - suc (level n)) = omega arith in
    rw (d, leaves_below, e) (flat_map-agree _ _ (children n) (every-imp (λ m q. rw q) h))

-- by cases on the test of one step
pub every-cases : {Node : Type 0} (P : Node → Type 0) (b : Bool) {n : Node} {ms : List Node}
    → (b ≡ true → P n) → (b ≡ false → Every P ms) → Every P (elim b [ true ↦ n ∷ [] | false ↦ ms ])
every-cases P true t u = every-cons (t refl, every-nil P)
every-cases P false t u = u refl

-- the nodes of a tree: the children of a node are as many as the arity, one level deeper, and child k starts k children's keys
-- after the node. InTree says which values of Node are nodes of the tree.
pub record Tree {Node : Type 0} (arity depth : ℕ) (children : Node → List Node) (key level : Node → ℕ) (InTree : Node → Type 0) : Type 0 where
  pub positive : 0 < arity
  pub deep : (n : Node) → InTree n → level n ≤ depth
  pub aligned : (n : Node) → InTree n → key n % span arity depth (level n) ≡ 0
  pub count : (n : Node) → InTree n → level n < depth → length (children n) ≡ arity
  pub nodes : (n : Node) → InTree n → level n < depth → Every InTree (children n)
  pub levels : (n : Node) → InTree n → level n < depth → Every (λ m. level m ≡ suc (level n)) (children n)
  pub keys : (n : Node) → InTree n → level n < depth → (k : ℕ) → k < arity
      → key (get_or (children n) k n) ≡ key n + k * span arity depth (suc (level n))

module _ {Node : Type 0} {arity depth : ℕ} {children : Node → List Node} {key level : Node → ℕ} {InTree : Node → Type 0}
    (tree : Tree arity depth children key level InTree) where
  -- how many keys a node has
  abbrev size : Node → ℕ
  size n = span arity depth (level n)

  -- the children of a node tile its range
  pub children-tile : (n : Node) → InTree n → level n < depth → Tiles key size (key n) (children n) (key n + size n)
  children-tile n good l =
      tiles-steps key size (span arity depth (suc (level n))) n (children n)
      (every-imp (λ m e. rw e) (tree.levels n good l)) (λ i h. tree.keys n good l i (rw (tree.count n good l) at h))
      (rw (tree.count n good l, span-split arity depth (level n) l))

  module _ (stopped : Node → Bool) where
    tiles-choice : (b : Bool) {n : Node} {ms : List Node} {x y : ℕ} → Tiles key size x (n ∷ []) y → Tiles key size x ms y
        → Tiles key size x (elim b [ true ↦ n ∷ [] | false ↦ ms ]) y
    tiles-choice true t u = t
    tiles-choice false t u = u

    leaves-tile-induct : (h : ℕ) (n : Node) → h + level n ≡ depth → InTree n
        → Tiles key size (key n) (leaves_below children stopped h n) (key n + size n)
    unfolding leaves_below
    leaves-tile-induct zero n e good = tiles-one key size n
    leaves-tile-induct (suc h) n e good =
        let l : level n < depth = omega arith in
        tiles-choice (stopped n) (tiles-one key size n)
        (tiles-flat_map key size (λ m. leaves_below children stopped h m) (children-tile n good l)
        (λ m c. let q = tree.levels n good l m c in leaves-tile-induct h m (omega arith) (tree.nodes n good l m c)))

    -- the leaves below a node tile its key range, in rising order
    pub leaves-tile : (n : Node) → InTree n
        → Tiles key size (key n) (leaves_of depth children level stopped n) (key n + size n)
    leaves-tile n good = let d = tree.deep n good in leaves-tile-induct (depth - level n) n (omega arith) good

    leaves-nodes-induct : (h : ℕ) (n : Node) → h + level n ≡ depth → InTree n → Every InTree (leaves_below children stopped h n)
    unfolding leaves_below
    leaves-nodes-induct zero n e good = every-cons (good, every-nil InTree)
    leaves-nodes-induct (suc h) n e good =
        let l : level n < depth = omega arith in
        every-cases InTree (stopped n) (λ t. good)
        (λ f. every-flat_map (λ m. leaves_below children stopped h m) (children n)
        (λ m c. let q = tree.levels n good l m c in leaves-nodes-induct h m (omega arith) (tree.nodes n good l m c)))

    -- and are nodes of the tree
    pub leaves-nodes : (n : Node) → InTree n → Every InTree (leaves_of depth children level stopped n)
    leaves-nodes n good = let d = tree.deep n good in leaves-nodes-induct (depth - level n) n (omega arith) good
