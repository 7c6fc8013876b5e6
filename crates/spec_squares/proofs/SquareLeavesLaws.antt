-- The leaves of the whole square, by any stopping test: they tile the keys below 2 ^ 32, each point of the grid lies in exactly one
-- of them, and their entries satisfy the chain rule and give back, for a point, those of the leaf that it lies in.
-- Each law is the one on orthtrees, for the tree of squares.
-- Assumes nothing.
use mathlib.Core.Path.{◌≡◌}
use mathlib.Core.Bool.{Bool}
use mathlib.Core.List.{List, map, Memᴰ}
use Prim.Native.Nat.{ℕ, ◌^◌, ◌≤◌}
use native.Mathlib.Omega.{arith}
use lib.Dec.{T}
use Rattle.theory_lists.specs.Lists.{filter}
use Rattle.theory_lists.proofs.ListsLaws.{Every, Some}
use Rattle.theory_orthtree.specs.Morton.{lowest_bits, morton_key}
use Rattle.theory_orthtree.specs.Entries.{empty_mark, span, covers, chain, entry}
use Rattle.theory_orthtree.proofs.RangeLaws.{Within}
use Rattle.theory_orthtree.proofs.TilingLaws.{Tiles, tiles-cover, tiles-apart}
use Rattle.theory_orthtree.proofs.LeavesLaws.{leaves_of, leaves-tile, leaves-nodes}
use Rattle.theory_orthtree.proofs.ChainTilingLaws.{Listing, entries_from, tiling-chain}
use Rattle.theory_orthtree.proofs.ChainCellLaws.{cell-of-key}
use Rattle.spec_plane.specs.declared.Point.{Point}
use Rattle.spec_squares.specs.declared.Square.{Square}
use Rattle.spec_squares.specs.Square.{depth, arity, whole_square, quarters, z_order, square_key, Aligned}
use Rattle.spec_squares.proofs.SquareLaws.{whole-aligned, square_key-aligned, square-tree}
use Rattle.spec_plane.proofs.ExtremeLaws.{OnGrid}
use Rattle.spec_squares.proofs.ZOrderLaws.{InSquare, z_order-bound, point-in-square}

abbrev keys : Square → ℕ
keys s = span arity depth s.level

module _ (stopped : Square → Bool) where
  -- the leaves of the whole square
  abbrev pub square_leaves : List Square
  square_leaves = leaves_of depth (λ s. quarters s) (λ s. s.level) stopped whole_square

  -- they tile the keys below 2 ^ 32
  pub whole-tiles : Tiles (λ s. square_key s) keys 0 square_leaves (2 ^ 32)
  unfolding whole_square square_key z_order morton_key lowest_bits span
  whole-tiles = leaves-tile square-tree stopped whole_square whole-aligned

  -- they are squares of the tree
  pub leaves-aligned : Every (λ s. Aligned s) square_leaves
  leaves-aligned = leaves-nodes square-tree stopped whole_square whole-aligned

  -- the key of a point is in the range of a leaf that it lies in
  key-in-leaf : (p : Point) → OnGrid p → {s : Square} → Memᴰ s square_leaves → InSquare s p → Within (square_key s) (keys s) (z_order p)
  key-in-leaf p g {s} m u = (point-in-square s (leaves-aligned s m) p g).0 u

  -- each point of the grid lies in a leaf
  pub leaf-of-point : (p : Point) → OnGrid p → Some (λ s. InSquare s p) square_leaves
  leaf-of-point p g =
      let l = tiles-cover (λ s. square_key s) keys (z_order p) whole-tiles (omega arith) (z_order-bound p) in
      let ok = leaves-aligned l.value l.member in
      record { value = l.value; member = l.member; has = (point-in-square l.value ok p g).1 l.has }

  -- and in no other
  pub leaf-of-point-unique : (p : Point) → OnGrid p → {s t : Square} → Memᴰ s square_leaves → Memᴰ t square_leaves
      → InSquare s p → InSquare t p → s ≡ t
  leaf-of-point-unique p g a b u v =
      tiles-apart (λ s. square_key s) keys (z_order p) whole-tiles a b (key-in-leaf p g a u) (key-in-leaf p g b v)

  -- the entries of the leaves satisfy the chain rule, if the items of each leaf are those that a cell may have
  pub squares-chain : (count : ℕ) → count ≤ empty_mark → (items : Square → List ℕ) → Every (λ s. Listing count (items s)) square_leaves
      → T (chain arity depth count (entries_from (λ s. square_key s) (λ s. s.level) items square_leaves))
  unfolding span
  squares-chain count few items h =
      tiling-chain arity depth count few (λ s. square_key s) (λ s. s.level) items (omega arith) square_leaves whole-tiles (λ s m.
      let ok = leaves-aligned s m in
      record { deep = ok.deep; aligned = square_key-aligned s ok; listing = h s m })

  -- among them the entries of the cell that has a point's key are those of the leaf that the point lies in
  pub cell-of-point : (items : Square → List ℕ) (p : Point) → OnGrid p → {s : Square} → Memᴰ s square_leaves → InSquare s p
      → filter (λ e. covers arity depth (z_order p) e) (entries_from (λ s. square_key s) (λ s. s.level) items square_leaves)
      ≡ map (λ i. entry (square_key s) s.level i) (items s)
  cell-of-point items p g m u =
      cell-of-key arity depth (z_order p) (λ s. square_key s) (λ s. s.level) items whole-tiles m (key-in-leaf p g m u)
