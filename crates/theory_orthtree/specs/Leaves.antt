-- The leaves of an orthtree by any stopping test (document 01, "Cells and entries": cells).
-- Assumes nothing.
use Rattle.std.specs.Prelude.{Bool, true, false, ℕ, zero, suc}
use mathlib.Core.List.{List, [], ◌∷◌, flat_map}

module _ {Node : Type 0} (children : Node → List Node) (stopped : Node → Bool) where
  -- the node itself if it is stopped, else the leaves below its children in order; at most `height` levels down
  unfoldable pub leaves_below : ℕ → Node → List Node
  leaves_below zero n = n ∷ []
  leaves_below (suc height) n =
      elim (stopped n) [ true ↦ n ∷ [] | false ↦ flat_map (λ m. leaves_below height m) (children n) ]
