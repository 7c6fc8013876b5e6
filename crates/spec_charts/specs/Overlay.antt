-- Document 01, "Overlay": the pairs of triangles that share ground, and the meetings.
-- Assumes nothing.
use Rattle.std.specs.Prelude.{◌≡◌, Bool, true, false, ◌&&◌, ◌⊎◌, ℕ, ◌+◌, ◌<◌, ltb, length}
use mathlib.Core.List.{List, [], ◌∷◌, map, flat_map}
use Rattle.theory_lists.specs.Lists.{filter, up_to, sum_of}
use Rattle.theory_orthtree.specs.Entries.{Entry, span, listed_together, meetings}
use Rattle.spec_plane.specs.Interior.{CommonInterior, interiors_meet}
use Rattle.spec_squares.specs.declared.Square.{Square}
use Rattle.spec_squares.specs.Square.{arity, depth, square_key}
use Rattle.spec_charts.specs.Table.{Table, numbered}
use Rattle.spec_charts.specs.Cells.{cells}
use Rattle.spec_charts.specs.declared.Refusal.TheVariants.{TooManyPairs}
use Rattle.spec_charts.specs.Refusals.{Outcome, done, refuse_if}

-- triangle i of the first chart with triangle j of the second
pub record Pair : Type 0 where
  pub i : ℕ
  pub j : ℕ

-- the pair of two numbers
abbrev pub pair : ℕ → ℕ → Pair
pair i j = record { i = i; j = j }

-- "ascending by i, then j": p comes before q
abbrev pub Earlier : Pair → Pair → Type 0
Earlier p q = (p.i < q.i) ⊎ ((p.i ≡ q.i) × (p.j < q.j))

-- "i then j for each pair"
unfoldable pub pair_numbers : List Pair → List ℕ
pair_numbers ps = flat_map (λ p. p.i ∷ p.j ∷ []) ps

-- "The answer: pair count, pairs, and the meetings"; the pair count is the length of the pairs
pub record OverlayAnswer : Type 0 where
  pub pairs : List Pair
  pub meets : ℕ

-- "A pair is listed exactly when a cell listing i and a cell listing j overlap so and some point is strictly inside both
-- triangles"
unfoldable pub pair_listed : Table → List Entry → Table → List Entry → ℕ → ℕ → Bool
pair_listed s es t fs i j = interiors_meet (numbered s i) (numbered t j) && listed_together arity depth es fs i j

-- the pairs listed, "ascending by i, then j, none twice"
unfoldable pub pairs_listed : Table → List Entry → Table → List Entry → List Pair
pairs_listed s es t fs =
    flat_map
    (λ i. map (λ j. pair i j) (filter (λ j. pair_listed s es t fs i j) (up_to (length t))))
    (up_to (length s))

-- the most pairs of an overlay
abbrev pub max_pairs : ℕ
max_pairs = 4096

-- refusal 12: "over 4,096 pairs"
unfoldable pub within_pairs : List Pair → ℕ → Outcome OverlayAnswer
within_pairs ps m = refuse_if (ltb max_pairs (length ps)) TooManyPairs (done (record { pairs = ps; meets = m }))

-- the overlay of two tables with their entries
unfoldable pub overlay_of : Table → List Entry → Table → List Entry → Outcome OverlayAnswer
overlay_of s es t fs = within_pairs (pairs_listed s es t fs) (meetings arity depth es fs)

-- What the overlay of two plain tables with their own entries comes to, said without entries

-- "Pair i, j shares ground when some point lies strictly inside triangle i of the first plain table and triangle j of the second"
pub record SharesGround (s t : Table) (i j : ℕ) : Type 0 where
  pub first : i < length s
  pub second : j < length t
  pub common : CommonInterior (numbered s i) (numbered t j)

-- how many keys a square covers
abbrev pub keys_of : Square → ℕ
keys_of s = span arity depth s.level

-- the key ranges of two squares overlap: each starts before the other ends
unfoldable pub ranges_overlap : Square → Square → Bool
ranges_overlap q r = ltb (square_key q) (square_key r + keys_of r) && ltb (square_key r) (square_key q + keys_of q)

-- "the number of pairs of cells of the plain tables, one of each, whose key ranges overlap"
unfoldable pub cell_meetings : Table → Table → ℕ
cell_meetings s t = sum_of (λ q. sum_of (λ r. elim (ranges_overlap q r) [ true ↦ 1 | false ↦ 0 ]) (cells t)) (cells s)
