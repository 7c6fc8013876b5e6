-- Document 01, "Reading": locate, cell listing, soundness and doubled area; document 02, wish 1: the position that locate reports.
-- Assumes nothing.
use Rattle.std.specs.Prelude.{Bool, not, ◌||◌, List, map, ℕ, eqb, length}
use Rattle.std.proofs.Math.Option.{Option, none, some}
use Rattle.theory_lists.specs.Lists.{all, filter, first, sum_of, up_to}
use Rattle.theory_orthtree.specs.Entries.{Entry, is_mark, covers}
use Rattle.spec_plane.specs.declared.Point.{Point}
use Rattle.spec_plane.specs.declared.Position.{Position}
use Rattle.spec_plane.specs.declared.Position.TheVariants.{Outside}
use Rattle.spec_plane.specs.Triangle.{holds, doubled_area}
use Rattle.spec_plane.specs.Position.{position}
use Rattle.spec_plane.specs.Interior.{interiors_meet}
use Rattle.spec_squares.specs.Square.{arity, depth, z_order}
use Rattle.spec_charts.specs.Table.{Table, numbered}

-- the entries of the cell "whose key range has Z(p)"
unfoldable pub cell_of : List Entry → Point → List Entry
cell_of es p = filter (λ e. covers arity depth (z_order p) e) es

-- "Cell listing of p: that cell's triangle numbers", "an empty part for the mark 65,535"
unfoldable pub listing : List Entry → Point → List ℕ
listing es p = map (λ e. e.item) (filter (λ e. not (is_mark e)) (cell_of es p))

-- "Locate p: the lowest numbered triangle, among those listed in the cell whose key range has Z(p), that holds p; else
-- nowhere": the first, as listings ascend
unfoldable pub located : Table → List Entry → Point → Option ℕ
located table es p = first (λ i. holds (numbered table i) p) (listing es p)

-- wish 1: what "locate reports .. beside the triangle number", the position of p by the triangle found, "as outside when the answer
-- is nowhere"
unfoldable pub found_position : Table → Point → Option ℕ → Position
found_position table p none = Outside
found_position table p (some i) = position (numbered table i) p

-- "Soundness: yes exactly when no two different triangle numbers of the table have a point strictly inside both"
unfoldable pub sound : Table → Bool
sound table =
    all
    (λ i. all (λ j. eqb i j || not (interiors_meet (numbered table i) (numbered table j))) (up_to (length table)))
    (up_to (length table))

-- "Doubled area: the sum over the table"
unfoldable pub total_area : Table → ℕ
total_area table = sum_of (λ t. doubled_area t) table
