-- Numbers and lists count whole, however large: what rows and records say of any table, any list and any number.
-- Assumes nothing.
use mathlib.Core.Path.{◌≡◌, refl, ap}
use mathlib.Core.Bool.{Bool, true, false, ◌||◌}
use mathlib.Core.List.{List, [], ◌∷◌, map}
use Prim.Native.Nat.{ℕ, ◌*◌, ◌/◌, ◌%◌, ◌≤◌, ◌<◌}
use borrow.Author.Tests.{le-leb, lt-leb, lt-ltb, ne_eqb}
use lib.ListN.{length}
use Rattle.theory_lists.specs.Lists.{first, up_to, all}
use Rattle.spec_plane.specs.declared.Point.{Point}
use Rattle.spec_plane.specs.Triangle.{proper, holds}
use Rattle.spec_plane.specs.Interior.{CommonInterior}
use Rattle.spec_squares.specs.declared.Square.{Square}
use Rattle.spec_charts.specs.Table.{Table, IsTable, Drawn, triangle_at, table_of, numbered}
use Rattle.spec_charts.specs.Cells.{or_mark, triangles_meeting, entry_of, cell_entries}
use Rattle.spec_charts.specs.declared.Refusal.TheVariants.{BadLength, NoSuchTriangle, TableFull}
use Rattle.spec_charts.specs.Refusals.{refused, refuse_if}
use Rattle.spec_charts.specs.Edits.{given_table, load_table, rotations, flip_among, flip_table, within_table, lowest_holder}
use Rattle.spec_charts.specs.Overlay.{SharesGround}

or-true : (b : Bool) → b || true ≡ true
or-true true = refl
or-true false = refl

-- Tables

-- a table of code
drawn-most : (ns : List ℕ) (n : ℕ) → Drawn ns n → (n ≤ 512) × (6 * n ≤ length ns)
drawn-most ns n h = (h.few, h.room)

drawn-oriented : (ns : List ℕ) (n : ℕ) → Drawn ns n → all (λ t. proper t) (table_of ns n) ≡ true
drawn-oriented ns n h = h.oriented

table-most : (t : Table) → IsTable t → length t ≤ 512
table-most t h = h.few

table_of-all : (ns : List ℕ) (n : ℕ) → table_of ns n ≡ map (λ i. triangle_at ns i) (up_to n)
unfolding table_of
table_of-all ns n = refl

-- Cells

items_of : (s : Square) (is : List ℕ) → map (λ e. e.item) (map (λ i. entry_of s i) is) ≡ is
unfolding entry_of
items_of s [] = refl
items_of s (i ∷ is) = ap (λ l. i ∷ l) (items_of s is)

-- the items of a cell's entries are its triangles, or the mark
cell-items : (table : Table) (s : Square) → map (λ e. e.item) (cell_entries table s) ≡ or_mark (triangles_meeting table s)
unfolding cell_entries
cell-items table s = items_of s (or_mark (triangles_meeting table s))

-- Rows

given-all : (ns : List ℕ) → given_table ns ≡ table_of ns (length ns / 6)
unfolding given_table
given-all ns = refl

load-long : (ns : List ℕ) → 3072 < length ns → load_table ns ≡ refused BadLength
unfolding load_table refuse_if
load-long ns h = rw (lt-ltb 3072 (length ns) h, or-true)

load-uneven : (ns : List ℕ) → (length ns % 6 ≡ 0 → ⊥) → load_table ns ≡ refused BadLength
unfolding load_table refuse_if
load-uneven ns h = rw (ne_eqb (length ns % 6) 0 h)

module _ (i j : ℕ) (table : Table) where
  flip-none : length table ≤ i → flip_table i j table ≡ refused NoSuchTriangle
  unfolding flip_table refuse_if
  flip-none h = rw (le-leb (length table) i h)

  flip-no-other : length table ≤ j → flip_table i j table ≡ refused NoSuchTriangle
  unfolding flip_table refuse_if
  flip-no-other h = rw (le-leb (length table) j h, or-true)

  flip-there : i < length table → j < length table → flip_table i j table ≡ flip_among table i j (rotations (numbered table j)) (rotations (numbered table i))
  unfolding flip_table refuse_if
  flip-there h k = rw (lt-leb (length table) i h, lt-leb (length table) j k)

-- any more triangles than 512 are too many
within-most : (table : Table) → 512 < length table → within_table table ≡ refused TableFull
unfolding within_table refuse_if
within-most table h = rw (lt-ltb 512 (length table) h)

-- every triangle is asked, by its number
holder-all : (p : Point) (table : Table) → lowest_holder p table ≡ first (λ i. holds (numbered table i) p) (up_to (length table))
unfolding lowest_holder
holder-all p table = refl

-- Overlay

shares-in : (s t : Table) (i j : ℕ) → SharesGround s t i j → (i < length s) × (j < length t)
shares-in s t i j h = (h.first, h.second)

shares-ground : (s t : Table) (i j : ℕ) → SharesGround s t i j → CommonInterior (numbered s i) (numbered t j)
shares-ground s t i j h = h.common
