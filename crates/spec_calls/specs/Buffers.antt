-- Document 01, "Chart buffers": the lists that a caller lends, the chain rule, and what an indexed chart holds.
-- Assumes nothing.
use Rattle.std.specs.Prelude.{Bool, true, false, ◌&&◌, ◌||◌, List, [], ◌∷◌, ◌++◌, map, ℕ, ◌-◌, ◌≤◌, leb, ltb, eqb, length, take, drop, replicate}
use Rattle.theory_lists.specs.Lists.{all}
use Rattle.theory_orthtree.specs.Entries.{Entry, same_cell, chain}
use Rattle.spec_plane.specs.Triangle.{proper}
use Rattle.spec_squares.specs.Square.{arity, depth}
use Rattle.spec_charts.specs.Table.{Table, table_of, table_numbers, table_length, max_triangles}
use Rattle.spec_charts.specs.Cells.{entries_of, max_entries}

-- "table of 3,072 numbers, three entry lists of 16,384", and the two counts that the caller also passes
pub record Chart : Type 0 where
  pub table : List ℕ
  pub keys : List ℕ
  pub levels : List ℕ
  pub items : List ℕ
  pub triangle_count : ℕ
  pub entry_count : ℕ

-- the chart with these lists and counts
abbrev pub chart_of : List ℕ → List ℕ → List ℕ → List ℕ → ℕ → ℕ → Chart
chart_of table keys levels items triangle_count entry_count = record {
  table = table;
  keys = keys;
  levels = levels;
  items = items;
  triangle_count = triangle_count;
  entry_count = entry_count;
}

-- "pairs of 8,192 (16-bit, i then j for each pair)"
abbrev pub pairs_length : ℕ
pairs_length = 8192

-- three entry lists with room for n entries
pub record Roomy (n : ℕ) (keys levels items : List ℕ) : Type 0 where
  pub for_keys : n ≤ length keys
  pub for_levels : n ≤ length levels
  pub for_items : n ≤ length items

-- refusal 1 of a chart: "a lent buffer is shorter than above"
unfoldable pub too_short : Chart → Bool
too_short c =
    ltb (length c.table) table_length
    || ltb (length c.keys) max_entries
    || ltb (length c.levels) max_entries
    || ltb (length c.items) max_entries

-- "each written list holds 0 after its last used place, up to the lengths above"; "more is allowed and stays untouched"
unfoldable pub padded : ℕ → List ℕ → List ℕ → List ℕ
padded n used before = used ++ replicate (n - length used) 0 ++ drop n before

-- entries from their keys, levels and triangle numbers
unfoldable pub zip_entries : List ℕ → List ℕ → List ℕ → List Entry
zip_entries [] ls is = []
zip_entries (k ∷ ks) [] is = []
zip_entries (k ∷ ks) (l ∷ ls) [] = []
zip_entries (k ∷ ks) (l ∷ ls) (i ∷ is) = record { key = k; level = l; item = i } ∷ zip_entries ks ls is

-- the triangles that the chart's table and count hold
unfoldable pub chart_table : Chart → Table
chart_table c = table_of c.table c.triangle_count

-- the entries that the chart's entry lists and count hold
unfoldable pub chart_entries : Chart → List Entry
chart_entries c = take c.entry_count (zip_entries c.keys c.levels c.items)

-- the table's part of the chain rule: "triangle count ≤ 512, every triangle with D > 0", for the first n triangles of the
-- numbers
unfoldable pub table_rule : List ℕ → ℕ → Bool
table_rule ns n = leb n max_triangles && all (λ t. proper t) (table_of ns n)

-- "entry count 1 to 16,384"
unfoldable pub entry_count_fits : ℕ → Bool
entry_count_fits m = leb 1 m && leb m max_entries

-- the entries' part: their count, and the rest, `chain`
unfoldable pub entries_rule : Chart → Bool
entries_rule c = entry_count_fits c.entry_count && chain arity depth c.triangle_count (chart_entries c)

-- "The chain rule"
unfoldable pub chain_rule : Chart → Bool
chain_rule c = table_rule c.table c.triangle_count && entries_rule c

-- the two lists of entries are the same
unfoldable pub same_entries : List Entry → List Entry → Bool
same_entries [] [] = true
same_entries [] (f ∷ fs) = false
same_entries (e ∷ es) [] = false
same_entries (e ∷ es) (f ∷ fs) =
    elim (same_cell e f && eqb e.item f.item) [ true ↦ same_entries es fs | false ↦ false ]

-- the entries are those of the table; refusal 3 when they are not
unfoldable pub indexed : Chart → Bool
indexed c = same_entries (chart_entries c) (entries_of (chart_table c))

-- the chart that holds the table and the given entries, in the buffers of c
unfoldable pub chart_with : Chart → Table → List Entry → Chart
chart_with c t es = record {
  table = padded table_length (table_numbers t) c.table;
  keys = padded max_entries (map (λ e. e.key) es) c.keys;
  levels = padded max_entries (map (λ e. e.level) es) c.levels;
  items = padded max_entries (map (λ e. e.item) es) c.items;
  triangle_count = length t;
  entry_count = length es;
}

-- the chart that an accepted load or edit leaves: the table with its own entries
unfoldable pub indexed_chart : Chart → Table → Chart
indexed_chart c t = chart_with c t (entries_of t)
