-- The chart that an accepted load or edit leaves: its table and its entries can be read back, and it passes the tests that an
-- edit makes first (refusals 1, 2 and 3).
-- The idea: what is used stands at the start of each list, so the zeros and old contents after it play no part.
-- Assumes nothing.
use mathlib.Core.Path.{◌≡◌, refl, sym, ◌∙◌, ap}
use mathlib.Core.Bool.{true, false}
use mathlib.Core.List.{List, [], ◌∷◌, ◌++◌, map, append_assoc}
use Prim.Native.Nat.{ℕ, ◌+◌, ◌*◌, ◌-◌, ◌≤◌, ◌<◌}
use native.Mathlib.Omega.{arith}
use lib.ListN.{length, get_or, take, drop, replicate, length-append, length-drop, length-map, length-replicate, get_or-append}
use lib.Seq.{ext_get_or}
use Rattle.theory_lists.specs.Lists.{all}
use Rattle.theory_lists.proofs.Reflects.{test-true}
use Rattle.theory_lists.proofs.ListsLaws.{get_or-stride}
use Rattle.theory_lists.proofs.FlatMapLaws.{flat_map-length}
use Rattle.theory_orthtree.specs.Entries.{Entry, chain}
use Rattle.spec_plane.specs.Triangle.{Triangle, proper}
use Rattle.spec_squares.specs.Square.{arity, depth}
use Rattle.spec_charts.specs.Table.{Table, point_at, triangle_at, table_of, triangle_numbers, table_numbers, numbered, no_triangle, table_length, max_triangles, numbers_per_triangle}
use Rattle.spec_charts.specs.Cells.{entries_of, max_entries}
use Rattle.laws_charts.proofs.ChainOfTable.{entries-chain}
use Rattle.laws_charts.proofs.TableLaws.{numbered-at, table_of-length}
use Rattle.spec_calls.specs.Buffers.{Chart, too_short, padded, zip_entries, chart_table, chart_entries, chain_rule, indexed, chart_with, indexed_chart}
use Rattle.laws_calls.proofs.EntriesLaws.{same_entries-reflects}
use Rattle.laws_calls.proofs.BufferLaws.{long-enough, table-ruled, entries-chained, rule-joined}

-- ---- the table

-- a triangle has six numbers
numbers-each : (t : Triangle) → length (triangle_numbers t) ≡ numbers_per_triangle
unfolding triangle_numbers
numbers-each t = refl

-- so a table has six for each of its triangles
pub table-length : (t : Table) → length (table_numbers t) ≡ numbers_per_triangle * length t
unfolding table_numbers
table-length t = flat_map-length (λ s. triangle_numbers s) numbers_per_triangle numbers-each t

module _ (t : Table) (rest : List ℕ) (i : ℕ) (h : i < length t) where
  -- number m of triangle i stands at place k
  number_at : (k m : ℕ) → k ≡ numbers_per_triangle * i + m → m < numbers_per_triangle → get_or (table_numbers t ++ rest) k 0 ≡ get_or (triangle_numbers (numbered t i)) m 0
  unfolding table_numbers numbered
  number_at k m e l =
      get_or-append (table_numbers t) rest 0 k (omega (arith, table-length t))
      ∙ ap (λ j. get_or (table_numbers t) j 0) e
      ∙ get_or-stride (λ s. triangle_numbers s) numbers_per_triangle numbers-each t i m no_triangle h l

  -- triangle i
  triangle-at : triangle_at (table_numbers t ++ rest) i ≡ numbered t i
  unfolding triangle_at point_at triangle_numbers
  triangle-at =
      let ax = number_at (numbers_per_triangle * i) 0 (omega arith) (omega arith) in
      let ay = number_at (numbers_per_triangle * i + 1) 1 (omega arith) (omega arith) in
      let bx = number_at (numbers_per_triangle * i + 2) 2 (omega arith) (omega arith) in
      let by = number_at (numbers_per_triangle * i + 2 + 1) 3 (omega arith) (omega arith) in
      let cx = number_at (numbers_per_triangle * i + 4) 4 (omega arith) (omega arith) in
      let cy = number_at (numbers_per_triangle * i + 4 + 1) 5 (omega arith) (omega arith) in
      λ j. record { a = record { x = ax j; y = ay j }; b = record { x = bx j; y = by j }; c = record { x = cx j; y = cy j } }

-- the triangles are read from their numbers, whatever comes after
numbers-table : (t : Table) (rest : List ℕ) → table_of (table_numbers t ++ rest) (length t) ≡ t
unfolding numbered
numbers-table t rest =
    let ns = table_numbers t ++ rest in
    let e = table_of-length ns (length t) in
    ext_get_or no_triangle (table_of ns (length t)) t e (λ i h.
    numbered-at ns (length t) i (omega arith) ∙ triangle-at t rest i (omega arith))

-- a padded list starts with what is used
padded-front : (n : ℕ) (u l : List ℕ) → padded n u l ≡ u ++ (replicate (n - length u) 0 ++ drop n l)
unfolding padded
padded-front n u l = append_assoc u (replicate (n - length u) 0) (drop n l)

-- so the triangles are read from a padded list
padded-table : (n : ℕ) (t : Table) (l : List ℕ) → table_of (padded n (table_numbers t) l) (length t) ≡ t
padded-table n t l = rw (padded-front n (table_numbers t) l) (numbers-table t (replicate (n - length (table_numbers t)) 0 ++ drop n l))

-- the chart's table is the one that it was made for
pub indexed-table : (c : Chart) (t : Table) → chart_table (indexed_chart c t) ≡ t
unfolding chart_table indexed_chart chart_with
indexed-table c t = padded-table table_length t c.table

-- ---- the entries

-- the entries are read from their keys, levels and items, whatever comes after
zip-take : (es : List Entry) (ks ls is : List ℕ)
    → take (length es) (zip_entries (map (λ e. e.key) es ++ ks) (map (λ e. e.level) es ++ ls) (map (λ e. e.item) es ++ is)) ≡ es
unfolding zip_entries
zip-take [] ks ls is = refl
zip-take (e ∷ es) ks ls is = ap (λ l. e ∷ l) (zip-take es ks ls is)

-- so they are read from padded lists
padded-entries : (n : ℕ) (es : List Entry) (ks ls is : List ℕ)
    → take (length es) (zip_entries (padded n (map (λ e. e.key) es) ks) (padded n (map (λ e. e.level) es) ls) (padded n (map (λ e. e.item) es) is)) ≡ es
padded-entries n es ks ls is =
    rw (padded-front n (map (λ e. e.key) es) ks, padded-front n (map (λ e. e.level) es) ls, padded-front n (map (λ e. e.item) es) is)
    (zip-take es _ _ _)

-- the chart's entries are those of its table
pub indexed-entries : (c : Chart) (t : Table) → chart_entries (indexed_chart c t) ≡ entries_of t
unfolding chart_entries indexed_chart chart_with
indexed-entries c t = padded-entries max_entries (entries_of t) c.keys c.levels c.items

-- ---- the tests

-- a padded list is as long as the list before it
padded-length : (n : ℕ) (u l : List ℕ) → length u ≤ n → n ≤ length l → length (padded n u l) ≡ length l
padded-length n u l h b =
    rw (padded-front n u l, length-append, length-append, length-drop)
    (omega (arith, length-replicate {A = ℕ} (n - length u) 0))

-- buffers of the same lengths are too short or long enough together
short-same : (c d : Chart) → length d.table ≡ length c.table → length d.keys ≡ length c.keys
    → length d.levels ≡ length c.levels → length d.items ≡ length c.items → too_short d ≡ too_short c
unfolding too_short
short-same c d t k l i = rw (t, k, l, i)

-- refusals 1, 2 and 3 of an edit do not arise
pub record Editable (c : Chart) : Type 0 where
  pub long : too_short c ≡ false
  pub chained : chain_rule c ≡ true
  pub same : indexed c ≡ true

module _ (c : Chart) (t : Table) where
  -- not refusal 3
  indexed-same : indexed (indexed_chart c t) ≡ true
  unfolding indexed
  indexed-same =
      let d = indexed_chart c t in
      test-true ((same_entries-reflects (chart_entries d) (entries_of (chart_table d))).from
      (indexed-entries c t ∙ ap entries_of (sym (indexed-table c t))))

  module _ (few : length t ≤ max_triangles) (small : length (entries_of t) ≤ max_entries) where
    -- not refusal 1
    indexed-long : too_short c ≡ false → too_short (indexed_chart c t) ≡ false
    unfolding indexed_chart chart_with
    indexed-long s =
        let long = long-enough c s in
        let es = entries_of t in
        short-same c (indexed_chart c t)
        (padded-length table_length (table_numbers t) c.table (omega (arith, table-length t)) long.table)
        (padded-length max_entries (map (λ e. e.key) es) c.keys (omega (arith, length-map es (λ e. e.key))) long.lists.for_keys)
        (padded-length max_entries (map (λ e. e.level) es) c.levels (omega (arith, length-map es (λ e. e.level))) long.lists.for_levels)
        (padded-length max_entries (map (λ e. e.item) es) c.items (omega (arith, length-map es (λ e. e.item))) long.lists.for_items)
        ∙ s

    -- not refusal 2
    indexed-chain : all (λ s. proper s) t ≡ true → chain_rule (indexed_chart c t) ≡ true
    unfolding chart_table chart_entries indexed_chart chart_with
    indexed-chain p =
        let d = indexed_chart c t in
        sym (rule-joined d
        (table-ruled d.table (length t) few (sym (ap (all (λ s. proper s)) (indexed-table c t) ∙ p)))
        (entries-chained d small (sym (ap (chain arity depth (length t)) (indexed-entries c t) ∙ test-true (entries-chain t few)))))

    -- the chart of a table within the limits whose triangles have D > 0, in buffers that are long enough
    pub indexed-editable : too_short c ≡ false → all (λ s. proper s) t ≡ true → Editable (indexed_chart c t)
    indexed-editable s p = record { long = indexed-long s; chained = indexed-chain p; same = indexed-same }
