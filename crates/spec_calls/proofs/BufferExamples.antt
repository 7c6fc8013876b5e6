-- Examples of Buffers.antt. What needs no full buffers is shown on short ones.
-- Assumes nothing.
use mathlib.Core.Path.{◌≡◌, refl}
use mathlib.Core.Bool.{true, false}
use mathlib.Core.List.{List, [], ◌∷◌, ◌++◌, map}
use Prim.Native.Nat.{ℕ}
use lib.ListN.{replicate}
use Rattle.theory_orthtree.specs.Entries.{entry}
use Rattle.theory_lists.specs.Lists.{all}
use Rattle.spec_plane.specs.Triangle.{proper}
use Rattle.spec_charts.specs.Table.{table_of}
use Rattle.spec_charts.proofs.EditExamples.{tri, pa, pb, pc}
use Rattle.spec_calls.specs.Buffers.{Chart, chart_of, pairs_length, too_short, padded, zip_entries, chart_table, chart_entries, table_rule, entry_count_fits, chain_rule, same_entries, indexed, chart_with, indexed_chart}
use Rattle.spec_calls.proofs.Evaluate.{evaluate}

lists-example : chart_of (1 ∷ []) (2 ∷ []) (3 ∷ []) (4 ∷ []) 5 6
    ≡ record { table = 1 ∷ []; keys = 2 ∷ []; levels = 3 ∷ []; items = 4 ∷ []; triangle_count = 5; entry_count = 6 }
lists-example = refl

pairs-length-example : pairs_length ≡ 8192
pairs-length-example = refl

-- buffers of the lengths given
abbrev lent : ℕ → ℕ → ℕ → ℕ → Chart
lent t k l i = chart_of (replicate t 7) (replicate k 7) (replicate l 7) (replicate i 7) 0 0

-- exactly as long as asked; then each alone one shorter
too_short-example :
    too_short (lent 3072 16384 16384 16384)
    ∷ too_short (lent 3071 16384 16384 16384)
    ∷ too_short (lent 3072 16383 16384 16384)
    ∷ too_short (lent 3072 16384 16383 16384)
    ∷ too_short (lent 3072 16384 16384 16383)
    ∷ []
    ≡ false ∷ true ∷ true ∷ true ∷ true ∷ []
unfolding evaluate
too_short-example = refl

-- what is used, zeros up to n, and what was there from n on; n may be full
padded-example : padded 5 (1 ∷ 2 ∷ []) (3 ∷ 4 ∷ 5 ∷ 6 ∷ 7 ∷ 8 ∷ 9 ∷ []) ∷ padded 2 (1 ∷ 2 ∷ []) (3 ∷ 4 ∷ 5 ∷ []) ∷ padded 3 [] (4 ∷ 5 ∷ 6 ∷ 7 ∷ []) ∷ []
    ≡ (1 ∷ 2 ∷ 0 ∷ 0 ∷ 0 ∷ 8 ∷ 9 ∷ []) ∷ (1 ∷ 2 ∷ 5 ∷ []) ∷ (0 ∷ 0 ∷ 0 ∷ 7 ∷ []) ∷ []
unfolding evaluate
padded-example = refl

-- as many as the shortest of the three lists has
zip_entries-example :
    zip_entries (1 ∷ 2 ∷ 3 ∷ []) (4 ∷ 5 ∷ 6 ∷ []) (7 ∷ 8 ∷ 9 ∷ [])
    ∷ zip_entries (1 ∷ []) (4 ∷ 5 ∷ []) (7 ∷ 8 ∷ 9 ∷ [])
    ∷ zip_entries (1 ∷ 2 ∷ 3 ∷ []) (4 ∷ []) (7 ∷ 8 ∷ [])
    ∷ zip_entries (1 ∷ 2 ∷ []) (4 ∷ 5 ∷ 6 ∷ []) (7 ∷ [])
    ∷ []
    ≡ (entry 1 4 7 ∷ entry 2 5 8 ∷ entry 3 6 9 ∷ [])
    ∷ (entry 1 4 7 ∷ [])
    ∷ (entry 1 4 7 ∷ [])
    ∷ (entry 1 4 7 ∷ [])
    ∷ []
unfolding evaluate
zip_entries-example = refl

-- more numbers than the counts say
abbrev longer : Chart
longer = chart_of (10 ∷ 20 ∷ 50 ∷ 11 ∷ 31 ∷ 70 ∷ 9 ∷ 9 ∷ 9 ∷ 9 ∷ 9 ∷ 9 ∷ 9 ∷ []) (1 ∷ 2 ∷ 3 ∷ []) (4 ∷ 5 ∷ 6 ∷ []) (7 ∷ 8 ∷ 9 ∷ []) 1 2

chart_table-example : chart_table longer ≡ tri pa pb pc ∷ []
unfolding evaluate
chart_table-example = refl

chart_entries-example : chart_entries longer ≡ entry 1 4 7 ∷ entry 2 5 8 ∷ []
unfolding evaluate
chart_entries-example = refl

-- The chain rule

-- 1 and 16,384 entries pass, 0 and 16,385 do not
entry_count_fits-example : map (λ m. entry_count_fits m) (0 ∷ 1 ∷ 16384 ∷ 16385 ∷ []) ≡ false ∷ true ∷ true ∷ false ∷ []
unfolding evaluate
entry_count_fits-example = refl

-- the third triangle has D = 0
abbrev three : List ℕ
three = 0 ∷ 0 ∷ 9 ∷ 1 ∷ 0 ∷ 5 ∷ 0 ∷ 0 ∷ 9 ∷ 1 ∷ 0 ∷ 5 ∷ 0 ∷ 0 ∷ 9 ∷ 3 ∷ 3 ∷ 1 ∷ []

table_rule-example : map (λ n. table_rule three n) (0 ∷ 2 ∷ 3 ∷ []) ≡ true ∷ true ∷ false ∷ []
unfolding evaluate
table_rule-example = refl

-- 512 triangles are judged, 513 are too many, whatever the numbers
table_rule-most-example : (ns : List ℕ) → (table_rule ns 512 ≡ all (λ t. proper t) (table_of ns 512)) × (table_rule ns 513 ≡ false)
unfolding table_rule
table_rule-most-example ns = (refl, refl)

-- one triangle in one cell: the counts, the triangle and the chain each wrong alone
abbrev whole : List ℕ → ℕ → ℕ → Chart
whole t n e = chart_of t (0 ∷ []) (0 ∷ []) (0 ∷ []) n e

abbrev one : List ℕ
one = 10 ∷ 20 ∷ 50 ∷ 11 ∷ 31 ∷ 70 ∷ []

-- 16,385 as the count of one entry; D = 0; a second triangle with D < 0, counted or not
chain_rule-example :
    chain_rule (whole one 1 1)
    ∷ chain_rule (whole one 1 16384)
    ∷ chain_rule (whole one 1 16385)
    ∷ chain_rule (whole (10 ∷ 20 ∷ 50 ∷ 11 ∷ 50 ∷ 11 ∷ []) 1 1)
    ∷ chain_rule (whole (one ++ (50 ∷ 11 ∷ 10 ∷ 20 ∷ 31 ∷ 70 ∷ [])) 2 1)
    ∷ chain_rule (whole (one ++ (50 ∷ 11 ∷ 10 ∷ 20 ∷ 31 ∷ 70 ∷ [])) 1 1)
    ∷ []
    ≡ true ∷ true ∷ false ∷ false ∷ false ∷ true ∷ []
unfolding evaluate
chain_rule-example = refl

-- no entry; a cell at level 1 alone; a triangle number that is the count; the mark; a level 1 cell of four; a level of 17
chain_example :
    map
    (λ c. chain_rule c)
    (chart_of one (0 ∷ []) (0 ∷ []) (0 ∷ []) 1 0
    ∷ chart_of one (0 ∷ []) (1 ∷ []) (0 ∷ []) 1 1
    ∷ chart_of one (0 ∷ []) (0 ∷ []) (1 ∷ []) 1 1
    ∷ chart_of one (0 ∷ []) (0 ∷ []) (65535 ∷ []) 1 1
    ∷ chart_of one (0 ∷ 1073741824 ∷ 2147483648 ∷ 3221225472 ∷ []) (1 ∷ 1 ∷ 1 ∷ 1 ∷ []) (0 ∷ 65535 ∷ 0 ∷ 0 ∷ []) 1 4
    ∷ chart_of one (0 ∷ 1073741824 ∷ 2147483648 ∷ 3221225472 ∷ []) (1 ∷ 1 ∷ 1 ∷ 1 ∷ []) (0 ∷ 65535 ∷ 0 ∷ 0 ∷ []) 1 3
    ∷ chart_of [] (0 ∷ []) (0 ∷ []) (0 ∷ []) 0 1
    ∷ [])
    ≡ false ∷ false ∷ false ∷ true ∷ true ∷ false ∷ false ∷ []
unfolding evaluate
chain_example = refl

-- Built

-- key, level and triangle each different alone, first or second; longer and shorter
same_entries-example :
    map
    (λ fs. same_entries (entry 1 4 7 ∷ entry 2 5 8 ∷ []) fs)
    ((entry 1 4 7 ∷ entry 2 5 8 ∷ [])
    ∷ (entry 3 4 7 ∷ entry 2 5 8 ∷ [])
    ∷ (entry 1 3 7 ∷ entry 2 5 8 ∷ [])
    ∷ (entry 1 4 3 ∷ entry 2 5 8 ∷ [])
    ∷ (entry 1 4 7 ∷ entry 2 5 9 ∷ [])
    ∷ (entry 1 4 7 ∷ [])
    ∷ (entry 1 4 7 ∷ entry 2 5 8 ∷ entry 2 5 9 ∷ [])
    ∷ [])
    ≡ true ∷ false ∷ false ∷ false ∷ false ∷ false ∷ false ∷ []
unfolding evaluate
same_entries-example = refl

no-entries-example : same_entries [] [] ∷ same_entries [] (entry 1 4 7 ∷ []) ∷ same_entries (entry 1 4 7 ∷ []) [] ∷ [] ≡ true ∷ false ∷ false ∷ []
unfolding evaluate
no-entries-example = refl

-- V has one entry in each quarter, and U does not; one entry of four is missing, or names another triangle
abbrev quartered : List ℕ → List ℕ → ℕ → Chart
quartered t is n = chart_of t (0 ∷ 1073741824 ∷ 2147483648 ∷ 3221225472 ∷ []) (1 ∷ 1 ∷ 1 ∷ 1 ∷ []) is 1 n

indexed-example :
    indexed (quartered (65535 ∷ 65535 ∷ 0 ∷ 65535 ∷ 65535 ∷ 0 ∷ []) (0 ∷ 0 ∷ 0 ∷ 0 ∷ []) 4)
    ∷ indexed (quartered (0 ∷ 0 ∷ 65535 ∷ 0 ∷ 0 ∷ 65535 ∷ []) (0 ∷ 0 ∷ 0 ∷ 0 ∷ []) 4)
    ∷ indexed (quartered (65535 ∷ 65535 ∷ 0 ∷ 65535 ∷ 65535 ∷ 0 ∷ []) (0 ∷ 0 ∷ 0 ∷ 0 ∷ []) 3)
    ∷ indexed (quartered (65535 ∷ 65535 ∷ 0 ∷ 65535 ∷ 65535 ∷ 0 ∷ []) (65535 ∷ 0 ∷ 0 ∷ 0 ∷ []) 4)
    ∷ []
    ≡ true ∷ false ∷ false ∷ false ∷ []
unfolding evaluate
indexed-example = refl

-- the table and any entries, each list in its place, zeros behind them and what was there beyond
chart_with-example :
    chart_with
    (chart_of (replicate 3073 9) (replicate 16385 8) (replicate 16386 7) (replicate 16387 6) 5 4)
    (tri pa pb pc ∷ [])
    (entry 1 4 7 ∷ entry 2 5 8 ∷ [])
    ≡ record {
      table = 10 ∷ 20 ∷ 50 ∷ 11 ∷ 31 ∷ 70 ∷ replicate 3066 0 ++ (9 ∷ []);
      keys = 1 ∷ 2 ∷ replicate 16382 0 ++ (8 ∷ []);
      levels = 4 ∷ 5 ∷ replicate 16382 0 ++ (7 ∷ 7 ∷ []);
      items = 7 ∷ 8 ∷ replicate 16382 0 ++ (6 ∷ 6 ∷ 6 ∷ []);
      triangle_count = 1;
      entry_count = 2;
    }
unfolding evaluate
chart_with-example = refl

-- with the table's own entries: the empty table has one
indexed_chart-example : (c : Chart) → indexed_chart c [] ≡ chart_with c [] (entry 0 0 65535 ∷ [])
unfolding evaluate
indexed_chart-example c = refl

-- over the chart of V, which has four cells, too: the cells of the table before it play no part
indexed_chart-over-example : (indexed_chart (quartered (65535 ∷ 65535 ∷ 0 ∷ 65535 ∷ 65535 ∷ 0 ∷ []) (0 ∷ 0 ∷ 0 ∷ 0 ∷ []) 4) []).entry_count ≡ 1
unfolding evaluate
indexed_chart-over-example = refl
