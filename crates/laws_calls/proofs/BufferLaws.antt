-- The chain rule of a chart from its two parts, and the lengths of buffers that are not too short.
-- Assumes nothing.
use mathlib.Core.Path.{◌≡◌, refl, sym, ◌∙◌}
use mathlib.Core.Bool.{Bool, true, false, ◌&&◌, ◌||◌, and-true}
use mathlib.Core.List.{List}
use Prim.Native.Nat.{ℕ, zero, suc, ◌≤◌, ◌<◌}
use native.Mathlib.Omega.{arith}
use borrow.Author.Tests.{ltb-false, le-leb, lt-leb}
use lib.Dec.{T, leb, ltb}
use lib.ListN.{length, take}
use Rattle.theory_lists.specs.Lists.{all}
use Rattle.theory_lists.proofs.Reflects.{reflects-and, reflects-leb, reflects-test, test-true, or-neither}
use Rattle.theory_lists.proofs.ListsLaws.{Every, all-reflects}
use Rattle.theory_orthtree.specs.Entries.{Entry, chain}
use Rattle.spec_plane.specs.Triangle.{proper}
use Rattle.spec_squares.specs.Square.{arity, depth}
use Rattle.spec_charts.specs.Table.{Drawn, table_of, table_length, max_triangles}
use Rattle.spec_charts.specs.Cells.{max_entries}
use Rattle.spec_calls.specs.Buffers.{Chart, Roomy, too_short, zip_entries, chart_table, chart_entries, table_rule, entry_count_fits, entries_rule, chain_rule}

-- each list of the chart is long enough
pub record LongEnough (c : Chart) : Type 0 where
  pub table : table_length ≤ length c.table
  pub lists : Roomy max_entries c.keys c.levels c.items

pub long-enough : (c : Chart) → too_short c ≡ false → LongEnough c
unfolding too_short
long-enough c h =
    let t = ltb (length c.table) table_length in
    let k = ltb (length c.keys) max_entries in
    let l = ltb (length c.levels) max_entries in
    let p = or-neither (t || k || l) (ltb (length c.items) max_entries) h in
    let q = or-neither (t || k) l p.0 in
    let r = or-neither t k q.0 in
    record {
      table = ltb-false (length c.table) table_length r.0;
      lists = record {
        for_keys = ltb-false (length c.keys) max_entries r.1;
        for_levels = ltb-false (length c.levels) max_entries q.1;
        for_items = ltb-false (length c.items) max_entries p.1;
      };
    }

-- room for more is room for fewer
pub roomy-fewer : {n m : ℕ} {ks ls is : List ℕ} → n ≤ m → Roomy m ks ls is → Roomy n ks ls is
roomy-fewer h r =
    record { for_keys = omega (arith, r.for_keys); for_levels = omega (arith, r.for_levels); for_items = omega (arith, r.for_items) }

-- ---- the table's part of the chain rule

-- more than 512 triangles
pub table-many : (ns : List ℕ) (n : ℕ) → max_triangles < n → false ≡ table_rule ns n
unfolding table_rule
table-many ns n h = rw (lt-leb n max_triangles h)

-- else each triangle's D decides
pub table-ruled : (ns : List ℕ) (n : ℕ) → n ≤ max_triangles → {b : Bool} → b ≡ all (λ t. proper t) (table_of ns n) → b ≡ table_rule ns n
unfolding table_rule
table-ruled ns n h e = rw (le-leb n max_triangles h, e)

-- ---- the entries' part

-- more than 16,384 entries
pub entries-many : (c : Chart) → max_entries < c.entry_count → false ≡ entries_rule c
unfolding entries_rule entry_count_fits
entries-many c h = rw (le-leb 1 c.entry_count (omega arith), lt-leb c.entry_count max_entries h)

-- no entries are no chain, so their number need not be looked at again
count-chain : (n k : ℕ) (es : List Entry) → leb 1 n && chain arity depth k (take n es) ≡ chain arity depth k (take n es)
unfolding chain
count-chain zero k es = refl
count-chain (suc n) k es = rw (le-leb 1 (suc n) (omega arith)) refl

-- else the chain decides
pub entries-chained : (c : Chart) → c.entry_count ≤ max_entries → {b : Bool}
    → b ≡ chain arity depth c.triangle_count (take c.entry_count (zip_entries c.keys c.levels c.items)) → b ≡ entries_rule c
unfolding entries_rule entry_count_fits chart_entries
entries-chained c h e =
    rw (le-leb c.entry_count max_entries h, and-true (leb 1 c.entry_count))
    (e ∙ sym (count-chain c.entry_count c.triangle_count (zip_entries c.keys c.levels c.items)))

-- ---- both

pub rule-joined : (c : Chart) → {p q : Bool} → p ≡ table_rule c.table c.triangle_count → q ≡ entries_rule c → p && q ≡ chain_rule c
unfolding chain_rule
rule-joined c p q = rw (p, q)

-- what the chain rule says of a chart
pub record Ruled (c : Chart) : Type 0 where
  pub triangles : c.triangle_count ≤ max_triangles
  pub entries : c.entry_count ≤ max_entries
  pub all_proper : all (λ t. proper t) (chart_table c) ≡ true
  pub good : Every (λ t. T (proper t)) (chart_table c)
  pub chained : T (chain arity depth c.triangle_count (chart_entries c))

pub ruled : (c : Chart) → chain_rule c ≡ true → Ruled c
unfolding chain_rule table_rule entries_rule entry_count_fits chart_table
ruled c e =
    let q = all-reflects (λ t. proper t) (λ t. reflects-test (proper t)) (table_of c.table c.triangle_count) in
    let r =
    reflects-and (reflects-and (reflects-leb c.triangle_count max_triangles) q)
    (reflects-and (reflects-and (reflects-leb 1 c.entry_count) (reflects-leb c.entry_count max_entries))
    (reflects-test (chain arity depth c.triangle_count (chart_entries c)))) in
    let p = r.to (rw e tt) in
    record { triangles = p.0.0; entries = p.1.0.1; all_proper = test-true (q.from p.0.1); good = p.0.1; chained = p.1.1 }

-- a chart that passes refusals 1 and 2 has a table to work on
pub rule-drawn : (c : Chart) → too_short c ≡ false → chain_rule c ≡ true → Drawn c.table c.triangle_count
unfolding chart_table
rule-drawn c s h =
    let r = ruled c h in
    let long = long-enough c s in
    record { few = r.triangles; room = omega (arith, r.triangles, long.table); oriented = r.all_proper }

-- then the lists may be searched
pub searchable : (c : Chart) → too_short c ≡ false → chain_rule c ≡ true
    → Roomy c.entry_count c.keys c.levels c.items
    × (chain arity depth c.triangle_count (take c.entry_count (zip_entries c.keys c.levels c.items)) ≡ true)
unfolding chart_entries
searchable c s e =
    let long = long-enough c s in
    let rule = ruled c e in (roomy-fewer rule.entries long.lists, test-true rule.chained)
