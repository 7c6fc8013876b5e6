-- Numbers count whole: examples with keys, levels, triangle numbers and counts beyond 16 and 32 bits, and with lists of 512 numbers and more.
-- Assumes nothing.
use mathlib.Core.Path.{◌≡◌, refl}
use mathlib.Core.Bool.{true, false}
use mathlib.Core.List.{List, [], ◌∷◌, map}
use Prim.Native.Nat.{ℕ, ◌<◌}
use native.Mathlib.Omega.{arith}
use borrow.Author.Tests.{lt-leb}
use lib.ListN.{length, take, replicate}
use Rattle.theory_orthtree.specs.Entries.{entry}
use Rattle.spec_charts.specs.Table.{no_triangle}
use Rattle.spec_charts.specs.declared.Refusal.TheVariants.{FaultyTriangle}
use Rattle.spec_charts.specs.Refusals.{refused, done}
use Rattle.spec_charts.specs.Edits.{flip}
use Rattle.spec_charts.specs.Overlay.{pair}
use Rattle.spec_calls.specs.Buffers.{Chart, chart_of, Roomy, padded, zip_entries, chart_table, chart_entries, table_rule, entry_count_fits, entries_rule, chain_rule, same_entries, chart_with}
use Rattle.spec_calls.specs.Calls.{changed_by, edit_call, flip_call, area_call, overlaid_by}
use Rattle.spec_calls.specs.History.{event_call}
use Rattle.spec_calls.specs.Lent.{Held, HeldMut, held, held_mut, viewed, viewed_mut}
use Rattle.spec_calls.proofs.Evaluate.{evaluate}

-- Buffers

-- a chart of one entry, for triangle 0, with any counts
abbrev counting : ℕ → ℕ → Chart
counting n m = chart_of [] (0 ∷ []) (0 ∷ []) (0 ∷ []) n m

chart_of-large : counting 5000000003 6000000005
    ≡ record { table = []; keys = 0 ∷ []; levels = 0 ∷ []; items = 0 ∷ []; triangle_count = 5000000003; entry_count = 6000000005 }
chart_of-large = refl

held-large : (table keys levels items : Held) → held table keys levels items 5000000003 6000000005
    ≡ chart_of table.now keys.now levels.now items.now 5000000003 6000000005
held-large table keys levels items = refl

held_mut-large : (table keys levels items : HeldMut) → held_mut table keys levels items 5000000003 6000000005
    ≡ chart_of table.now keys.now levels.now items.now 5000000003 6000000005
held_mut-large table keys levels items = refl

viewed-large : (table keys levels items : Held) → viewed (record { table = table; keys = keys; levels = levels; items = items; triangles = 5000000003; entries = 6000000005 })
    ≡ chart_of table.now keys.now levels.now items.now 5000000003 6000000005
viewed-large table keys levels items = refl

viewed_mut-large : (table keys levels items : HeldMut) → viewed_mut (record { table = table; keys = keys; levels = levels; items = items; triangles = 5000000003; entries = 6000000005 })
    ≡ chart_of table.now keys.now levels.now items.now 5000000003 6000000005
viewed_mut-large table keys levels items = refl

roomy-large : Roomy 1 (replicate 512 0) (replicate 512 0) (replicate 512 0)
roomy-large = record { for_keys = omega arith; for_levels = omega arith; for_items = omega arith }

-- too little room for keys, for levels, for items
no_keys : Roomy 4294967296 (1 ∷ []) (1 ∷ []) (1 ∷ []) → ⊥
no_keys h = let l = h.for_keys in omega arith

no-levels : Roomy 4294967296 (1 ∷ []) (1 ∷ []) (1 ∷ []) → ⊥
no-levels h = let l = h.for_levels in omega arith

no_items : Roomy 4294967296 (1 ∷ []) (1 ∷ []) (1 ∷ []) → ⊥
no_items h = let l = h.for_items in omega arith

-- 512 places, none used and one place more; 513 places, all but one used
padded-large : length (padded 512 [] (replicate 513 7)) ∷ length (padded 513 (replicate 512 5) []) ∷ [] ≡ 513 ∷ 513 ∷ []
unfolding evaluate
padded-large = refl

zip_entries-large : zip_entries (5000000003 ∷ []) (6000000005 ∷ []) (7000000007 ∷ []) ≡ entry 5000000003 6000000005 7000000007 ∷ []
unfolding evaluate
zip_entries-large = refl

chart_table-large : length (chart_table (counting 513 1)) ≡ 513
unfolding evaluate
chart_table-large = refl

chart_entries-large : chart_entries (counting 1 4294967296) ≡ entry 0 0 0 ∷ []
unfolding evaluate
chart_entries-large = refl

-- 512 triangles of six zeros
table_rule-large : table_rule [] 512 ≡ false
unfolding evaluate
table_rule-large = refl

-- any more triangles are too many
table_rule-few : (ns : List ℕ) (n : ℕ) → 512 < n → table_rule ns n ≡ false
unfolding table_rule
table_rule-few ns n h = rw (lt-leb n 512 h)

chain_rule-few : (c : Chart) → 512 < c.triangle_count → chain_rule c ≡ false
unfolding chain_rule
chain_rule-few c h = rw (table_rule-few c.table c.triangle_count h)

entry_count_fits-large : map (λ m. entry_count_fits m) (256 ∷ 512 ∷ 16384 ∷ 65537 ∷ 4294967297 ∷ []) ≡ true ∷ true ∷ true ∷ false ∷ false ∷ []
unfolding evaluate
entry_count_fits-large = refl

-- one entry for triangle 0 of 2^32 triangles follows the entries' rule; 2^32 + 1 entries are too many
entries_rule-large : entries_rule (counting 4294967296 1) ∷ entries_rule (counting 1 4294967297) ∷ [] ≡ true ∷ false ∷ []
unfolding evaluate
entries_rule-large = refl

same_entries-large :
    same_entries (entry 0 0 4294967301 ∷ []) (entry 0 0 5 ∷ [])
    ∷ same_entries (entry 0 0 5 ∷ []) (entry 0 0 4294967301 ∷ [])
    ∷ same_entries (entry 0 0 4294967301 ∷ []) (entry 0 0 4294967301 ∷ [])
    ∷ []
    ≡ false ∷ false ∷ true ∷ []
unfolding evaluate
same_entries-large = refl

chart_with-counts : (chart_with (counting 0 0) (replicate 512 no_triangle) []).triangle_count ∷ (chart_with (counting 0 0) [] (replicate 512 (entry 0 0 0))).entry_count ∷ [] ≡ 512 ∷ 512 ∷ []
unfolding evaluate
chart_with-counts = refl

-- the chart of one entry with large numbers
abbrev one : Chart
one = chart_with (counting 0 0) [] (entry 5000000003 6000000005 7000000007 ∷ [])

chart_with-large : take 1 one.keys ∷ take 1 one.levels ∷ take 1 one.items ∷ [] ≡ (5000000003 ∷ []) ∷ (6000000005 ∷ []) ∷ (7000000007 ∷ []) ∷ []
unfolding evaluate
chart_with-large = refl

-- Calls

changed_by-large : (c : Chart) → changed_by c (refused (FaultyTriangle 5000000007)) ≡ record { number = 5; value = 5000000007; chart = c }
unfolding changed_by
changed_by-large c = refl

flip-large : (c : Chart)
    → flip_call 4294967296 4294967297 c ∷ event_call (flip 4294967296 4294967297) c ∷ []
    ≡ edit_call (flip 4294967296 4294967297) c ∷ edit_call (flip 4294967296 4294967297) c ∷ []
unfolding event_call
flip-large c = refl

-- two triangles of doubled area 10^10 and 6 × 10^10, in one cell
abbrev wide : Chart
wide = chart_of
    (0 ∷ 0 ∷ 100000 ∷ 0 ∷ 0 ∷ 100000 ∷ 0 ∷ 0 ∷ 200000 ∷ 0 ∷ 0 ∷ 300000 ∷ replicate 3060 0)
    (replicate 16384 0)
    (replicate 16384 0)
    (replicate 16384 0)
    2
    1

area_call-large : area_call wide ≡ record { number = 0; area = 70000000000 }
unfolding evaluate
area_call-large = refl

overlaid_by-large : map (λ o. o.pair_count ∷ o.meets ∷ []) (overlaid_by [] (done (record { pairs = replicate 512 (pair 0 0); meets = 5000000008 })) ∷ []) ≡ (512 ∷ 5000000008 ∷ []) ∷ []
unfolding evaluate
overlaid_by-large = refl
