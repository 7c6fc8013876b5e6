-- Numbers and lists count whole, however large: what buffers and answers say of any chart and any list.
-- Assumes nothing.
use mathlib.Core.Path.{◌≡◌, refl}
use mathlib.Core.Bool.{Bool, true, false, ◌||◌}
use mathlib.Core.List.{List, ◌++◌}
use Prim.Native.Nat.{ℕ, ◌-◌, ◌≤◌, ◌<◌}
use borrow.Author.Tests.{le-ltb, lt-ltb}
use lib.ListN.{length, drop, replicate}
use Rattle.theory_orthtree.specs.Entries.{Entry}
use Rattle.spec_charts.specs.Table.{Table, table_of}
use Rattle.spec_charts.specs.declared.Refusal.TheVariants.{ShortBuffer}
use Rattle.spec_charts.specs.Refusals.{refused, done, refuse_if}
use Rattle.spec_charts.specs.Overlay.{Pair}
use Rattle.spec_calls.specs.Buffers.{Chart, Roomy, too_short, padded, chart_table, chart_with}
use Rattle.spec_calls.specs.Calls.{overlaid_by, overlay_call}

or-true : (b : Bool) → b || true ≡ true
or-true true = refl
or-true false = refl

-- Buffers

roomy-most : (n : ℕ) (keys levels items : List ℕ) → Roomy n keys levels items → (n ≤ length keys) × ((n ≤ length levels) × (n ≤ length items))
roomy-most n keys levels items h = (h.for_keys, (h.for_levels, h.for_items))

-- buffers of any greater length are long enough
long-enough : (c : Chart) → 3072 ≤ length c.table → 16384 ≤ length c.keys → 16384 ≤ length c.levels → 16384 ≤ length c.items → too_short c ≡ false
unfolding too_short
long-enough c t k l i =
    rw (le-ltb (length c.table) 3072 t, le-ltb (length c.keys) 16384 k, le-ltb (length c.levels) 16384 l, le-ltb (length c.items) 16384 i)

-- what is used, zeros up to place n, and what was there from it on
padded-parts : (n : ℕ) (used before : List ℕ) → padded n used before ≡ used ++ replicate (n - length used) 0 ++ drop n before
unfolding padded
padded-parts n used before = refl

table-all : (c : Chart) → chart_table c ≡ table_of c.table c.triangle_count
unfolding chart_table
table-all c = refl

chart-counts : (c : Chart) (t : Table) (es : List Entry) → ((chart_with c t es).triangle_count ≡ length t) × ((chart_with c t es).entry_count ≡ length es)
unfolding chart_with
chart-counts c t es = (refl, refl)

-- Overlay

overlaid-count : (before : List ℕ) (ps : List Pair) (m : ℕ) → (overlaid_by before (done (record { pairs = ps; meets = m }))).pair_count ≡ length ps
unfolding overlaid_by
overlaid-count before ps m = refl

overlay-short : (c d : Chart) (pairs : List ℕ) → length pairs < 8192 → overlay_call c d pairs ≡ overlaid_by pairs (refused ShortBuffer)
unfolding overlay_call refuse_if
overlay-short c d pairs h = rw (lt-ltb (length pairs) 8192 h, or-true)
