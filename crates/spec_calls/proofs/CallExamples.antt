-- Examples of Calls.antt and History.antt: every refusal, the order in which they are judged,
-- accepted edits of each kind, and overlays of two different charts. What an example does not depend on is any list, chart, edit or event.
-- Assumes nothing.
use mathlib.Core.Path.{◌≡◌, refl}
use mathlib.Core.Bool.{true, false}
use mathlib.Core.List.{List, [], ◌∷◌, ◌++◌, map}
use mathlib.Core.Option.{none, some}
use Prim.Native.Nat.{ℕ}
use lib.ListN.{length, take, replicate}
use Rattle.spec_plane.specs.declared.Point.{Point}
use Rattle.spec_plane.specs.declared.Position.TheVariants.{OnAb, Outside}
use Rattle.spec_plane.specs.Triangle.{Triangle}
use Rattle.spec_charts.specs.Table.{Table, table_length}
use Rattle.spec_charts.specs.Cells.{entries_of, max_entries}
use Rattle.spec_charts.specs.declared.Refusal.TheVariants.{ShortBuffer, BrokenChain, StaleEntries, NoHolder, TooManyPairs, AtCorner, EmptyWindow}
use Rattle.spec_charts.specs.Refusals.{row_of, refused, done, refuse_if, and_then}
use Rattle.spec_charts.specs.Edits.{Event, load, insert, take_out, flip, insert_table, proposed, limited, within_limit, counted, event_on}
use Rattle.spec_charts.proofs.Written.{at}
use Rattle.spec_charts.proofs.RefusalsExamples.{rows}
use Rattle.spec_charts.proofs.EditExamples.{tri}
use Rattle.spec_window.proofs.WindowExamples.{box}
use Rattle.spec_calls.specs.Buffers.{Chart, chart_of, too_short, chain_rule, indexed, indexed_chart, chart_table}
use Rattle.spec_calls.specs.Calls.{Overlaid, if_long, if_chained, if_indexed, changed_by, load_call, edit_call, insert_call, take_out_call, flip_call, reading, locate_call, sound_call, area_call, windowed_by, window_call, pairs_refused, overlaid_by, overlay_call}
use Rattle.spec_calls.specs.History.{event_call, chart_after}
use Rattle.spec_calls.proofs.Evaluate.{evaluate}

-- Charts that the examples share

-- these lists and zeros, in buffers that are longer than asked
abbrev filled : List ℕ → List ℕ → List ℕ → List ℕ → ℕ → ℕ → Chart
filled t ks ls is n e =
    chart_of (t ++ replicate table_length 0) (ks ++ replicate max_entries 0) (ls ++ replicate max_entries 0) (is ++ replicate max_entries 0) n e

abbrev U : Triangle
U = tri (at 0 0) (at 65535 0) (at 0 65535)

abbrev pub numbers_u : List ℕ
numbers_u = 0 ∷ 0 ∷ 65535 ∷ 0 ∷ 0 ∷ 65535 ∷ []

abbrev pub numbers_v : List ℕ
numbers_v = 65535 ∷ 65535 ∷ 0 ∷ 65535 ∷ 65535 ∷ 0 ∷ []

abbrev Vt : Triangle
Vt = tri (at 65535 65535) (at 0 65535) (at 65535 0)

abbrev keys_u : List ℕ
keys_u = 0 ∷ 268435456 ∷ 536870912 ∷ 805306368 ∷ 1073741824 ∷ 2147483648 ∷ 3221225472 ∷ []

abbrev levels_u : List ℕ
levels_u = 2 ∷ 2 ∷ 2 ∷ 2 ∷ 1 ∷ 1 ∷ 1 ∷ []

-- U; V; U with V
abbrev pub chart_u : Chart
chart_u = filled numbers_u keys_u levels_u (0 ∷ 0 ∷ 0 ∷ 0 ∷ 0 ∷ 0 ∷ 65535 ∷ []) 1 7

abbrev pub chart_uv : Chart
chart_uv =
    filled
    (numbers_u ++ numbers_v)
    (0 ∷ 268435456 ∷ 536870912 ∷ 805306368 ∷ 805306368 ∷ 1073741824 ∷ 1073741824 ∷ 2147483648 ∷ 2147483648 ∷ 3221225472 ∷ [])
    (2 ∷ 2 ∷ 2 ∷ 2 ∷ 2 ∷ 1 ∷ 1 ∷ 1 ∷ 1 ∷ 1 ∷ [])
    (0 ∷ 0 ∷ 0 ∷ 0 ∷ 1 ∷ 0 ∷ 1 ∷ 0 ∷ 1 ∷ 1 ∷ [])
    2
    10

-- short; a broken chain and wrong entries; wrong entries alone
abbrev short : Chart
short = chart_of numbers_u keys_u levels_u [] 1 6

abbrev broken : Chart
broken = filled numbers_v keys_u levels_u (0 ∷ 0 ∷ 0 ∷ 0 ∷ 0 ∷ 0 ∷ 65535 ∷ []) 1 6

abbrev pub stale : Chart
stale = filled numbers_v keys_u levels_u (0 ∷ 0 ∷ 0 ∷ 0 ∷ 0 ∷ 0 ∷ 65535 ∷ []) 1 7

-- Load and the edits

-- a refusal gives its number and value and the chart as it was; else the table is indexed
changed_by-example : (c : Chart)
    → map (λ r. changed_by c (refused r)) rows
    ≡ record { number = 1; value = 0; chart = c }
    ∷ record { number = 2; value = 0; chart = c }
    ∷ record { number = 3; value = 0; chart = c }
    ∷ record { number = 4; value = 0; chart = c }
    ∷ record { number = 5; value = 7; chart = c }
    ∷ record { number = 6; value = 0; chart = c }
    ∷ record { number = 7; value = 0; chart = c }
    ∷ record { number = 8; value = 0; chart = c }
    ∷ record { number = 9; value = 0; chart = c }
    ∷ record { number = 10; value = 0; chart = c }
    ∷ record { number = 11; value = 0; chart = c }
    ∷ record { number = 12; value = 0; chart = c }
    ∷ record { number = 14; value = 0; chart = c }
    ∷ record { number = 15; value = 0; chart = c }
    ∷ []
unfolding evaluate
changed_by-example c = refl

-- the chart of U keeps its seven entries
changed_by-kept-example : (changed_by chart_u (refused StaleEntries)).chart.entry_count ≡ 7
unfolding evaluate
changed_by-kept-example = refl

changed_by-done-example : (c : Chart) (t : Table) → changed_by c (done t) ≡ record { number = 0; value = 0; chart = indexed_chart c t }
unfolding changed_by
changed_by-done-example c t = refl

-- 1 comes first; then whatever the event comes to, 11 too; a broken chain and wrong entries do not matter
load_call-example : (ns : List ℕ)
    → load_call ns short ∷ load_call ns broken ∷ []
    ≡ changed_by short (refused ShortBuffer) ∷ changed_by broken (event_on (load ns) (Vt ∷ [])) ∷ []
unfolding evaluate
load_call-example ns = refl

-- the empty table into buffers that are too short, and into longer ones
load_call-short-example : map (λ c. (load_call [] c).number) (short ∷ broken ∷ []) ≡ 1 ∷ 0 ∷ []
unfolding evaluate
load_call-short-example = refl

-- 1, 2 and 3 before any edit, in this order; then what the event comes to on the table, 11 too
edit_call-example : (e : Event)
    → map (λ c. edit_call e c) (short ∷ broken ∷ stale ∷ chart_u ∷ [])
    ≡ changed_by short (refused ShortBuffer)
    ∷ changed_by broken (refused BrokenChain)
    ∷ changed_by stale (refused StaleEntries)
    ∷ changed_by chart_u (event_on e (U ∷ []))
    ∷ []
unfolding evaluate
edit_call-example e = refl

-- which event each call is
edit-calls-example : (i j : ℕ) (p : Point) (c : Chart)
    → insert_call p c ∷ take_out_call p c ∷ flip_call i j c ∷ [] ≡ edit_call (insert p) c ∷ edit_call (take_out p) c ∷ edit_call (flip i j) c ∷ []
edit-calls-example i j p c = refl

-- 1, 2 and 3, then 7 outside of U, next to its side; then 14, at each corner
insert_call-example :
    map (λ c. insert_call (at 32768 32768) c) (short ∷ broken ∷ stale ∷ chart_u ∷ [])
    ++ map (λ p. insert_call p chart_u) (at 0 0 ∷ at 65535 0 ∷ at 0 65535 ∷ [])
    ≡ changed_by short (refused ShortBuffer)
    ∷ changed_by broken (refused BrokenChain)
    ∷ changed_by stale (refused StaleEntries)
    ∷ changed_by chart_u (refused NoHolder)
    ∷ replicate 3 (changed_by chart_u (refused AtCorner))
unfolding evaluate
insert_call-example = refl

-- any chart that 1, 2 and 3 let pass: 7, 14 and 10 by its table, and 11 by the entries of the new one
insert_call-passed-example : (p : Point) (c : Chart) → too_short c ≡ false → chain_rule c ≡ true → indexed c ≡ true
    → insert_call p c ≡ changed_by c (and_then (insert_table p (chart_table c)) (λ u. limited (length (entries_of u)) u))
unfolding edit_call if_indexed if_chained if_long refuse_if event_on proposed counted within_limit
insert_call-passed-example p c long chained stored = rw (long, chained, stored)

-- Readers

-- 1, then 2, then what is read; entries that are not the table's do not matter
reading-example : (a : ℕ) → map (λ c. reading c a) (short ∷ broken ∷ stale ∷ chart_u ∷ []) ≡ refused ShortBuffer ∷ refused BrokenChain ∷ done a ∷ done a ∷ []
unfolding evaluate
reading-example a = refl

-- U twice, in one cell, is not sound
sound_call-example : map (λ c. sound_call c) (chart_uv ∷ filled (numbers_u ++ numbers_u) (0 ∷ []) (0 ∷ []) (65535 ∷ []) 2 1 ∷ [])
    ≡ record { number = 0; is_sound = true } ∷ record { number = 0; is_sound = false } ∷ []
unfolding evaluate
sound_call-example = refl

-- at a refusal locate is nowhere and outside, soundness is no and the sum is 0; on side ab of U
locate_call-example : map (λ c. locate_call c (at 9 0)) (short ∷ broken ∷ chart_u ∷ [])
    ≡ record { number = 1; found = none; position = Outside }
    ∷ record { number = 2; found = none; position = Outside }
    ∷ record { number = 0; found = some 0; position = OnAb }
    ∷ []
unfolding evaluate
locate_call-example = refl

sound-refused-example : map (λ c. sound_call c) (short ∷ broken ∷ [])
    ≡ record { number = 1; is_sound = false } ∷ record { number = 2; is_sound = false } ∷ []
unfolding evaluate
sound-refused-example = refl

area_call-example : map (λ c. area_call c) (short ∷ broken ∷ chart_u ∷ [])
    ≡ record { number = 1; area = 0 } ∷ record { number = 2; area = 0 } ∷ record { number = 0; area = 4294836225 } ∷ []
unfolding evaluate
area_call-example = refl

-- Window

-- every refusal leaves the list, and lists none
windowed_by-example : (before : List ℕ)
    → map (λ r. windowed_by before (refused r)) rows ≡ map (λ r. record { number = (row_of r).number; listed = 0; list = before }) rows
unfolding evaluate
windowed_by-example before = refl

-- the triangles, zeros up to 512, and what was beyond
windowed_by-done-example : windowed_by (replicate 512 7 ++ (8 ∷ 9 ∷ [])) (done (2 ∷ 5 ∷ 11 ∷ []))
    ≡ record { number = 0; listed = 3; list = 2 ∷ 5 ∷ 11 ∷ replicate 509 0 ++ (8 ∷ 9 ∷ []) }
unfolding evaluate
windowed_by-done-example = refl

-- 1 is judged of the chart's buffers and of the list, before 2; 2 before 15, either way; then what is in the window. Entries that are
-- not the table's do not matter: below U the cells of U list V, whose ground is there; above it they list it, and V has no ground there
window_call-example :
    window_call short (box 9 0 8 0) (replicate 512 7)
    ∷ window_call broken (box 9 0 8 0) (replicate 511 7)
    ∷ window_call broken (box 9 0 8 0) (replicate 512 7)
    ∷ window_call chart_u (box 9 0 8 0) (replicate 512 7)
    ∷ window_call chart_u (box 0 9 0 8) (replicate 512 7)
    ∷ window_call chart_uv (box 32768 0 32768 32767) (replicate 513 7)
    ∷ window_call chart_uv (box 9 0 9 0) (replicate 512 7)
    ∷ window_call stale (box 0 60000 32767 65535) (replicate 512 7)
    ∷ window_call stale (box 9 0 9 9) (replicate 512 7)
    ∷ window_call chart_u (box 32768 32768 32768 32768) (replicate 512 7)
    ∷ []
    ≡ record { number = 1; listed = 0; list = replicate 512 7 }
    ∷ record { number = 1; listed = 0; list = replicate 511 7 }
    ∷ record { number = 2; listed = 0; list = replicate 512 7 }
    ∷ record { number = 15; listed = 0; list = replicate 512 7 }
    ∷ record { number = 15; listed = 0; list = replicate 512 7 }
    ∷ record { number = 0; listed = 2; list = 0 ∷ 1 ∷ replicate 510 0 ++ (7 ∷ []) }
    ∷ record { number = 0; listed = 1; list = replicate 512 0 }
    ∷ record { number = 0; listed = 1; list = replicate 512 0 }
    ∷ record { number = 0; listed = 0; list = replicate 512 0 }
    ∷ record { number = 0; listed = 0; list = replicate 512 0 }
    ∷ []
unfolding evaluate
window_call-example = refl

-- Overlay

-- only 12 writes the pairs
pairs_refused-example : (before : List ℕ)
    → map (λ r. pairs_refused r before) (AtCorner ∷ EmptyWindow ∷ take 11 rows) ≡ replicate 13 before
unfolding evaluate
pairs_refused-example before = refl

pairs_refused-many-example : pairs_refused TooManyPairs (replicate 8191 7 ++ (7 ∷ 8 ∷ 9 ∷ [])) ≡ replicate 8192 0 ++ (8 ∷ 9 ∷ [])
unfolding evaluate
pairs_refused-many-example = refl

overlaid_by-example : (before : List ℕ)
    → map (λ r. overlaid_by before (refused r)) (AtCorner ∷ EmptyWindow ∷ take 11 rows)
    ≡ map (λ r. record { number = (row_of r).number; pair_count = 0; meets = 0; pairs = before }) (AtCorner ∷ EmptyWindow ∷ take 11 rows)
unfolding evaluate
overlaid_by-example before = refl

overlaid_by-done-example :
    overlaid_by (replicate 8192 7 ++ (8 ∷ 9 ∷ [])) (done (record { pairs = record { i = 2; j = 5 } ∷ record { i = 11; j = 0 } ∷ []; meets = 90 }))
    ≡ record { number = 0; pair_count = 2; meets = 90; pairs = 2 ∷ 5 ∷ 11 ∷ 0 ∷ replicate 8188 0 ++ (8 ∷ 9 ∷ []) }
unfolding evaluate
overlaid_by-done-example = refl

-- two different charts, both ways: U with U and V has one pair; V in the cells of U, and U with V
abbrev overlaid : Overlaid → List ℕ
overlaid r = r.number ∷ r.pair_count ∷ r.meets ∷ take 5 r.pairs

overlay_call-example :
    overlaid (overlay_call chart_u chart_uv (replicate 8192 7))
    ∷ overlaid (overlay_call stale chart_uv (replicate 8192 7))
    ∷ overlaid (overlay_call chart_uv stale (replicate 8192 7))
    ∷ []
    ≡ (0 ∷ 1 ∷ 7 ∷ 0 ∷ 0 ∷ 0 ∷ 0 ∷ 0 ∷ []) ∷ (0 ∷ 1 ∷ 7 ∷ 0 ∷ 1 ∷ 0 ∷ 0 ∷ 0 ∷ []) ∷ (0 ∷ 1 ∷ 7 ∷ 1 ∷ 0 ∷ 0 ∷ 0 ∷ 0 ∷ []) ∷ []
unfolding evaluate
overlay_call-example = refl

-- 1 is judged of every buffer before 2 of any, and both of either chart
overlay-refused-example :
    map (λ r. r.number)
    (overlay_call broken chart_u (replicate 8191 7)
    ∷ overlay_call short chart_u (replicate 8192 7)
    ∷ overlay_call chart_u short (replicate 8192 7)
    ∷ overlay_call broken short (replicate 8192 7)
    ∷ overlay_call broken chart_u (replicate 8192 7)
    ∷ overlay_call chart_u broken (replicate 8192 7)
    ∷ [])
    ≡ 1 ∷ 1 ∷ 1 ∷ 1 ∷ 2 ∷ 2 ∷ []
unfolding evaluate
overlay-refused-example = refl

-- Lists of events

-- the event says which call
event_call-example : (ns : List ℕ) (c : Chart)
    → map (λ e. event_call e c) (load ns ∷ insert (at 5 7) ∷ take_out (at 5 7) ∷ flip 3 5 ∷ [])
    ≡ load_call ns c ∷ insert_call (at 5 7) c ∷ take_out_call (at 5 7) c ∷ flip_call 3 5 c ∷ []
unfolding event_call
event_call-example ns c = refl

-- each call gets what the one before it left
chart_after-example : (e f : Event) (c : Chart) → chart_after (e ∷ f ∷ []) c ≡ (event_call f (event_call e c).chart).chart
unfolding chart_after
chart_after-example e f c = refl

-- the empty table and U, in either order, and a refused load after U
chart_after-loads-example :
    map (λ es. (chart_after es chart_uv).triangle_count)
    ((load [] ∷ load numbers_u ∷ []) ∷ (load numbers_u ∷ load [] ∷ []) ∷ (load numbers_u ∷ load (1 ∷ []) ∷ []) ∷ []) ≡ 1 ∷ 0 ∷ 1 ∷ []
unfolding evaluate
chart_after-loads-example = refl
