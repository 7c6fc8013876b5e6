-- Examples of Log.antt, the commands: what each prints and leaves, with both charts and the waiting table told apart.
-- Assumes nothing.
use mathlib.Core.Path.{◌≡◌, refl}
use mathlib.Core.List.{List, [], ◌∷◌, ◌++◌, map, flat_map}
use mathlib.Core.Option.{none, some}
use Prim.Native.Nat.{ℕ, suc, ◌+◌}
use lib.ListN.{length, replicate}
use Rattle.spec_plane.specs.declared.Point.{Point}
use Rattle.spec_plane.specs.Triangle.{Triangle}
use Rattle.spec_plane.specs.declared.Position.TheVariants.{Inside, OnAb, OnBc, OnCa, AtA, AtB, AtC, Outside}
use Rattle.spec_charts.specs.Table.{Table}
use Rattle.spec_charts.specs.Cells.{entries_of}
use Rattle.spec_charts.specs.declared.Refusal.TheVariants.{BrokenChain, FaultyTriangle, NotThreeAround}
use Rattle.spec_charts.specs.Refusals.{refused, done}
use Rattle.spec_charts.specs.Edits.{load, insert, take_out, flip, event_on}
use Rattle.spec_charts.specs.Overlay.{Pair}
use Rattle.spec_charts.proofs.Written.{at}
use Rattle.spec_charts.proofs.RefusalsExamples.{rows}
use Rattle.spec_charts.proofs.EditExamples.{tri}
use Rattle.spec_log.specs.Log.{State, start_state, table_in, with_chart, with_waiting, refusal_numbers, event_numbers, event_step, wait_step, load_step, located_numbers, locate_step, overlay_lines, overlay_step, run_command, step_of, line, bad_line, log_from}
use Rattle.spec_log.proofs.Evaluate.{evaluate}

-- the state of two charts and a waiting table
abbrev state : Table → Table → List ℕ → State
state t u ns = record { chart0 = t; chart1 = u; waiting = ns }

start-example : start_state ≡ state [] [] []
unfolding evaluate
start-example = refl

-- any number but 0 is chart 1
chart-of-example : (t u : Table) (ns : List ℕ) → map (λ c. table_in c (state t u ns)) (0 ∷ 1 ∷ 4294967296 ∷ []) ≡ t ∷ u ∷ u ∷ []
unfolding evaluate
chart-of-example t u ns = refl

with-chart-example : (t u v : Table) (ns : List ℕ)
    → map (λ c. with_chart c v (state t u ns)) (0 ∷ 1 ∷ 4294967296 ∷ []) ≡ state v u ns ∷ state t v ns ∷ state t v ns ∷ []
unfolding evaluate
with-chart-example t u v ns = refl

with-waiting-example : (t u : Table) (ns ms : List ℕ) → with_waiting ms (state t u ns) ≡ state t u ms
unfolding evaluate
with-waiting-example t u ns ms = refl

-- What is printed

-- only 5 has its triangle after it
refusals-example : map (λ r. refusal_numbers r) rows
    ≡ (1 ∷ []) ∷ (2 ∷ []) ∷ (3 ∷ []) ∷ (4 ∷ []) ∷ (5 ∷ 7 ∷ []) ∷ (6 ∷ []) ∷ (7 ∷ []) ∷ (8 ∷ []) ∷ (9 ∷ []) ∷ (10 ∷ []) ∷ (11 ∷ []) ∷ (12 ∷ []) ∷ (14 ∷ []) ∷ (15 ∷ []) ∷ []
unfolding evaluate
refusals-example = refl

-- U has seven entries
abbrev U : Triangle
U = tri (at 0 0) (at 65535 0) (at 0 65535)

event-numbers-example : map (λ o. event_numbers o) (refused NotThreeAround ∷ refused (FaultyTriangle 5000000009) ∷ done [] ∷ done (U ∷ []) ∷ [])
    ≡ (8 ∷ []) ∷ (5 ∷ 5000000009 ∷ []) ∷ (0 ∷ 1 ∷ []) ∷ (0 ∷ 7 ∷ []) ∷ []
unfolding evaluate
event-numbers-example = refl

-- however many entries there are
entry-count-example : (t : Table) → event_numbers (done t) ≡ 0 ∷ length (entries_of t) ∷ []
unfolding event_numbers
entry-count-example t = refl

-- "5 0 1" and chart 0 or 1 has the new table; "5 8" and nothing changes; other numbers for the command and the chart, whole
event-step-example : (t u : Table) (ns : List ℕ)
    → event_step 5 0 (done []) (state t u ns)
    ∷ event_step 5 1 (done []) (state t u ns)
    ∷ event_step 5 0 (refused NotThreeAround) (state t u ns)
    ∷ event_step 5 1 (refused NotThreeAround) (state t u ns)
    ∷ event_step 5000000005 4294967296 (done []) (state t u ns)
    ∷ event_step 60005 4294967296 (refused NotThreeAround) (state t u ns)
    ∷ []
    ≡ record { printed = 53 ∷ 32 ∷ 48 ∷ 32 ∷ 49 ∷ 10 ∷ []; after = state [] u ns }
    ∷ record { printed = 53 ∷ 32 ∷ 48 ∷ 32 ∷ 49 ∷ 10 ∷ []; after = state t [] ns }
    ∷ record { printed = 53 ∷ 32 ∷ 56 ∷ 10 ∷ []; after = state t u ns }
    ∷ record { printed = 53 ∷ 32 ∷ 56 ∷ 10 ∷ []; after = state t u ns }
    ∷ record { printed = line 5000000005 (0 ∷ 1 ∷ []); after = state t [] ns }
    ∷ record { printed = line 60005 (8 ∷ []); after = state t u ns }
    ∷ []
unfolding evaluate
event-step-example t u ns = refl

-- a waiting triangle comes after those that wait
wait-example : (t u : Table) → wait_step (7 ∷ 8 ∷ 9 ∷ []) (state t u (1 ∷ 2 ∷ [])) ≡ record { printed = []; after = state t u (1 ∷ 2 ∷ 7 ∷ 8 ∷ 9 ∷ []) }
unfolding evaluate
wait-example t u = refl

-- "2 0 7" into each chart, and "2 5 0": the waiting table goes, the charts stay
load-step-example : (t u : Table)
    → load_step 0 (state t u (0 ∷ 0 ∷ 65535 ∷ 0 ∷ 0 ∷ 65535 ∷ []))
    ∷ load_step 1 (state t u (0 ∷ 0 ∷ 65535 ∷ 0 ∷ 0 ∷ 65535 ∷ []))
    ∷ load_step 1 (state t u (0 ∷ 0 ∷ 0 ∷ 65535 ∷ 65535 ∷ 0 ∷ []))
    ∷ []
    ≡ record { printed = 50 ∷ 32 ∷ 48 ∷ 32 ∷ 55 ∷ 10 ∷ []; after = state (U ∷ []) u [] }
    ∷ record { printed = 50 ∷ 32 ∷ 48 ∷ 32 ∷ 55 ∷ 10 ∷ []; after = state t (U ∷ []) [] }
    ∷ record { printed = 50 ∷ 32 ∷ 53 ∷ 32 ∷ 48 ∷ 10 ∷ []; after = state t u [] }
    ∷ []
unfolding evaluate
load-step-example t u = refl

-- whatever waits is loaded as an event, refusal 11 included
load-any-example : (c : ℕ) (s : State) → load_step c s ≡ event_step 2 c (event_on (load s.waiting) (table_in c s)) (with_waiting [] s)
unfolding load_step
load-any-example c s = refl

-- a triangle and the position's number after it, or 65535 alone
located-numbers-example :
    map (λ q. located_numbers (some 40031) q) (Inside ∷ OnAb ∷ OnBc ∷ OnCa ∷ AtA ∷ AtB ∷ AtC ∷ [])
    ++ (located_numbers none Outside ∷ located_numbers none Inside ∷ located_numbers (some 0) AtC ∷ located_numbers (some 5000000031) OnAb ∷ [])
    ≡ (40031 ∷ 0 ∷ [])
    ∷ (40031 ∷ 1 ∷ [])
    ∷ (40031 ∷ 2 ∷ [])
    ∷ (40031 ∷ 3 ∷ [])
    ∷ (40031 ∷ 4 ∷ [])
    ∷ (40031 ∷ 5 ∷ [])
    ∷ (40031 ∷ 6 ∷ [])
    ∷ (65535 ∷ [])
    ∷ (65535 ∷ [])
    ∷ (0 ∷ 6 ∷ [])
    ∷ (5000000031 ∷ 1 ∷ [])
    ∷ []
unfolding evaluate
located-numbers-example = refl

-- (60000,0) is on side ab of triangle 1 of chart 0 and nowhere in chart 1; (5000,15000) is on side ab of triangle 0 of both, and
-- (0,65535) its corner c
abbrev low : Triangle
low = tri (at 0 0) (at 65535 0) (at 30000 10000)

abbrev wide : Triangle
wide = tri (at 0 0) (at 10000 30000) (at 0 65535)

locate-step-example : (ns : List ℕ)
    → map (λ p. (locate_step 0 p (state (wide ∷ low ∷ []) (wide ∷ []) ns)).printed) (at 60000 0 ∷ at 5000 15000 ∷ [])
    ++ map (λ p. (locate_step 1 p (state (wide ∷ low ∷ []) (wide ∷ []) ns)).printed) (at 60000 0 ∷ at 0 65535 ∷ [])
    ++ map (λ p. (locate_step 4294967296 p (state (wide ∷ low ∷ []) (wide ∷ []) ns)).printed) (at 60000 0 ∷ at 1000 60000 ∷ [])
    ≡ line 6 (0 ∷ 1 ∷ 1 ∷ [])
    ∷ line 6 (0 ∷ 0 ∷ 1 ∷ [])
    ∷ line 6 (0 ∷ 65535 ∷ [])
    ∷ line 6 (0 ∷ 0 ∷ 6 ∷ [])
    ∷ line 6 (0 ∷ 65535 ∷ [])
    ∷ line 6 (0 ∷ 0 ∷ 0 ∷ [])
    ∷ []
unfolding evaluate
locate-step-example ns = refl

-- a reader changes nothing
kept-example : (s : State) (p : Point) → (locate_step 0 p s).after ∷ (overlay_step s).after ∷ [] ≡ s ∷ s ∷ []
unfolding evaluate
kept-example s p = refl

-- "7 2"; "7 0 2 90", "2 5", "11 0"
lines-example :
    map (λ o. overlay_lines o)
    (refused BrokenChain ∷ done (record { pairs = record { i = 2; j = 5 } ∷ record { i = 11; j = 0 } ∷ []; meets = 90 }) ∷ [])
    ≡ (55 ∷ 32 ∷ 50 ∷ 10 ∷ [])
    ∷ (55 ∷ 32 ∷ 48 ∷ 32 ∷ 50 ∷ 32 ∷ 57 ∷ 48 ∷ 10 ∷ 50 ∷ 32 ∷ 53 ∷ 10 ∷ 49 ∷ 49 ∷ 32 ∷ 48 ∷ 10 ∷ [])
    ∷ []
unfolding evaluate
lines-example = refl

-- all pairs and meetings, however many; both numbers of each pair, however large
lines-any-example : (m : ℕ) (ps : List Pair)
    → overlay_lines (done (record { pairs = record { i = 5000000002; j = 60005 } ∷ record { i = 40011; j = 7000000003 } ∷ ps; meets = m }))
    ≡ line 7 (0 ∷ suc (suc (length ps)) ∷ m ∷ [])
    ++ (line 5000000002 (60005 ∷ []) ++ (line 40011 (7000000003 ∷ []) ++ flat_map (λ p. line p.i (p.j ∷ [])) ps))
unfolding overlay_lines flat_map
lines-any-example m ps = refl

-- chart 0 has one triangle and chart 1 two, of which the second has a common interior point with it
overlay-step-example : (ns : List ℕ)
    → (overlay_step (state (low ∷ []) (wide ∷ low ∷ []) ns)).printed ∷ (overlay_step (state (wide ∷ low ∷ []) (low ∷ []) ns)).printed ∷ []
    ≡ (line 7 (0 ∷ 1 ∷ 13 ∷ []) ++ line 0 (1 ∷ [])) ∷ (line 7 (0 ∷ 1 ∷ 13 ∷ []) ++ line 1 (0 ∷ [])) ∷ []
unfolding evaluate
overlay-step-example ns = refl

-- Commands

-- each command with its operands, on any state: whole numbers, of whatever size
run-example : (c : ℕ) (s : State)
    → run_command 1 c (5000000003 ∷ 6000000005 ∷ 7000000007 ∷ []) s
    ∷ run_command 2 c (5000000003 ∷ 6000000005 ∷ 7000000007 ∷ []) s
    ∷ run_command 3 c (5000000003 ∷ 6000000005 ∷ 7000000007 ∷ []) s
    ∷ run_command 4 c (5000000003 ∷ 6000000005 ∷ 7000000007 ∷ []) s
    ∷ run_command 5 c (5000000003 ∷ 6000000005 ∷ 7000000007 ∷ []) s
    ∷ run_command 6 c (5000000003 ∷ 6000000005 ∷ 7000000007 ∷ []) s
    ∷ run_command 7 c (5000000003 ∷ 6000000005 ∷ 7000000007 ∷ []) s
    ∷ []
    ≡ wait_step (5000000003 ∷ 6000000005 ∷ 7000000007 ∷ []) s
    ∷ load_step c s
    ∷ event_step 3 c (event_on (insert (at 5000000003 6000000005)) (table_in c s)) s
    ∷ event_step 4 c (event_on (take_out (at 5000000003 6000000005)) (table_in c s)) s
    ∷ event_step 5 c (event_on (flip 5000000003 6000000005) (table_in c s)) s
    ∷ locate_step c (at 5000000003 6000000005) s
    ∷ overlay_step s
    ∷ []
unfolding evaluate
run-example c s = refl

-- a number beyond 2^32 is none of the commands 1 to 6, whatever its low bits are
run-none-example : (c : ℕ) (ws : List ℕ) (s : State)
    → map (λ b. run_command (4294967296 + b) c ws s) (1 ∷ 2 ∷ 3 ∷ 4 ∷ 5 ∷ 6 ∷ []) ≡ replicate 6 (overlay_step s)
unfolding evaluate
run-none-example c ws s = refl

-- operands that are not there are 0
run-short-example : (c : ℕ) (s : State)
    → run_command 3 c [] s ∷ run_command 5 c [] s ∷ []
    ≡ event_step 3 c (event_on (insert (at 0 0)) (table_in c s)) s ∷ event_step 5 c (event_on (flip 0 0) (table_in c s)) s ∷ []
unfolding evaluate
run-short-example c s = refl

-- the chart is the first byte after the command, its words come after it; without a chart the words come first
step-example : (s : State)
    → step_of 1 (99 ∷ 234 ∷ 5 ∷ 1 ∷ 7 ∷ 0 ∷ 9 ∷ 0 ∷ 11 ∷ 0 ∷ 81 ∷ 195 ∷ 99 ∷ []) s
    ∷ step_of 2 (1 ∷ 99 ∷ []) s
    ∷ step_of 2 [] s
    ∷ step_of 2 (4294967296 ∷ []) s
    ∷ step_of 3 (1 ∷ 99 ∷ 234 ∷ 85 ∷ 195 ∷ 99 ∷ []) s
    ∷ step_of 4 (0 ∷ 99 ∷ 234 ∷ 85 ∷ 195 ∷ 99 ∷ []) s
    ∷ step_of 5 (1 ∷ 99 ∷ 234 ∷ 85 ∷ 195 ∷ 99 ∷ []) s
    ∷ step_of 6 (0 ∷ 99 ∷ 234 ∷ 85 ∷ 195 ∷ 99 ∷ []) s
    ∷ step_of 7 (3 ∷ []) s
    ∷ step_of 4294967298 (3 ∷ []) s
    ∷ []
    ≡ wait_step (60003 ∷ 261 ∷ 7 ∷ 9 ∷ 11 ∷ 50001 ∷ []) s
    ∷ load_step 1 s
    ∷ load_step 0 s
    ∷ load_step 4294967296 s
    ∷ event_step 3 1 (event_on (insert (at 60003 50005)) s.chart1) s
    ∷ event_step 4 0 (event_on (take_out (at 60003 50005)) s.chart0) s
    ∷ event_step 5 1 (event_on (flip 60003 50005) s.chart1) s
    ∷ locate_step 0 (at 60003 50005) s
    ∷ overlay_step s
    ∷ overlay_step s
    ∷ []
unfolding evaluate
step-example s = refl

-- Streams

-- no more commands; no more bytes; 2^32 + 7, which is no command; an overlay and a bad byte one further; the state goes on to the
-- next command
log-from-example : (s : State)
    → log_from 0 20 s (9 ∷ [])
    ∷ log_from 3 20 s []
    ∷ log_from 3 20 s (4294967303 ∷ [])
    ∷ log_from 3 70000 s (7 ∷ 9 ∷ 7 ∷ [])
    ∷ log_from 4294967297 5000000000 s (7 ∷ 9 ∷ 7 ∷ [])
    ∷ log_from 1 20 s (7 ∷ 9 ∷ [])
    ∷ log_from 9 20 (state s.chart0 s.chart1 []) (2 ∷ 0 ∷ 2 ∷ 1 ∷ 6 ∷ 1 ∷ 3 ∷ 0 ∷ 4 ∷ 0 ∷ 0 ∷ [])
    ∷ []
    ≡ []
    ∷ []
    ∷ bad_line 20
    ∷ ((overlay_step s).printed ++ bad_line 70001)
    ∷ ((overlay_step s).printed ++ bad_line 5000000001)
    ∷ ((overlay_step s).printed ++ [])
    ∷ (line 2 (0 ∷ 1 ∷ []) ++ line 2 (0 ∷ 1 ∷ []) ++ line 6 (0 ∷ 65535 ∷ []) ++ bad_line 30)
    ∷ []
unfolding evaluate
log-from-example s = refl
