-- Examples of accepted and refused calls on charts, and of lists of calls: each call gets what the one before it left. They take
-- long, so they are not among those of call_spec, which every edit of its definitions computes again.
-- Assumes nothing.
use mathlib.Core.Path.{◌≡◌, refl}
use mathlib.Core.List.{List, [], ◌∷◌, ◌++◌}
use Prim.Native.Nat.{ℕ}
use lib.ListN.{take}
use Rattle.spec_charts.specs.Edits.{load, insert, take_out, flip}
use Rattle.spec_charts.proofs.Written.{at}
use Rattle.spec_calls.specs.Buffers.{Chart}
use Rattle.spec_calls.specs.Calls.{Changed, load_call, insert_call, take_out_call, flip_call}
use Rattle.spec_calls.specs.History.{chart_after}
use Rattle.spec_calls.proofs.Evaluate.{evaluate}
use Rattle.laws_calls.proofs.LongBufferExamples.{numbers_a, dirty, indexed_a}
use Rattle.spec_calls.proofs.CallExamples.{numbers_u, numbers_v, chart_u, chart_uv, stale}

-- 5 with the lowest faulty triangle
load_call-faulty-example : load_call (numbers_u ++ (0 ∷ 0 ∷ 5 ∷ 5 ∷ 9 ∷ 9 ∷ []) ++ numbers_u) chart_u ≡ record { number = 5; value = 1; chart = chart_u }
unfolding evaluate
load_call-faulty-example = refl

-- an insert inside: the numbers and the new table
abbrev inserted_u : Changed
unfolding evaluate
inserted_u = insert_call (at 20000 10000) chart_u

insert_call-inside-example : inserted_u.number ∷ inserted_u.value ∷ inserted_u.chart.triangle_count ∷ take 19 inserted_u.chart.table
    ≡ 0 ∷ 0 ∷ 3 ∷ 0 ∷ 0 ∷ 65535 ∷ 0 ∷ 20000 ∷ 10000 ∷ 65535 ∷ 0 ∷ 0 ∷ 65535 ∷ 20000 ∷ 10000 ∷ 0 ∷ 65535 ∷ 0 ∷ 0 ∷ 20000 ∷ 10000 ∷ 0 ∷ []
unfolding evaluate
insert_call-inside-example = refl

-- flips of 0 and 1 and of 1 and 0 differ
abbrev flipped : Changed → List ℕ
flipped r = r.number ∷ r.value ∷ r.chart.triangle_count ∷ r.chart.entry_count ∷ take 13 r.chart.table

flip_call-example : flipped (flip_call 0 1 chart_uv) ∷ flipped (flip_call 1 0 chart_uv) ∷ []
    ≡ (0 ∷ 0 ∷ 2 ∷ 14 ∷ 65535 ∷ 0 ∷ 65535 ∷ 65535 ∷ 0 ∷ 0 ∷ 65535 ∷ 65535 ∷ 0 ∷ 65535 ∷ 0 ∷ 0 ∷ 0 ∷ [])
    ∷ (0 ∷ 0 ∷ 2 ∷ 14 ∷ 0 ∷ 0 ∷ 65535 ∷ 0 ∷ 65535 ∷ 65535 ∷ 0 ∷ 65535 ∷ 0 ∷ 0 ∷ 65535 ∷ 65535 ∷ 0 ∷ [])
    ∷ []
unfolding evaluate
flip_call-example = refl

-- inserts on the side that U and V share: both are split; U and V twice have 20 entries before it and 296 after it, and the second U and
-- the second V stay
abbrev inserted_uv : Changed
unfolding evaluate
inserted_uv = insert_call (at 32768 32767) chart_uv

insert_call-side-example : inserted_uv.number ∷ inserted_uv.value ∷ inserted_uv.chart.triangle_count ∷ take 25 inserted_uv.chart.table
    ≡ 0 ∷ 0 ∷ 4 ∷ 65535 ∷ 0 ∷ 32768 ∷ 32767 ∷ 0 ∷ 0 ∷ 0 ∷ 65535 ∷ 32768 ∷ 32767 ∷ 65535 ∷ 65535 ∷ 32768 ∷ 32767 ∷ 0 ∷ 65535 ∷ 0 ∷ 0 ∷ 32768 ∷ 32767 ∷ 65535 ∷ 0 ∷ 65535 ∷ 65535 ∷ 0 ∷ []
unfolding evaluate
insert_call-side-example = refl

abbrev twice_uv : Changed
unfolding evaluate
twice_uv = load_call (numbers_u ++ numbers_u ++ numbers_v ++ numbers_v) chart_u

abbrev inserted_twice_uv : Changed
unfolding evaluate
inserted_twice_uv = insert_call (at 32768 32767) twice_uv.chart

insert_call-twice-example : twice_uv.chart.entry_count ∷ inserted_twice_uv.number ∷ inserted_twice_uv.chart.entry_count ∷ take 37 inserted_twice_uv.chart.table
    ≡ 20 ∷ 0 ∷ 296 ∷ 65535 ∷ 0 ∷ 32768 ∷ 32767 ∷ 0 ∷ 0 ∷ numbers_u ++ (0 ∷ 65535 ∷ 32768 ∷ 32767 ∷ 65535 ∷ 65535 ∷ []) ++ numbers_v ++ (32768 ∷ 32767 ∷ 0 ∷ 65535 ∷ 0 ∷ 0 ∷ 32768 ∷ 32767 ∷ 65535 ∷ 0 ∷ 65535 ∷ 65535 ∷ 0 ∷ [])
unfolding evaluate
insert_call-twice-example = refl

-- an edit after an edit: take out what was inserted, and the chart is as it was
round-example : take_out_call (at 50000 50000) (insert_call (at 50000 50000) indexed_a).chart ≡ record { number = 0; value = 0; chart = indexed_a }
unfolding evaluate
round-example = refl

-- refused calls leave the chart as it is
chart-history-example : chart_after (load numbers_a ∷ insert (at 45000 5000) ∷ load (1 ∷ []) ∷ flip 0 1 ∷ []) dirty ≡ indexed_a
unfolding evaluate
chart-history-example = refl

-- accepted events of each kind: load, flip, insert, take-out; a refused flip among them
abbrev after : Chart → List ℕ
after c = c.triangle_count ∷ c.entry_count ∷ take 13 c.table

accepted-history-example : after (chart_after (load (numbers_u ++ numbers_v) ∷ flip 1 0 ∷ flip 1 1 ∷ insert (at 40000 30000) ∷ take_out (at 40000 30000) ∷ []) stale)
    ≡ 2 ∷ 14 ∷ 0 ∷ 0 ∷ 65535 ∷ 0 ∷ 65535 ∷ 65535 ∷ 0 ∷ 65535 ∷ 0 ∷ 0 ∷ 65535 ∷ 65535 ∷ 0 ∷ []
unfolding evaluate
accepted-history-example = refl

-- a vertex put on the side that U and V share, a flip that leaves three triangles around it, its take-out: the same as the flip of U and V;
-- a refused insert among them
insert-history-example : after (chart_after (load (numbers_u ++ numbers_v) ∷ insert (at 32768 32767) ∷ insert (at 32768 32767) ∷ flip 1 2 ∷ take_out (at 32768 32767) ∷ []) stale)
    ≡ after (flip_call 1 0 chart_uv).chart
unfolding evaluate
insert-history-example = refl
