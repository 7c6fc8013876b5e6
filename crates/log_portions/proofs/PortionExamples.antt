-- Examples of an input in portions: a cut in a command, a chart above 1, an offset, and nothing after `bad`.
-- Assumes nothing.
use mathlib.Core.Path.{◌≡◌, refl}
use mathlib.Core.Bool.{true, false}
use mathlib.Core.List.{[], ◌∷◌, ◌++◌}
use Rattle.spec_log.specs.Log.{start_state, heading, line, bad_line}
use Rattle.spec_log.proofs.Evaluate.{evaluate}
use Rattle.log_portions.specs.Portions.{fine_so_far, progress_of, start_reading, settle, join_byte, feed_byte, joined, feed, feed_all, finish, join_all, portions_log}

-- a take-out of chart 1, of which three bytes have come
cut-example : feed (4 ∷ 1 ∷ 255 ∷ []) start_reading
    ≡ record { printed = []; after = record { state = start_state; offset = 0; held = 4 ∷ 1 ∷ 255 ∷ []; ended = false } }
unfolding evaluate fine_so_far progress_of start_reading settle join_byte feed_byte joined feed
cut-example = refl

-- the end of the input then is bad
finish-example : finish (feed (4 ∷ 1 ∷ 255 ∷ []) start_reading).after ≡ bad_line 0
unfolding evaluate fine_so_far progress_of start_reading settle join_byte feed_byte joined feed finish
finish-example = refl

-- a chart above 1 is bad as soon as it comes, and nothing is printed after it
chart-example : feed (3 ∷ 5 ∷ 7 ∷ []) start_reading
    ≡ record { printed = bad_line 0; after = record { state = start_state; offset = 0; held = []; ended = true } }
unfolding evaluate fine_so_far progress_of start_reading settle join_byte feed_byte joined feed
chart-example = refl

-- a load of chart 1 in two portions, then an unknown byte: it has offset 2
offset-example : portions_log ((2 ∷ []) ∷ [] ∷ (1 ∷ 8 ∷ 7 ∷ []) ∷ []) ≡ heading ++ (line 2 (0 ∷ 1 ∷ []) ++ bad_line 2)
unfolding evaluate fine_so_far progress_of start_reading settle join_byte feed_byte joined feed feed_all finish portions_log
offset-example = refl

join_all-example : join_all ((2 ∷ []) ∷ [] ∷ (1 ∷ 8 ∷ []) ∷ []) ≡ 2 ∷ 1 ∷ 8 ∷ []
unfolding join_all
join_all-example = refl
