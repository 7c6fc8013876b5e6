-- The public calls: for each one function from everything at entry to everything at exit, refusals included
-- (document 01, "Chart buffers", "Reading", "Overlay", "Numbers a call can give"; document 02). What a result does not name, a call
-- does not touch.
-- Assumes nothing.
use Rattle.std.specs.Prelude.{Bool, false, cond, not, ◌||◌, List, [], ℕ, ltb, eqb, length}
use Rattle.std.proofs.Math.Option.{Option, none}
use Rattle.spec_plane.specs.declared.Point.{Point}
use Rattle.spec_plane.specs.declared.Position.{Position}
use Rattle.spec_plane.specs.Box.{Box}
use Rattle.spec_charts.specs.Table.{Table}
use Rattle.spec_charts.specs.declared.Refusal.{Refusal}
use Rattle.spec_charts.specs.declared.Refusal.TheVariants.{ShortBuffer, BrokenChain, StaleEntries, TooManyPairs, EmptyWindow}
use Rattle.spec_charts.specs.Refusals.{row_of, Outcome, refused, done, refuse_if, outcome_number, done_or}
use Rattle.spec_charts.specs.Edits.{Event, load, insert, take_out, flip, event_on}
use Rattle.spec_charts.specs.Overlay.{OverlayAnswer, pair_numbers, overlay_of}
use Rattle.spec_window.specs.Window.{window_of, empty_window, window_length}
use Rattle.spec_calls.specs.Buffers.{Chart, too_short, chain_rule, indexed, indexed_chart, chart_table, chart_entries, padded, pairs_length}
use Rattle.spec_charts.specs.Reading.{located, found_position, listing, sound, total_area}

-- Refusals 1, 2 and 3 of a chart, in their order, each before what comes next

-- 1
unfoldable pub if_long : {A : Type 0} → Chart → Outcome A → Outcome A
if_long c next = refuse_if (too_short c) ShortBuffer next

-- 1 and 2
unfoldable pub if_chained : {A : Type 0} → Chart → Outcome A → Outcome A
if_chained c next = if_long c (refuse_if (not (chain_rule c)) BrokenChain next)

-- 1, 2 and 3
unfoldable pub if_indexed : {A : Type 0} → Chart → Outcome A → Outcome A
if_indexed c next = if_chained c (refuse_if (not (indexed c)) StaleEntries next)

-- Load and the edits

-- what a load or an edit gives back: the number, the triangle of refusal 5 or else 0, and the chart's lists and counts
pub record Changed : Type 0 where
  pub number : ℕ
  pub value : ℕ
  pub chart : Chart

-- "Buffers and counts keep their former contents" at a refusal; else they hold the new table and its entries
unfoldable pub changed_by : Chart → Outcome Table → Changed
changed_by c (refused r) = record { number = (row_of r).number; value = (row_of r).value; chart = c }
changed_by c (done t) = record { number = 0; value = 0; chart = indexed_chart c t }

-- the table given is not one of the lent buffers; 2 and 3 are not judged
unfoldable pub load_call : List ℕ → Chart → Changed
load_call ns c = changed_by c (if_long c (event_on (load ns) (chart_table c)))

-- insert, take-out and flip: 1, 2 and 3, then what the event comes to on the chart's table
unfoldable pub edit_call : Event → Chart → Changed
edit_call e c = changed_by c (if_indexed c (event_on e (chart_table c)))

abbrev pub insert_call : Point → Chart → Changed
insert_call p = edit_call (insert p)

abbrev pub take_out_call : Point → Chart → Changed
take_out_call p = edit_call (take_out p)

abbrev pub flip_call : ℕ → ℕ → Chart → Changed
flip_call i j = edit_call (flip i j)

-- Readers

-- 1 and 2, then what is read
unfoldable pub reading : {A : Type 0} → Chart → A → Outcome A
reading c a = if_chained c (done a)

-- the number, the triangle found, where none is nowhere, and the position of the point by it
pub record Located : Type 0 where
  pub number : ℕ
  pub found : Option ℕ
  pub position : Position

-- "locate's answer is nowhere" at a refusal, and the position "outside when the answer is nowhere, refusals included"
unfoldable pub locate_call : Chart → Point → Located
locate_call c p =
    let o : Outcome (Option ℕ) = reading c (located (chart_table c) (chart_entries c) p) in
    record { number = outcome_number o; found = done_or none o; position = found_position (chart_table c) p (done_or none o) }

-- "an empty part for .. refusals 1 and 2. It returns that part alone, without a number"
unfoldable pub listing_call : Chart → Point → List ℕ
listing_call c p = done_or [] (reading c (listing (chart_entries c) p))

-- the number, and whether the chart is sound
pub record Soundness : Type 0 where
  pub number : ℕ
  pub is_sound : Bool

-- "soundness is no" at a refusal
unfoldable pub sound_call : Chart → Soundness
sound_call c =
    let o : Outcome Bool = reading c (sound (chart_table c)) in
    record { number = outcome_number o; is_sound = done_or false o }

-- the number, and the doubled area
pub record Area : Type 0 where
  pub number : ℕ
  pub area : ℕ

-- "Other numbers returned are 0" at a refusal
unfoldable pub area_call : Chart → Area
area_call c =
    let o : Outcome ℕ = reading c (total_area (chart_table c)) in
    record { number = outcome_number o; area = done_or 0 o }

-- Window

-- the number, the number of triangles listed, and the list
pub record Windowed : Type 0 where
  pub number : ℕ
  pub listed : ℕ
  pub list : List ℕ

-- "The number listed is returned beside the 0", "the places left over hold 0"; at a refusal the list keeps its contents
unfoldable pub windowed_by : List ℕ → Outcome (List ℕ) → Windowed
windowed_by before (refused r) = record { number = (row_of r).number; listed = 0; list = before }
windowed_by before (done is) = record { number = 0; listed = length is; list = padded window_length is before }

-- 1 judges the list with the chart's buffers, then 2, then 15
unfoldable pub window_call : Chart → Box → List ℕ → Windowed
window_call c w list =
    windowed_by list
    (refuse_if (too_short c || ltb (length list) window_length) ShortBuffer
    (refuse_if (not (chain_rule c)) BrokenChain
    (refuse_if (empty_window w) EmptyWindow
    (done (window_of (chart_table c) (chart_entries c) w)))))

-- Overlay

-- the number, the pair count, the meetings, and the pairs list
pub record Overlaid : Type 0 where
  pub number : ℕ
  pub pair_count : ℕ
  pub meets : ℕ
  pub pairs : List ℕ

-- at refusals the pairs keep their contents, "except at 12": "12, and 8,192 zeros in pairs"
unfoldable pub pairs_refused : Refusal → List ℕ → List ℕ
pairs_refused r before = cond (eqb (row_of r).number (row_of TooManyPairs).number) (padded pairs_length [] before) before

unfoldable pub overlaid_by : List ℕ → Outcome OverlayAnswer → Overlaid
overlaid_by before (refused r) = record { number = (row_of r).number; pair_count = 0; meets = 0; pairs = pairs_refused r before }
overlaid_by before (done h) = record {
  number = 0;
  pair_count = length h.pairs;
  meets = h.meets;
  pairs = padded pairs_length (pair_numbers h.pairs) before;
}

-- 1 judges the buffers of both charts and the pairs, then 2 both charts
unfoldable pub overlay_call : Chart → Chart → List ℕ → Overlaid
overlay_call c d pairs =
    overlaid_by pairs
    (refuse_if (too_short c || too_short d || ltb (length pairs) pairs_length) ShortBuffer
    (refuse_if (not (chain_rule c) || not (chain_rule d)) BrokenChain
    (overlay_of (chart_table c) (chart_entries c) (chart_table d) (chart_entries d))))
