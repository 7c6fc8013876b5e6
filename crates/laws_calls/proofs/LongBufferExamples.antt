-- Examples of the calls, on buffers longer than asked that hold other numbers.
-- Assumes nothing.
use mathlib.Core.Path.{◌≡◌, refl}
use mathlib.Core.Bool.{true, false}
use mathlib.Core.List.{List, [], ◌∷◌, ◌++◌, map}
use mathlib.Core.Option.{none, some}
use Prim.Native.Nat.{ℕ}
use lib.ListN.{set, take, drop, replicate}
use Rattle.spec_plane.specs.declared.Position.TheVariants.{Inside, Outside}
use Rattle.spec_charts.specs.Refusals.{Outcome}
use Rattle.spec_charts.specs.Overlay.{OverlayAnswer, within_pairs}
use Rattle.spec_charts.proofs.Written.{at}
use Rattle.spec_calls.specs.Buffers.{Chart}
use Rattle.spec_calls.specs.Calls.{Changed, load_call, insert_call, take_out_call, flip_call, locate_call, listing_call, sound_call, area_call, overlaid_by, overlay_call}
use Rattle.spec_calls.proofs.Evaluate.{evaluate}

-- two triangles with a corner in common
abbrev pub numbers_a : List ℕ
numbers_a = 40000 ∷ 5000 ∷ 45000 ∷ 5000 ∷ 60000 ∷ 45000 ∷ 65535 ∷ 65535 ∷ 0 ∷ 40000 ∷ 60000 ∷ 45000 ∷ []

-- Calls on buffers

-- buffers one place longer than asked that hold 7, and counts that mean nothing
abbrev pub dirty : Chart
dirty = record {
  table = replicate 3073 7;
  keys = replicate 16385 7;
  levels = replicate 16385 7;
  items = replicate 16385 7;
  triangle_count = 9;
  entry_count = 9;
}

-- the chart that the load leaves
abbrev pub indexed_a : Chart
indexed_a = record {
  table = numbers_a ++ replicate 3060 0 ++ (7 ∷ []);
  keys = (0 ∷ 1073741824 ∷ 1140850688 ∷ 1157627904 ∷ 1174405120 ∷ 1178599424 ∷ 1182793728 ∷ 1186988032 ∷ 1191182336 ∷ 1207959552 ∷ 1275068416 ∷ 1342177280 ∷ 1610612736 ∷ 1879048192 ∷ 2147483648 ∷ 3221225472 ∷ 3489660928 ∷ 3489660928 ∷ 3758096384 ∷ 4026531840 ∷ []) ++ replicate 16364 0 ++ (7 ∷ []);
  levels = (1 ∷ 3 ∷ 4 ∷ 4 ∷ 5 ∷ 5 ∷ 5 ∷ 5 ∷ 4 ∷ 3 ∷ 3 ∷ 2 ∷ 2 ∷ 2 ∷ 1 ∷ 2 ∷ 2 ∷ 2 ∷ 2 ∷ 2 ∷ []) ++ replicate 16364 0 ++ (7 ∷ []);
  items = (65535 ∷ 0 ∷ 65535 ∷ 65535 ∷ 0 ∷ 0 ∷ 0 ∷ 0 ∷ 0 ∷ 65535 ∷ 0 ∷ 0 ∷ 0 ∷ 0 ∷ 1 ∷ 1 ∷ 0 ∷ 1 ∷ 1 ∷ 1 ∷ []) ++ replicate 16364 0 ++ (7 ∷ []);
  triangle_count = 2;
  entry_count = 20;
}

load-example : load_call numbers_a dirty ≡ record { number = 0; value = 0; chart = indexed_a }
unfolding evaluate
load-example = refl

-- the same with other lists or counts
abbrev with_table : List ℕ → Chart
with_table t = record {
  table = t;
  keys = indexed_a.keys;
  levels = indexed_a.levels;
  items = indexed_a.items;
  triangle_count = 2;
  entry_count = 20;
}

abbrev with_entries : List ℕ → List ℕ → List ℕ → ℕ → Chart
with_entries ks ls is n = record {
  table = indexed_a.table;
  keys = ks;
  levels = ls;
  items = is;
  triangle_count = 2;
  entry_count = n;
}

abbrev cut : Chart
cut = with_entries indexed_a.keys indexed_a.levels indexed_a.items 19

-- refused: everything stays, the counts too
load-refused-call-example : load_call (1 ∷ []) dirty ∷ load_call numbers_a (with_table []) ∷ []
    ≡ record { number = 4; value = 0; chart = dirty } ∷ record { number = 1; value = 0; chart = with_table [] } ∷ []
unfolding evaluate
load-refused-call-example = refl

-- 1 for each list of entries that is one short
short-example :
    map (λ c. (area_call c).number)
    (with_entries (take 16383 indexed_a.keys) indexed_a.levels indexed_a.items 20
    ∷ with_entries indexed_a.keys (take 16383 indexed_a.levels) indexed_a.items 20
    ∷ with_entries indexed_a.keys indexed_a.levels (take 16383 indexed_a.items) 20
    -- 2 for a triangle with D = 0 and for no entries
    ∷ with_table (set indexed_a.table 0 45000)
    ∷ with_entries indexed_a.keys indexed_a.levels indexed_a.items 0
    ∷ [])
    ≡ 1 ∷ 1 ∷ 1 ∷ 2 ∷ 2 ∷ []
unfolding evaluate
short-example = refl

-- 1 for a table that is one short, 2 for too few entries, 3 for entries of another table, else 7, 14, 8, 6, 9, 0
edits-example :
    map (λ r. r.number)
    (insert_call (at 5000 42500) (with_table (take 3071 indexed_a.table))
    ∷ insert_call (at 5000 42500) cut
    ∷ insert_call (at 5000 42500) (with_table (set indexed_a.table 0 20000))
    ∷ insert_call (at 5000 42500) indexed_a
    ∷ insert_call (at 45000 5000) indexed_a
    ∷ take_out_call (at 50000 50000) indexed_a
    ∷ flip_call 0 2 indexed_a
    ∷ flip_call 0 1 indexed_a
    ∷ insert_call (at 50000 50000) indexed_a
    ∷ [])
    ≡ 1 ∷ 2 ∷ 3 ∷ 7 ∷ 14 ∷ 8 ∷ 6 ∷ 9 ∷ 0 ∷ []
unfolding evaluate
edits-example = refl

-- accepted on a side it writes the new table and zeros, and leaves the places beyond
abbrev inserted_a : Changed
unfolding evaluate
inserted_a = insert_call (at 42500 5000) indexed_a

insert-example : inserted_a.number ∷ inserted_a.value ∷ inserted_a.chart.triangle_count ∷ inserted_a.chart.table
    ≡ 0 ∷ 0 ∷ 3 ∷ 40000 ∷ 5000 ∷ 42500 ∷ 5000 ∷ 60000 ∷ 45000 ∷ 65535 ∷ 65535 ∷ 0 ∷ 40000 ∷ 60000 ∷ 45000 ∷ 42500 ∷ 5000 ∷ 45000 ∷ 5000 ∷ 60000 ∷ 45000 ∷ replicate 3054 0 ++ (7 ∷ [])
unfolding evaluate
insert-example = refl

insert-beyond-example : drop 16383 inserted_a.chart.keys ∷ drop 16383 inserted_a.chart.levels ∷ drop 16383 inserted_a.chart.items ∷ [] ≡ replicate 3 (0 ∷ 7 ∷ [])
unfolding evaluate
insert-beyond-example = refl

-- readers on a chart, on one that is short, and on one whose chain is broken
readers-example :
    map (λ c. locate_call c (at 50000 50000)) (indexed_a ∷ with_table [] ∷ cut ∷ [])
    ≡ record { number = 0; found = some 1; position = Inside }
    ∷ record { number = 1; found = none; position = Outside }
    ∷ record { number = 2; found = none; position = Outside }
    ∷ []
unfolding evaluate
readers-example = refl

listings-example :
    map (λ c. listing_call c (at 60000 45000)) (indexed_a ∷ with_table [] ∷ cut ∷ [])
    ≡ (0 ∷ 1 ∷ []) ∷ [] ∷ [] ∷ []
unfolding evaluate
listings-example = refl

soundness-example :
    map (λ c. sound_call c) (indexed_a ∷ with_table [] ∷ cut ∷ [])
    ≡ record { number = 0; is_sound = true } ∷ record { number = 1; is_sound = false } ∷ record { number = 2; is_sound = false } ∷ []
unfolding evaluate
soundness-example = refl

areas-example :
    map (λ c. area_call c) (indexed_a ∷ with_table [] ∷ cut ∷ [])
    ≡ record { number = 0; area = 1404425000 } ∷ record { number = 1; area = 0 } ∷ record { number = 2; area = 0 } ∷ []
unfolding evaluate
areas-example = refl

-- the overlay writes i, j for each pair, then zeros up to 8,192, and leaves the place beyond
overlaid-example : overlay_call indexed_a indexed_a (replicate 8193 7)
    ≡ record { number = 0; pair_count = 2; meets = 19; pairs = 0 ∷ 0 ∷ 1 ∷ 1 ∷ replicate 8188 0 ++ (7 ∷ []) }
unfolding evaluate
overlaid-example = refl

-- 1 is judged of every buffer before 2 of any; a refused overlay leaves the pairs
overlaid-refused-example :
    overlay_call cut indexed_a (replicate 8191 7)
    ∷ overlay_call indexed_a cut (replicate 8192 7)
    ∷ overlay_call cut indexed_a (replicate 8192 7)
    ∷ overlay_call indexed_a (with_table []) (replicate 8192 7)
    ∷ overlay_call (with_table []) cut (replicate 8192 7)
    ∷ []
    ≡ record { number = 1; pair_count = 0; meets = 0; pairs = replicate 8191 7 }
    ∷ record { number = 2; pair_count = 0; meets = 0; pairs = replicate 8192 7 }
    ∷ record { number = 2; pair_count = 0; meets = 0; pairs = replicate 8192 7 }
    ∷ record { number = 1; pair_count = 0; meets = 0; pairs = replicate 8192 7 }
    ∷ record { number = 1; pair_count = 0; meets = 0; pairs = replicate 8192 7 }
    ∷ []
unfolding evaluate
overlaid-refused-example = refl

-- 4,097 pairs are too many: the pairs are 8,192 zeros and the place beyond stays
abbrev many : ℕ → Outcome OverlayAnswer
unfolding evaluate
many n = within_pairs (replicate n (record { i = 3; j = 5 })) 8

over-example : overlaid_by (replicate 8193 7) (many 4097) ≡ record { number = 12; pair_count = 0; meets = 0; pairs = replicate 8192 0 ++ (7 ∷ []) }
unfolding evaluate
over-example = refl
