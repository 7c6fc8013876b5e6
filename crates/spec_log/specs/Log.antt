-- Document 01, "Command program": the bytes that the program writes, as a function of the bytes that it reads. It speaks
-- of plain tables alone.
-- Assumes nothing.
use Rattle.std.specs.Prelude.{Bool, true, false, cond, not, ◌&&◌, ◌||◌, ℕ, zero, suc, ◌+◌, ◌*◌, ◌/◌, ◌%◌, leb, ltb, eqb, length, drop, get_or}
use mathlib.Core.List.{List, [], ◌∷◌, ◌++◌, flat_map}
use Rattle.std.proofs.Math.Option.{Option, none, some}
use Rattle.spec_plane.specs.declared.Point.{Point}
use Rattle.spec_plane.specs.declared.Position.{Position}
use Rattle.spec_plane.specs.Position.{position_number}
use Rattle.spec_charts.specs.Table.{Table, numbers_per_triangle, table_length}
use Rattle.spec_charts.specs.Cells.{entries_of}
use Rattle.spec_charts.specs.declared.Refusal.{Refusal}
use Rattle.spec_charts.specs.declared.Refusal.TheVariants.{BadLength, FaultyTriangle}
use Rattle.spec_charts.specs.Refusals.{row_of, Outcome, refused, done, done_or}
use Rattle.spec_charts.specs.Edits.{load, insert, take_out, flip, event_on}
use Rattle.spec_charts.specs.Overlay.{OverlayAnswer, overlay_of}
use Rattle.spec_charts.specs.Reading.{located, found_position}

-- Lines

-- the decimal digits of n as bytes, for at most `more` digits before the last
unfoldable pub digits : ℕ → ℕ → List ℕ
digits zero n = (48 + n % 10) ∷ []
digits (suc more) n = elim (ltb n 10) [ true ↦ (48 + n) ∷ [] | false ↦ digits more (n / 10) ++ ((48 + n % 10) ∷ []) ]

-- a number in decimal; it has at most n digits after the first
unfoldable pub decimal : ℕ → List ℕ
decimal n = digits n n

-- numbers after a first one, "with single spaces"
unfoldable pub spaced : List ℕ → List ℕ
spaced ns = flat_map (λ n. 32 ∷ decimal n) ns

-- "Each print is a line of its own": the numbers n and ns, then a line feed
unfoldable pub line : ℕ → List ℕ → List ℕ
line n ns = decimal n ++ spaced ns ++ (10 ∷ [])

-- "the eleven bytes `overlay log` and a line feed"
unfoldable pub heading : List ℕ
heading = 111 ∷ 118 ∷ 101 ∷ 114 ∷ 108 ∷ 97 ∷ 121 ∷ 32 ∷ 108 ∷ 111 ∷ 103 ∷ 10 ∷ []

-- "prints `bad`, a space and the offset of its command byte"
unfoldable pub bad_line : ℕ → List ℕ
bad_line offset = 98 ∷ 97 ∷ 100 ∷ 32 ∷ decimal offset ++ (10 ∷ [])

-- Commands

-- both plain tables, and the numbers of the waiting table
pub record State : Type 0 where
  pub chart0 : Table
  pub chart1 : Table
  pub waiting : List ℕ

-- "Both charts start as empty tables"
unfoldable pub start_state : State
start_state = record { chart0 = []; chart1 = []; waiting = [] }

-- chart c of the state
unfoldable pub table_in : ℕ → State → Table
table_in zero s = s.chart0
table_in (suc n) s = s.chart1

-- the state with another table for chart c
unfoldable pub with_chart : ℕ → Table → State → State
with_chart zero t s = record { chart0 = t; chart1 = s.chart1; waiting = s.waiting }
with_chart (suc n) t s = record { chart0 = s.chart0; chart1 = t; waiting = s.waiting }

-- the state with another waiting table
unfoldable pub with_waiting : List ℕ → State → State
with_waiting ns s = record { chart0 = s.chart0; chart1 = s.chart1; waiting = ns }

-- what a command prints, and the state after it
pub record Step : Type 0 where
  pub printed : List ℕ
  pub after : State

-- the numbers that commands 2 to 5 print after their own: "its number, the number returned, then: 2 to 5 the entry count, or
-- for refusal 5 the triangle", "Other refusals print two numbers"
unfoldable pub refusal_numbers : Refusal → List ℕ
refusal_numbers r = (row_of r).number ∷ cond (eqb (row_of r).number (row_of (FaultyTriangle 0)).number) ((row_of r).value ∷ []) []

unfoldable pub event_numbers : Outcome Table → List ℕ
event_numbers (refused r) = refusal_numbers r
event_numbers (done t) = 0 ∷ length (entries_of t) ∷ []

-- commands 2 to 5: an event on chart c
unfoldable pub event_step : ℕ → ℕ → Outcome Table → State → Step
event_step command c o s = record { printed = line command (event_numbers o); after = with_chart c (done_or (table_in c s) o) s }

-- command 1: six numbers "to a waiting table"; "A 513th waiting triangle prints `1 4` and is dropped"
unfoldable pub wait_step : List ℕ → State → Step
wait_step ns s =
    elim (ltb (length s.waiting) table_length) [
      | true ↦ record { printed = []; after = with_waiting (s.waiting ++ ns) s }
      | false ↦ record { printed = line 1 ((row_of BadLength).number ∷ []); after = s }
    ]

-- command 2: "load it, then empty it"
unfoldable pub load_step : ℕ → State → Step
load_step c s = event_step 2 c (event_on (load s.waiting) (table_in c s)) (with_waiting [] s)

-- the numbers that command 6 prints after its number and the number returned: "the triangle or 65535"; by wish 1 the position's
-- number "after the triangle, and 65535 alone when nowhere"
unfoldable pub located_numbers : Option ℕ → Position → List ℕ
located_numbers none q = 65535 ∷ []
located_numbers (some i) q = i ∷ position_number q ∷ []

unfoldable pub locate_step : ℕ → Point → State → Step
locate_step c p s =
    let t : Table = table_in c s in
    let found : Option ℕ = located t (entries_of t) p in
    record { printed = line 6 (0 ∷ located_numbers found (found_position t p found)); after = s }

-- command 7: "pairs and meetings, then a line `i j` for each pair"
unfoldable pub overlay_lines : Outcome OverlayAnswer → List ℕ
overlay_lines (refused r) = line 7 ((row_of r).number ∷ [])
overlay_lines (done h) =
    line 7 (0 ∷ length h.pairs ∷ h.meets ∷ []) ++ flat_map (λ p. line p.i (p.j ∷ [])) h.pairs

unfoldable pub overlay_step : State → Step
overlay_step s = record {
  printed = overlay_lines (overlay_of s.chart0 (entries_of s.chart0) s.chart1 (entries_of s.chart1));
  after = s;
}

-- the point of the operands x y
unfoldable pub point_operand : List ℕ → Point
point_operand ws = record { x = get_or ws 0 0; y = get_or ws 1 0 }

-- a command with its chart and its 16-bit operands, all of them there
unfoldable pub run_command : ℕ → ℕ → List ℕ → State → Step
run_command b c ws s =
    cond (eqb b 1) (wait_step ws s)
    (cond (eqb b 2) (load_step c s)
    (cond (eqb b 3) (event_step 3 c (event_on (insert (point_operand ws)) (table_in c s)) s)
    (cond (eqb b 4) (event_step 4 c (event_on (take_out (point_operand ws)) (table_in c s)) s)
    (cond (eqb b 5) (event_step 5 c (event_on (flip (get_or ws 0 0) (get_or ws 1 0)) (table_in c s)) s)
    (cond (eqb b 6) (locate_step c (point_operand ws) s) (overlay_step s))))))

-- Reading

-- "commands of one byte": 1 to 7
unfoldable pub known : ℕ → Bool
known b = leb 1 b && leb b 7

-- commands 2 to 6 have a byte c for their chart
unfoldable pub takes_chart : ℕ → Bool
takes_chart b = leb 2 b && leb b 6

-- how many 16-bit operands a command has: six for a triangle, two for x y or i j
unfoldable pub word_count : ℕ → ℕ
word_count b = cond (eqb b 1) numbers_per_triangle (cond (leb 3 b && leb b 6) 2 0)

-- how many bytes c is
unfoldable pub chart_bytes : ℕ → ℕ
chart_bytes b = cond (takes_chart b) 1 0

-- how many bytes a command's operands are
unfoldable pub operand_bytes : ℕ → ℕ
operand_bytes b = chart_bytes b + 2 * word_count b

-- 16-bit numbers, "low byte first"
unfoldable pub words_of : ℕ → List ℕ → List ℕ
words_of zero bytes = []
words_of (suc n) bytes = (get_or bytes 0 0 + 256 * get_or bytes 1 0) ∷ words_of n (drop 2 bytes)

-- not "An unknown byte, a c above 1 or a cut operand", for the command byte b and the bytes after it
unfoldable pub well_formed : ℕ → List ℕ → Bool
well_formed b rest = known b && leb (operand_bytes b) (length rest) && (not (takes_chart b) || leb (get_or rest 0 0) 1)

-- the command b with its operands, which are the first of the bytes after it
unfoldable pub step_of : ℕ → List ℕ → State → Step
step_of b rest s = run_command b (get_or rest 0 0) (words_of (word_count b) (drop (chart_bytes b) rest)) s

-- what is printed from the command byte at the offset on; at most `more` commands follow
unfoldable pub log_from : ℕ → ℕ → State → List ℕ → List ℕ
log_from zero offset s bytes = []
log_from (suc more) offset s [] = []
log_from (suc more) offset s (b ∷ rest) =
    elim (well_formed b rest) [
      | true ↦ let st = step_of b rest s in
          st.printed ++ log_from more (offset + 1 + operand_bytes b) st.after (drop (operand_bytes b) rest)
      | false ↦ bad_line offset
    ]

-- the log of an input: the heading, then what each command prints; each command is a byte at least
unfoldable pub log_of : List ℕ → List ℕ
log_of bytes = heading ++ log_from (length bytes) 0 start_state bytes
