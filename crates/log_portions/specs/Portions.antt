-- The log of an input that comes in portions: what is kept between two bytes, and what each byte makes the program print.
-- Assumes nothing.
use Rattle.std.specs.Prelude.{Bool, true, false, not, ◌&&◌, ◌||◌, List, [], ◌∷◌, ◌++◌, ℕ, ◌+◌, leb, length, get_or}
use Rattle.spec_log.specs.Log.{State, start_state, heading, bad_line, known, takes_chart, operand_bytes, step_of}

-- what is known of a command from its first bytes: more must come, it is whole, or it is none
pub data Progress : Type 0 where
  more : Progress
  whole : Progress
  bad : Progress

-- the first byte is a command's, and its c, where it has come, is 0 or 1
unfoldable pub fine_so_far : ℕ → List ℕ → Bool
fine_so_far b rest = known b && (not (takes_chart b) || leb (get_or rest 0 0) 1)

-- the progress of the command byte b with the bytes after it
unfoldable pub progress_of : ℕ → List ℕ → Progress
progress_of b rest =
    elim (fine_so_far b rest) [ true ↦ elim (leb (operand_bytes b) (length rest)) [ true ↦ whole | false ↦ more ] | false ↦ bad ]

-- what is kept between two bytes: both plain tables and the waiting numbers, the offset of the next command byte, the bytes of a
-- command that is not whole, and whether `bad` was printed
pub record Reading : Type 0 where
  pub state : State
  pub offset : ℕ
  pub held : List ℕ
  pub ended : Bool

-- before the first byte
unfoldable pub start_reading : Reading
start_reading = record { state = start_state; offset = 0; held = []; ended = false }

-- what is printed, and what is kept after it
pub record Fed : Type 0 where
  pub printed : List ℕ
  pub after : Reading

-- the command byte b with the bytes after it so far, by its progress
unfoldable pub settle : Progress → ℕ → List ℕ → Reading → Fed
settle more b rest r =
    record { printed = []; after = record { state = r.state; offset = r.offset; held = b ∷ rest; ended = false } }
settle whole b rest r =
    let st = step_of b rest r.state in
    record {
      printed = st.printed;
      after = record { state = st.after; offset = r.offset + 1 + operand_bytes b; held = []; ended = false };
    }
settle bad b rest r =
    record { printed = bad_line r.offset; after = record { state = r.state; offset = r.offset; held = []; ended = true } }

-- the bytes held and one more
unfoldable pub join_byte : List ℕ → ℕ → Reading → Fed
join_byte [] x r = settle (progress_of x []) x [] r
join_byte (b ∷ rest) x r = settle (progress_of b (rest ++ (x ∷ []))) b (rest ++ (x ∷ [])) r

-- one byte; nothing is printed after `bad`
unfoldable pub feed_byte : ℕ → Reading → Fed
feed_byte x r = elim r.ended [ true ↦ record { printed = []; after = r } | false ↦ join_byte r.held x r ]

-- the bytes printed before, and then those of a portion
unfoldable pub joined : List ℕ → Fed → Fed
joined before f = record { printed = before ++ f.printed; after = f.after }

-- a portion
unfoldable pub feed : List ℕ → Reading → Fed
feed [] r = record { printed = []; after = r }
feed (x ∷ xs) r = let f = feed_byte x r in joined f.printed (feed xs f.after)

-- one portion after the other
unfoldable pub feed_all : List (List ℕ) → Reading → Fed
feed_all [] r = record { printed = []; after = r }
feed_all (p ∷ ps) r = let f = feed p r in joined f.printed (feed_all ps f.after)

-- what the end of the input prints: a cut command is bad
unfoldable pub finish : Reading → List ℕ
finish r = elim r.held [ [] ↦ [] | b ∷ rest ↦ bad_line r.offset ]

-- the portions in one list
unfoldable pub join_all : List (List ℕ) → List ℕ
join_all [] = []
join_all (p ∷ ps) = p ++ join_all ps

-- all that is printed for an input in portions
unfoldable pub portions_log : List (List ℕ) → List ℕ
portions_log ps = let f = feed_all ps start_reading in heading ++ (f.printed ++ finish f.after)
