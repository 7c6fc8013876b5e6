-- What the reader and its buffers keep of a reading.
-- Assumes nothing.
use Rattle.std.specs.Prelude.{◌≡◌, false, List, ℕ, ◌+◌, ◌≤◌, ◌<◌, length, take}
use Rattle.spec_calls.specs.Buffers.{Chart, too_short}
use Rattle.log_portions.specs.Portions.{Reading, start_reading, Fed}
use Rattle.log_lines.specs.Bytes.{Wrote}
use Rattle.log_events.specs.Both.{Both}
use Rattle.log_readers.specs.Readers.{overlay_room}
use Rattle.log_waiting.specs.Waiting.{Whole}
use Rattle.log_edits.specs.Edits.{Running}
use Rattle.log_reader.specs.declared.Reader.{Reader}

-- there are 13 places for bytes and one of them is free, and whole triangles wait
pub record Ready (r : Reader) : Type 0 where
  pub places : length r.held ≡ 13
  pub few : r.count ≤ 12
  pub whole : Whole r.waits

-- the reader, with the charts d and e and the waiting list, keeps the reading q
pub record Keeps (q : Reading) (r : Reader) (d e : Chart) (waiting : List ℕ) : Type 0 where
  pub held : q.held ≡ take r.count r.held
  pub offset : q.offset ≡ r.offset
  pub ended : q.ended ≡ r.ended
  pub running : Running q.state d e waiting r.waits

-- what a byte or a portion prints is written, and the reader keeps the reading after it
pub record FedAs (f : Fed) (at next : ℕ) (before after : List ℕ) (r : Reader) (d e : Chart) (waiting : List ℕ) : Type 0 where
  pub wrote : Wrote f.printed at next before after
  pub keeps : Keeps f.after r d e waiting

-- of a portion of n bytes the reader r read `used` bytes and became r': it can go on, the output has room for what was printed, and the
-- offset has grown by no more bytes than were read. It read something, where there was something to read and room to print
pub record ReadOn (r : Reader) (n room : ℕ) (r' : Reader) (used at : ℕ) : Type 0 where
  pub ready : Ready r'
  pub within : used ≤ n
  pub printed : at ≤ room
  pub grown : r'.offset + r'.count ≤ r.offset + r.count + used
  pub onward : 0 < n → r.ended ≡ false → overlay_room ≤ room → 0 < used

-- a byte or a portion was read, whatever reading the reader kept
abbrev pub FedFrom : (Reading → Fed) → Reader → Both → List ℕ → Reader → Both → List ℕ → ℕ → ℕ → List ℕ → List ℕ → Type 0
FedFrom f r b waiting r' b' waiting' at next before after = (q : Reading) → Keeps q r b.first b.second waiting
    → FedAs (f q) at next before after r' b'.first b'.second waiting'

-- both charts are begun: in buffers that are long enough the reader keeps the reading before the first byte
abbrev pub Begun : Both → Reader → Both → Type 0
Begun b r b' = too_short b.first ≡ false → too_short b.second ≡ false → (waiting : List ℕ) → Keeps start_reading r b'.first b'.second waiting
