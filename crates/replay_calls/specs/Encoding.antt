-- Lists of calls on one chart, written as 16-bit numbers, one call after another: "2 n" and n numbers is a load of these,
-- "3 x y" an insert, "4 x y" a take-out and "5 i j" a flip: the commands of the command program, without their chart. The list ends where
-- the numbers end, or where no whole call stands.
-- Assumes nothing.
use Rattle.std.specs.Prelude.{◌≡◌, Bool, true, false, cond, ◌&&◌, ℕ, zero, suc, ◌+◌, ◌<◌, min, leb, ltb, eqb, length, get_or, take, drop, replicate}
use mathlib.Core.List.{List, [], ◌∷◌, flat_map}
use Rattle.spec_charts.specs.Table.{point_at, sixteen_bit}
use Rattle.spec_charts.specs.Edits.{Event, load, insert, take_out, flip}

-- how many numbers a call takes with its command, by the command and the number after it; 0 where the command is another
unfoldable pub call_length : ℕ → ℕ → ℕ
call_length command n = cond (eqb command 2) (n + 2) (cond (leb 3 command && leb command 5) 3 0)

-- how many numbers the call at the start of the list takes; 0 where no whole call stands there
unfoldable pub whole_call : List ℕ → ℕ
whole_call ns =
    cond (leb (call_length (get_or ns 0 0) (get_or ns 1 0)) (length ns)) (call_length (get_or ns 0 0) (get_or ns 1 0)) 0

-- the numbers of one whole call and no more
pub record IsCall (ns : List ℕ) : Type 0 where
  pub some : 0 < length ns
  pub whole : call_length (get_or ns 0 0) (get_or ns 1 0) ≡ length ns

-- the event of a whole call
unfoldable pub call_event : List ℕ → Event
call_event ns =
    cond (eqb (get_or ns 0 0) 2) (load (drop 2 ns))
    (cond (eqb (get_or ns 0 0) 3) (insert (point_at ns 1))
    (cond (eqb (get_or ns 0 0) 4) (take_out (point_at ns 1)) (flip (get_or ns 1 0) (get_or ns 2 0))))

-- the events of the calls in the list, at most m of them
unfoldable pub decode_up_to : ℕ → List ℕ → List Event
decode_up_to zero ns = []
decode_up_to (suc m) ns =
    elim (eqb (whole_call ns) 0) [
      | true ↦ []
      | false ↦ call_event (take (whole_call ns) ns) ∷ decode_up_to m (drop (whole_call ns) ns)
    ]

-- the events of all calls in the list: each takes a number at least, so there are no more than numbers
unfoldable pub decode : List ℕ → List Event
decode ns = decode_up_to (length ns) ns

-- the numbers of the call of an event
unfoldable pub call_numbers : Event → List ℕ
call_numbers (load ns) = 2 ∷ length ns ∷ ns
call_numbers (insert p) = 3 ∷ p.x ∷ p.y ∷ []
call_numbers (take_out p) = 4 ∷ p.x ∷ p.y ∷ []
call_numbers (flip i j) = 5 ∷ i ∷ j ∷ []

-- the numbers of a list of calls
unfoldable pub encode : List Event → List ℕ
encode es = flat_map (λ e. call_numbers e) es

-- Which events 16-bit numbers write, and what is written in place of the others

-- each number of the event's call is 16-bit: x, y, i, j, and of a load its numbers and how many they are
unfoldable pub expressible : Event → Bool
expressible e = sixteen_bit (call_numbers e)

-- a load that is refused for its length
abbrev pub refused_load : Event
refused_load = load (replicate 7 0)

-- a load of more than 65,535 numbers becomes that one; i and j from 65,536 on become 65,535, which no table has either
unfoldable pub shortened : Event → Event
shortened (load ns) = cond (ltb (length ns) 65536) (load ns) refused_load
shortened (insert p) = insert p
shortened (take_out p) = take_out p
shortened (flip i j) = flip (min i 65535) (min j 65535)

-- the point of an insert or a take-out is one of the grid, as every point is that code can hold
unfoldable pub point_fits : Event → Bool
point_fits (load ns) = true
point_fits (insert p) = sixteen_bit (p.x ∷ p.y ∷ [])
point_fits (take_out p) = sixteen_bit (p.x ∷ p.y ∷ [])
point_fits (flip i j) = true

-- the event that is written in place of any event
unfoldable pub clipped : Event → Event
clipped e = cond (point_fits e) (shortened e) refused_load
