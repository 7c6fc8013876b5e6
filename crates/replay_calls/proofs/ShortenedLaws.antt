-- A load of more than 65,535 numbers comes to what one of 7 numbers comes to, refusal 4, and a flip of i or j from 65,536 on
-- to what one of 65,535 comes to, refusal 6.
-- Assumes nothing.
use mathlib.Core.Path.{◌≡◌, refl, sym, ◌∙◌, ap}
use mathlib.Core.Bool.{Bool, true, false, cond, or-true}
use mathlib.Core.List.{List}
use Prim.Native.Nat.{ℕ, ◌≤◌, ◌<◌, min}
use native.Mathlib.Omega.{arith}
use native.Mathlib.Decide.{dec_le}
use borrow.Author.Tests.{lt-ltb, le-leb, ltb-false}
use lib.Dec.{ltb}
use lib.ListN.{length}
use Rattle.spec_charts.specs.Table.{Table, max_triangles, table_length}
use Rattle.spec_charts.specs.declared.Refusal.TheVariants.{BadLength, NoSuchTriangle}
use Rattle.spec_charts.specs.Refusals.{Outcome, refused, refuse_if, and_then}
use Rattle.spec_charts.specs.Edits.{Event, load, insert, take_out, flip, load_table, flip_table, proposed, within_limit, event_on}
use Rattle.laws_charts.proofs.CountedLaws.{event-limited}
use Rattle.replay_calls.specs.Encoding.{refused_load, shortened}

-- a load that is too long
load-long : (ns : List ℕ) → table_length < length ns → load_table ns ≡ refused BadLength
unfolding load_table refuse_if
load-long ns h = rw (lt-ltb table_length (length ns) h, or-true)

-- a triangle that the table does not have
flip-none-first : (i j : ℕ) (table : Table) → length table ≤ i → flip_table i j table ≡ refused NoSuchTriangle
unfolding flip_table refuse_if
flip-none-first i j table h = rw (le-leb (length table) i h)

flip-none-second : (i j : ℕ) (table : Table) → length table ≤ j → flip_table i j table ≡ refused NoSuchTriangle
unfolding flip_table refuse_if
flip-none-second i j table h = rw (le-leb (length table) j h, or-true)

module _ (table : Table) (few : length table ≤ max_triangles) where
  -- what is refused for every triangle that the table does not have
  number-shortened : (f : ℕ → Outcome Table) → ((t : ℕ) → length table ≤ t → f t ≡ refused NoSuchTriangle) → (t : ℕ) → f (min t 65535) ≡ f t
  number-shortened f beyond t = elim (dec_le t 65535) [
    | yes h ↦ let e : min t 65535 ≡ t = omega arith in ap f e
    | no h ↦ beyond (min t 65535) (omega arith) ∙ sym (beyond t (omega arith))
  ]

  shortened-proposed : (e : Event) → proposed (shortened e) table ≡ proposed e table
  unfolding shortened proposed load_table refuse_if
  shortened-proposed (load ns) = go (ltb (length ns) 65536) refl
    where
      go : (b : Bool) → ltb (length ns) 65536 ≡ b → proposed (cond b (load ns) refused_load) table ≡ load_table ns
      go true e = refl
      go false e = let h = ltb-false (length ns) 65536 e in sym (load-long ns (omega arith))
  shortened-proposed (insert p) = refl
  shortened-proposed (take_out p) = refl
  shortened-proposed (flip i j) =
      number-shortened (λ i. flip_table i (min j 65535) table) (λ i h. flip-none-first i (min j 65535) table h) i
      ∙ number-shortened (λ j. flip_table i j table) (λ j h. flip-none-second i j table h) j

  -- it comes to the same on every table, refusal 4 or 6 included
  pub shortened_same : (e : Event) → event_on (shortened e) table ≡ event_on e table
  shortened_same e =
      event-limited (shortened e) table ∙ ap (λ o. and_then o (λ t. within_limit t)) (shortened-proposed e) ∙ sym (event-limited e table)
