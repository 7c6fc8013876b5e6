-- What the readers answer: at a refusal that judging the chart gives, and on a chart that passes.
-- Assumes nothing.
use mathlib.Core.Path.{◌≡◌, sym, ap}
use mathlib.Core.Bool.{true, false}
use mathlib.Core.List.{List, []}
use mathlib.Core.Option.{Option, none, some}
use Prim.Native.Nat.{ℕ, ◌+◌, ◌*◌, ◌≤◌, ◌<◌}
use native.Mathlib.Omega.{arith}
use lib.ListN.{length, get_or}
use Rattle.theory_lists.specs.Lists.{first}
use Rattle.theory_lists.proofs.ListsLaws.{Every, get_or-member}
use Rattle.theory_lists.proofs.FirstLaws.{first-agree}
use Rattle.theory_lists.proofs.LowestLaws.{lowest-found}
use Rattle.theory_orthtree.specs.Entries.{Entry}
use Rattle.spec_plane.specs.declared.Point.{Point}
use Rattle.spec_plane.specs.declared.Position.TheVariants.{Outside}
use Rattle.spec_plane.specs.Triangle.{holds}
use Rattle.spec_charts.specs.Table.{Table, triangle_at, numbered, numbers_per_triangle}
use Rattle.spec_charts.specs.declared.Refusal.{Refusal}
use Rattle.spec_charts.specs.Refusals.{row_of, refused, done, outcome_number, done_or}
use Rattle.spec_charts.specs.Reading.{listing, located, found_position, sound, total_area}
use Rattle.laws_charts.proofs.TableLaws.{numbered-at}
use Rattle.laws_charts.proofs.LocateOfChain.{listed_below, located-lowest}
use Rattle.spec_calls.specs.Buffers.{Chart, too_short, chain_rule, chart_table, chart_entries}
use Rattle.spec_calls.specs.Calls.{Located, Soundness, Area, if_chained, reading, locate_call, listing_call, sound_call, area_call}
use Rattle.laws_calls.proofs.BufferLaws.{long-enough, ruled}
use Rattle.laws_calls.proofs.JudgeLaws.{chained_refused, chained-passes}

-- what locate answers on a chart that passes
abbrev pub found_in : Table → List Entry → Point → Located
found_in table es p =
    let found : Option ℕ = located table es p in
    record { number = 0; found = found; position = found_position table p found }

module _ (c : Chart) where
  module _ {r : Refusal} (h : refused r ≡ if_chained c (done (tt {0}))) where
    -- nothing is read at a refusal
    pub reading-refused : {A : Type 0} (a : A) → refused r ≡ reading c a
    unfolding reading
    reading-refused a = chained_refused c (done a) h

    pub listing-refused : (p : Point) → [] ≡ listing_call c p
    unfolding listing_call
    listing-refused p = ap (done_or []) (reading-refused (listing (chart_entries c) p))

    pub locate-refused : (p : Point) → ◌≡◌ {A = Located} (record { number = (row_of r).number; found = none; position = Outside }) (locate_call c p)
    unfolding locate_call found_position
    locate-refused p =
        let e = reading-refused (located (chart_table c) (chart_entries c) p) in
        λ i. record { number = outcome_number (e i); found = done_or none (e i); position = found_position (chart_table c) p (done_or none (e i)) }

    pub sound-refused : ◌≡◌ {A = Soundness} (record { number = (row_of r).number; is_sound = false }) (sound_call c)
    unfolding sound_call
    sound-refused = let e = reading-refused (sound (chart_table c)) in λ i. record { number = outcome_number (e i); is_sound = done_or false (e i) }

    pub area-refused : ◌≡◌ {A = Area} (record { number = (row_of r).number; area = 0 }) (area_call c)
    unfolding area_call
    area-refused = let e = reading-refused (total_area (chart_table c)) in λ i. record { number = outcome_number (e i); area = done_or 0 (e i) }

  module _ (s : too_short c ≡ false) (r : chain_rule c ≡ true) where
    -- a chart that passes is read
    pub reading-done : {A : Type 0} (a : A) → done a ≡ reading c a
    unfolding reading
    reading-done a = sym (chained-passes c (done a) s r)

    pub listing-done : (p : Point) → listing (chart_entries c) p ≡ listing_call c p
    unfolding listing_call
    listing-done p = ap (done_or []) (reading-done (listing (chart_entries c) p))

    pub located-done : (p : Point)
        → ◌≡◌ {A = Located} (found_in (chart_table c) (chart_entries c) p) (locate_call c p)
    unfolding locate_call
    located-done p =
        let e = reading-done (located (chart_table c) (chart_entries c) p) in
        λ i. record { number = outcome_number (e i); found = done_or none (e i); position = found_position (chart_table c) p (done_or none (e i)) }

    pub sound-done : ◌≡◌ {A = Soundness} (record { number = 0; is_sound = sound (chart_table c) }) (sound_call c)
    unfolding sound_call
    sound-done = let e = reading-done (sound (chart_table c)) in λ i. record { number = outcome_number (e i); is_sound = done_or false (e i) }

    pub area-done : ◌≡◌ {A = Area} (record { number = 0; area = total_area (chart_table c) }) (area_call c)
    unfolding area_call
    area-done = let e = reading-done (total_area (chart_table c)) in λ i. record { number = outcome_number (e i); area = done_or 0 (e i) }

    module _ (p : Point) where
      -- the table has the listed triangles
      pub table-holds : {l : List ℕ} → l ≡ listing (chart_entries c) p
          → (k : ℕ) → k < length l → numbers_per_triangle * (get_or l k 0 + 1) ≤ length c.table
      table-holds {l} e k h =
          let long = long-enough c s in
          let rule = ruled c r in
          let below : Every (λ i. i < c.triangle_count) l = rw e (listed_below c.triangle_count (chart_entries c) rule.chained p) in
          omega (arith, below (get_or l k 0) (get_or-member l k 0 h))

      -- the triangles that locate tests are read from the table's numbers
      pub located-first : located (chart_table c) (chart_entries c) p ≡ first (λ i. holds (triangle_at c.table i) p) (listing (chart_entries c) p)
      unfolding located chart_table
      located-first =
          first-agree (λ i. holds (numbered (chart_table c) i) p) (λ i. holds (triangle_at c.table i) p) (listing (chart_entries c) p)
          (λ i m. ap (λ t. holds t p) (numbered-at c.table c.triangle_count i (listed_below c.triangle_count (chart_entries c) (ruled c r).chained p i m)))

      -- and so is the triangle found
      pub found-numbered : (i : ℕ) → located (chart_table c) (chart_entries c) p ≡ some i → numbered (chart_table c) i ≡ triangle_at c.table i
      unfolding chart_table
      found-numbered i e =
          let rule = (ruled c r).chained in
          let a = lowest-found _ (rw e at (located-lowest c.triangle_count (chart_entries c) rule p (chart_table c))) in
          numbered-at c.table c.triangle_count i (listed_below c.triangle_count (chart_entries c) rule p i a.member)
