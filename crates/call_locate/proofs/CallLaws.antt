-- The calls locate and cell listing, in the words of the code's answers and of the places in the caller's list.
-- Assumes nothing.
use mathlib.Core.Path.{◌≡◌, refl, sym, ◌∙◌, ap}
use mathlib.Core.Bool.{true, false}
use mathlib.Core.List.{List, []}
use mathlib.Core.Option.{Option, none, some}
use Prim.Native.Nat.{ℕ}
use Rattle.theory_lists.specs.Lists.{first}
use Rattle.spec_squares.specs.Square.{arity, depth}
use Rattle.spec_plane.specs.declared.Point.{Point}
use Rattle.spec_plane.specs.Triangle.{holds}
use Rattle.spec_plane.specs.Position.{position}
use Rattle.spec_charts.specs.Table.{Table, triangle_at, numbered}
use Rattle.spec_charts.specs.declared.Refusal.{Refusal}
use Rattle.spec_charts.specs.Refusals.{refused, done, done_or, outcome_number}
use Rattle.spec_charts.specs.Reading.{listing, located, found_position}
use Rattle.spec_calls.specs.Buffers.{Chart, too_short, chain_rule, chart_table, chart_entries}
use Rattle.spec_calls.specs.Calls as Calls
use Rattle.spec_calls.specs.Calls.{if_chained, locate_call}
use Rattle.laws_calls.proofs.BufferLaws.{searchable}
use Rattle.laws_calls.proofs.ReaderLaws.{reading-refused, reading-done, located-done, located-first, found-numbered}
use Rattle.read_cells.specs.Keys.{Listable}
use Rattle.read_cells.specs.Place.{listed_places}
use Rattle.read_cells.proofs.ListingLaws.{ChainLists}
use Rattle.read_cells.proofs.PointLaws.{chain-listable}
use Rattle.std.specs.Prelude.{Result, Ok, Err, Some, None}
use Rattle.std.specs.Prelude.{Option as Std·Option}
use Rattle.base_answers.specs.declared.Found.{Found}
use Rattle.base_answers.specs.Outcomes.{outcome_of, located_of}
use Rattle.call_locate.specs.Holding.{found_of}
use Rattle.call_locate.specs.Places.{places_call}

-- the number of an answer does not go by what was found
pub located-number : (r : Result (Std·Option Found) Refusal) → outcome_number (outcome_of r) ≡ (located_of r).number
located-number (Ok (Some f)) = refl
located-number (Ok None) = refl
located-number (Err r) = refl

-- an answer that is no refusal: the number 0, the triangle found, which is read from the table's numbers, and the position
located_found : (table : Table) (ns : List ℕ) (p : Point) (o : Option ℕ) → ((i : ℕ) → o ≡ some i → numbered table i ≡ triangle_at ns i)
    → ◌≡◌ {A = Calls.Located} (located_of (Ok (found_of (λ i. position (triangle_at ns i) p) o)))
    (record { number = 0; found = o; position = found_position table p o })
unfolding found_position
located_found table ns p none h = refl
located_found table ns p (some i) h = λ j. record { number = 0; found = some i; position = position (sym (h i refl) j) p }

module _ (c : Chart) (p : Point) where
  -- at a refusal there are no places
  pub places-refused : {r : Refusal} → refused r ≡ if_chained c (done (tt {0})) → [] ≡ places_call c p
  unfolding places_call
  places-refused h = ap (done_or []) (reading-refused c h (listed_places (chart_entries c) p))

  module _ (s : too_short c ≡ false) (r : chain_rule c ≡ true) where
    -- else those of the cell's entries
    pub places-done : listed_places (chart_entries c) p ≡ places_call c p
    unfolding places_call
    places-done = ap (done_or []) (reading-done c s r (listed_places (chart_entries c) p))

    -- its lists have entries, which satisfy the chain rule
    pub lists-chained : ChainLists arity depth c.triangle_count c.keys c.levels c.items c.entry_count
    lists-chained = let h = searchable c s r in record { room = h.0; rule = h.1 }

    -- they can be searched
    pub lists-searchable : Listable c.keys c.items c.entry_count
    lists-searchable = chain-listable lists-chained

    -- locate is the first listed triangle that holds the point, and the point's position by it
    pub locate-done : {l : List ℕ} → l ≡ listing (chart_entries c) p
        → {a : Std·Option Found} → a ≡ found_of (λ i. position (triangle_at c.table i) p) (first (λ i. holds (triangle_at c.table i) p) l)
        → ◌≡◌ {A = Calls.Located} (located_of (Ok a)) (locate_call c p)
    locate-done e h =
        ap (λ b. located_of (Ok b))
        (h ∙ ap (λ o. found_of (λ i. position (triangle_at c.table i) p) o) (ap (first (λ i. holds (triangle_at c.table i) p)) e ∙ sym (located-first c s r p)))
        ∙ located_found (chart_table c) c.table p (located (chart_table c) (chart_entries c) p) (found-numbered c s r p)
        ∙ located-done c s r p
