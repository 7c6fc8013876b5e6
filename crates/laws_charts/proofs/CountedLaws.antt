-- Refusal 11 by event: every event's new table has its entries counted, and a table that passes is left as it is.
-- Assumes nothing.
use mathlib.Core.Path.{◌≡◌, refl, sym, ◌∙◌}
use lib.Dec.{ltb}
use lib.ListN.{length}
use Rattle.spec_charts.specs.Table.{Table}
use Rattle.spec_charts.specs.Cells.{entries_of, max_entries}
use Rattle.spec_charts.specs.declared.Refusal.TheVariants.{TooManyEntries}
use Rattle.spec_charts.specs.Refusals.{done, and_then}
use Rattle.spec_charts.specs.Edits.{Event, load, insert, take_out, flip, proposed, limited, within_limit, counted, event_on}
use Rattle.laws_charts.proofs.OutcomeLaws.{refuse_if-done}

-- no event is excepted
pub counted-limit : (e : Event) (t : Table) → counted e t ≡ within_limit t
unfolding counted
counted-limit (load ns) t = refl
counted-limit (insert p) t = refl
counted-limit (take_out p) t = refl
counted-limit (flip i j) t = refl

-- what is done is the table that was counted
pub counted-done : (e : Event) (t : Table) {next : Table} → counted e t ≡ done next → done t ≡ done next
unfolding within_limit limited
counted-done e t h = (refuse_if-done (ltb max_entries (length (entries_of t))) TooManyEntries (sym (counted-limit e t) ∙ h)).1

-- so an event comes to its proposed table within the limit
pub event-limited : (e : Event) (table : Table) → event_on e table ≡ and_then (proposed e table) (λ t. within_limit t)
unfolding event_on
event-limited e table = λ i. and_then (proposed e table) (λ t. counted-limit e t i)
