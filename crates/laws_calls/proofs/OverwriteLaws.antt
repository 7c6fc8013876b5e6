-- One table after another in the buffers of a chart, and what a load or an edit leaves of an indexed chart, whatever it comes to.
-- The idea: every list is written up to the same place, so writing one table over another leaves what writing it at once does.
-- Assumes nothing.
use mathlib.Core.Path.{◌≡◌, refl, sym, ◌∙◌, ap}
use mathlib.Core.Bool.{Bool, true, false}
use mathlib.Core.List.{List, ◌++◌, map}
use Prim.Native.Nat.{ℕ, ◌-◌, ◌≤◌}
use native.Mathlib.Omega.{arith}
use borrow.Author.Tests.{ltb-false}
use lib.Dec.{ltb}
use lib.ListN.{length, drop, replicate, length-append, length-map, length-replicate}
use lib.Seq.{drop-append_seam}
use Rattle.theory_lists.specs.Lists.{all}
use Rattle.spec_plane.specs.Triangle.{proper}
use Rattle.spec_charts.specs.Table.{Table, table_length, table_numbers, max_triangles}
use Rattle.spec_charts.specs.Cells.{entries_of, max_entries}
use Rattle.spec_charts.specs.declared.Refusal.TheVariants.{TooManyEntries}
use Rattle.spec_charts.specs.Refusals.{Outcome, refused, done, refuse_if, and_then, outcome_number, outcome_value, done_or}
use Rattle.spec_charts.specs.Edits.{Event, proposed, limited, within_limit, after_event}
use Rattle.laws_charts.proofs.CountedLaws.{event-limited}
use Rattle.spec_calls.specs.Buffers.{Chart, padded, chart_with, indexed_chart}
use Rattle.spec_calls.specs.Calls.{changed_by}
use Rattle.laws_calls.proofs.IndexedLaws.{table-length}

-- a padded list keeps what comes after place n
drop-padded : (n : ℕ) (v l : List ℕ) → length v ≤ n → drop n (padded n v l) ≡ drop n l
unfolding padded
drop-padded n v l h =
    let used = v ++ replicate (n - length v) 0 in
    let size : length used ≡ n = length-append v (replicate (n - length v) 0) ∙ omega (arith, length-replicate {A = ℕ} (n - length v) 0) in
    ap (λ k. drop k (used ++ drop n l)) (sym size) ∙ drop-append_seam used (drop n l)

-- so the list that was padded before is gone
padded-again : (n : ℕ) (u v l : List ℕ) → length v ≤ n → padded n u (padded n v l) ≡ padded n u l
unfolding padded
padded-again n u v l h = ap (λ r. u ++ replicate (n - length u) 0 ++ r) (drop-padded n v l h)

-- a table that a chart can hold
pub record Indexable (t : Table) : Type 0 where
  pub few : length t ≤ max_triangles
  pub oriented : all (λ s. proper s) t ≡ true
  pub small : length (entries_of t) ≤ max_entries

-- the chart of a table over the chart of another is that of the table alone
pub indexed-again : (c : Chart) (t u : Table) → Indexable t → indexed_chart (indexed_chart c t) u ≡ indexed_chart c u
unfolding indexed_chart chart_with
indexed-again c t u h =
    let es = entries_of t in
    let small = h.small in
    let few = h.few in
    let table = padded-again table_length (table_numbers u) (table_numbers t) c.table (omega (arith, table-length t)) in
    let keys = padded-again max_entries (map (λ e. e.key) (entries_of u)) (map (λ e. e.key) es) c.keys (omega (arith, length-map es (λ e. e.key))) in
    let levels = padded-again max_entries (map (λ e. e.level) (entries_of u)) (map (λ e. e.level) es) c.levels (omega (arith, length-map es (λ e. e.level))) in
    let items = padded-again max_entries (map (λ e. e.item) (entries_of u)) (map (λ e. e.item) es) c.items (omega (arith, length-map es (λ e. e.item))) in
    λ i. record { table = table i; keys = keys i; levels = levels i; items = items i; triangle_count = length u; entry_count = length (entries_of u) }

-- ---- what is left, whatever the outcome

-- the number and the value are the outcome's
pub changed-number : (c : Chart) (o : Outcome Table) → (changed_by c o).number ≡ outcome_number o
unfolding changed_by
changed-number c (refused r) = refl
changed-number c (done t) = refl

pub changed-value : (c : Chart) (o : Outcome Table) → (changed_by c o).value ≡ outcome_value o
unfolding changed_by
changed-value c (refused r) = refl
changed-value c (done t) = refl

-- the chart is that of the table done, or else of the table before
pub changed-chart : (c : Chart) (t : Table) (o : Outcome Table) → Indexable t → (changed_by (indexed_chart c t) o).chart ≡ indexed_chart c (done_or t o)
unfolding changed_by
changed-chart c t (refused r) h = refl
changed-chart c t (done u) h = indexed-again c t u h

-- what passes refusal 11 has few entries
limited-small : (b : Bool) (t u : Table) → ltb max_entries (length (entries_of u)) ≡ b → length (entries_of t) ≤ max_entries
    → length (entries_of (done_or t (refuse_if b TooManyEntries (done u)))) ≤ max_entries
unfolding refuse_if
limited-small true t u e h = h
limited-small false t u e h = ltb-false max_entries (length (entries_of u)) e

-- so the table after any event has
pub after_small : (e : Event) (t : Table) → length (entries_of t) ≤ max_entries → length (entries_of (after_event e t)) ≤ max_entries
unfolding after_event and_then within_limit limited
after_small e t h = rw (event-limited e t) (go (proposed e t))
  where
    go : (o : Outcome Table) → length (entries_of (done_or t (and_then o (λ u. within_limit u)))) ≤ max_entries
    go (refused r) = h
    go (done u) = limited-small (ltb max_entries (length (entries_of u))) t u refl h
