-- After an accepted load or edit the chart is that of one table, with its entries: it passes refusals 1, 2 and 3 of the next call.
-- The idea: 0 is the number of no refusal, so a call that gives 0 passed every row, and what the event proposes keeps D > 0 and the
-- limits.
-- Assumes nothing.
use mathlib.Core.Path.{◌≡◌, refl, sym, ◌∙◌, ap, subst}
use mathlib.Core.Bool.{Bool, true, false, not}
use Prim.Native.Nat.{◌≤◌, ◌<◌}
use native.Mathlib.Omega.{arith}
use lib.Dec.{T, ltb, lt→ltb}
use lib.ListN.{length}
use Rattle.theory_lists.proofs.Reflects.{reflects-test, test-true}
use Rattle.theory_lists.proofs.ListsLaws.{all-reflects}
use Rattle.spec_plane.specs.Triangle.{proper}
use Rattle.spec_charts.specs.Table.{Table}
use Rattle.spec_charts.specs.Cells.{entries_of, max_entries}
use Rattle.spec_charts.specs.declared.Refusal.TheVariants.{ShortBuffer, BrokenChain, StaleEntries, TooManyEntries}
use Rattle.spec_charts.specs.Refusals.{Outcome, refused, done, and_then, done_or}
use Rattle.spec_charts.specs.Edits.{Event, load, insert, take_out, flip, proposed, limited, within_limit, event_on}
use Rattle.laws_charts.proofs.OutcomeLaws.{refused-done, done-same, refuse_if-done, zero-done, passed}
use Rattle.laws_charts.proofs.TableLaws.{table_of-length}
use Rattle.laws_charts.proofs.CountedLaws.{event-limited}
use Rattle.laws_charts.proofs.LoadTable.{load-done}
use Rattle.laws_charts.proofs.EventTable.{event-proposed}
use Rattle.laws_charts.proofs.ProposedLaws.{Drawable, proposed-drawable}
use Rattle.spec_calls.specs.Buffers.{Chart, too_short, chain_rule, indexed, chart_table, indexed_chart}
use Rattle.spec_calls.specs.Calls.{changed_by, if_long, if_chained, if_indexed, load_call, edit_call}
use Rattle.spec_calls.specs.History.{event_call}
use Rattle.laws_calls.proofs.BufferLaws.{ruled}
use Rattle.laws_calls.proofs.IndexedLaws.{Editable, indexed-editable}
use Rattle.laws_calls.proofs.OverwriteLaws.{Indexable, changed-number}

-- the chart c has come to hold the table that the event makes of its own, with its entries, in buffers that are long enough
pub record Accepted (e : Event) (c d : Chart) : Type 0 where
  pub table : Table
  pub made : event_on e (chart_table c) ≡ done table
  pub is : d ≡ indexed_chart c table
  pub long : too_short c ≡ false
  pub fits : Indexable table

-- ---- what has passed

false_of : (b : Bool) → (T b → ⊥) → b ≡ false
false_of true n = absurd (n tt)
false_of false n = refl

-- what passes refusal 11 has at most 16,384 entries
event-small : (e : Event) (table next : Table) → event_on e table ≡ done next → length (entries_of next) ≤ max_entries
unfolding and_then within_limit limited
event-small e table next d = go (proposed e table) (sym (event-limited e table) ∙ d)
  where
    go : (o : Outcome Table) → and_then o (λ t. within_limit t) ≡ done next → length (entries_of next) ≤ max_entries
    go (refused r) h = absurd (refused-done h)
    go (done t) h =
        let f = refuse_if-done (ltb max_entries (length (entries_of t))) TooManyEntries h in
        let small : max_entries < length (entries_of t) → ⊥ = λ l. f.0 (lt→ltb max_entries (length (entries_of t)) l) in
        subst (λ v. length (entries_of v) ≤ max_entries) (done-same f.1) (omega arith)

-- what an event is done with can be held, where what it proposes can be drawn
event-fits : (e : Event) (table next : Table) → (proposed e table ≡ done next → Drawable next) → event_on e table ≡ done next → Indexable next
event-fits e table next draws d =
    let g = draws (event-proposed e table next d) in
    record {
      few = g.few;
      oriented = test-true ((all-reflects (λ t. proper t) (λ t. reflects-test (proper t)) next).from g.oriented);
      small = event-small e table next d;
    }

-- so a chart can hold the table after any event, where it can hold the table before it
pub after-fits : (e : Event) (t : Table) → Indexable t → Indexable (done_or t (event_on e t))
after-fits e t h = go (event_on e t) refl
  where
    drawable : Drawable t
    drawable = record { few = h.few; oriented = (all-reflects (λ s. proper s) (λ s. reflects-test (proper s)) t).to (subst T (sym h.oriented) tt) }

    go : (o : Outcome Table) → event_on e t ≡ o → Indexable (done_or t o)
    go (refused r) d = h
    go (done next) d = event-fits e t next (proposed-drawable e t next drawable) d

module _ (c : Chart) where
  -- the chart's table can be drawn where the chain rule holds
  rule-drawable : chain_rule c ≡ true → Drawable (chart_table c)
  unfolding chart_table
  rule-drawable h =
      let r = ruled c h in
      let triangles = r.triangles in
      record { few = omega (arith, table_of-length c.table c.triangle_count); oriented = r.good }

  -- an outcome that gives 0 leaves the chart of its table
  changed-done : (o : Outcome Table) → (changed_by c o).number ≡ 0 → (t : Table) × ((o ≡ done t) × ((changed_by c o).chart ≡ indexed_chart c t))
  unfolding changed_by
  changed-done o z =
      let t = zero-done o (sym (changed-number c o) ∙ z) in
      (t.0, (t.1, ap (λ o. (changed_by c o).chart) t.1))

  load-accepted : (e : Event) (t : Table) → ((table next : Table) → proposed e table ≡ done next → Drawable next)
      → if_long c (event_on e (chart_table c)) ≡ done t → (too_short c ≡ false) × (Indexable t × (event_on e (chart_table c) ≡ done t))
  unfolding if_long
  load-accepted e t draws d =
      let f = refuse_if-done (too_short c) ShortBuffer d in
      (false_of (too_short c) f.0, (event-fits e (chart_table c) t (draws (chart_table c) t) f.1, f.1))

  edit-accepted : (e : Event) (t : Table) → if_indexed c (event_on e (chart_table c)) ≡ done t
      → (too_short c ≡ false) × (Indexable t × (event_on e (chart_table c) ≡ done t))
  unfolding if_indexed if_chained if_long
  edit-accepted e t d =
      let f = refuse_if-done (too_short c) ShortBuffer d in
      let g = refuse_if-done (not (chain_rule c)) BrokenChain f.1 in
      let h = refuse_if-done (not (indexed c)) StaleEntries g.1 in
      let drawable = rule-drawable (test-true (passed (chain_rule c) g.0)) in
      (false_of (too_short c) f.0, (event-fits e (chart_table c) t (proposed-drawable e (chart_table c) t drawable) h.1, h.1))

  edit-leaves : (e : Event) → (edit_call e c).number ≡ 0 → Accepted e c (edit_call e c).chart
  unfolding edit_call
  edit-leaves e z =
      let t = changed-done (if_indexed c (event_on e (chart_table c))) z in
      let a = edit-accepted e t.0 t.1.0 in
      record { table = t.0; made = a.1.1; is = t.1.1; long = a.0; fits = a.1.0 }

-- an accepted load or edit of any chart leaves the chart of one table, with its entries
pub event-accepted : (e : Event) (c : Chart) → (event_call e c).number ≡ 0 → Accepted e c (event_call e c).chart
unfolding event_call load_call proposed
event-accepted (load ns) c z =
    let t = changed-done c (if_long c (event_on (load ns) (chart_table c))) z in
    let a = load-accepted c (load ns) t.0 (λ table next d. let l = load-done ns next d in record { few = l.few; oriented = l.oriented }) t.1.0 in
    record { table = t.0; made = a.1.1; is = t.1.1; long = a.0; fits = a.1.0 }
event-accepted (insert p) c z = edit-leaves c (insert p) z
event-accepted (take_out p) c z = edit-leaves c (take_out p) z
event-accepted (flip i j) c z = edit-leaves c (flip i j) z

-- so it is long enough, follows the chain rule and holds the entries of its table
pub event-indexed : (e : Event) (c : Chart) → (event_call e c).number ≡ 0 → Editable (event_call e c).chart
event-indexed e c z =
    let a = event-accepted e c z in
    rw a.is (indexed-editable c a.table a.fits.few a.fits.small a.long a.fits.oriented)
