-- What an edit makes of a drawn table is drawn, so it may be stored.
-- Assumes nothing.
use mathlib.Core.Path.{◌≡◌, refl, sym, ◌∙◌}
use mathlib.Core.Bool.{true}
use mathlib.Core.List.{List}
use Prim.Native.Nat.{ℕ, ◌≤◌}
use native.Mathlib.Omega.{arith}
use lib.ListN.{length}
use Rattle.std.specs.Prelude.{Result, Ok, Err}
use Rattle.theory_lists.specs.Lists.{all, up_to, count_from}
use Rattle.theory_lists.proofs.Reflects.{reflects-test, test-true}
use Rattle.theory_lists.proofs.ListsLaws.{all-reflects}
use Rattle.spec_plane.specs.Triangle.{proper}
use Rattle.spec_charts.specs.Table.{Table, Drawn, table_of, max_triangles, table_length}
use Rattle.spec_charts.specs.declared.Refusal.{Refusal}
use Rattle.spec_charts.specs.Refusals.{done}
use Rattle.spec_charts.specs.Edits.{Event, proposed}
use Rattle.laws_charts.proofs.TableLaws.{table_of-length}
use Rattle.laws_charts.proofs.ProposedLaws.{Drawable, proposed-drawable}
use Rattle.edit_rows.specs.Edited.{edited_outcome, edited_count}

-- a drawn table can be drawn
drawn-drawable : {ns : List ℕ} {n : ℕ} → Drawn ns n → Drawable (table_of ns n)
drawn-drawable {ns} {n} d = record {
  few = omega (arith, d.few, table_of-length ns n);
  oriented = (all-reflects (λ t. proper t) (λ t. reflects-test (proper t)) (table_of ns n)).to (rw d.oriented tt);
}

-- the table that an edit left in the scratch table; where it made none, the empty one
made-oriented : (r : Result ℕ Refusal) (ns : List ℕ) → ((t : Table) → edited_outcome r ns ≡ done t → all (λ t. proper t) t ≡ true)
    → all (λ t. proper t) (table_of ns (edited_count r)) ≡ true
unfolding all table_of up_to count_from
made-oriented (Ok m) ns f = f (table_of ns m) refl
made-oriented (Err r) ns f = refl

pub made-drawn : {ns : List ℕ} {n : ℕ} → Drawn ns n → (e : Event) (r : Result ℕ Refusal) (out : List ℕ) → table_length ≤ length out
    → edited_outcome r out ≡ proposed e (table_of ns n) → edited_count r ≤ max_triangles → Drawn out (edited_count r)
made-drawn {ns} {n} drawn e r out long outcome few = record {
  few = few;
  room = omega arith;
  oriented = made-oriented r out (λ t d. test-true ((all-reflects (λ s. proper s) (λ s. reflects-test (proper s)) t).from
      (proposed-drawable e (table_of ns n) t (drawn-drawable drawn) (sym outcome ∙ d)).oriented));
}
