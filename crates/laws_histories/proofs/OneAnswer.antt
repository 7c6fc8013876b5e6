-- Nothing of demand 3 is free: two tables and what a pairs list held have one answer, and two lists of events one end.
-- The idea: the pairs that share ground and their order determine the list, and the list with the meetings determines the answer.
-- Assumes nothing.
use mathlib.Core.Path.{◌≡◌, sym, ◌∙◌, ap}
use mathlib.Core.List.{List}
use mathlib.Core.Logic.{inl, inr}
use Prim.Native.Nat.{ℕ}
use native.Mathlib.Omega.{arith}
use Rattle.theory_lists.proofs.Order.{Ordered, ordered-places}
use Rattle.theory_lists.proofs.OrderLaws.{ordered-unique}
use Rattle.spec_charts.specs.Table.{Table}
use Rattle.spec_charts.specs.Edits.{Event}
use Rattle.spec_charts.specs.Overlay.{Pair, pair, Earlier, cell_meetings}
use Rattle.spec_calls.specs.Buffers.{Chart}
use Rattle.spec_calls.specs.Calls.{Overlaid}
use Rattle.laws_histories.specs.Histories.{overlay_answer, TablesOverlaid, HistoriesOverlaid}

-- of two pairs not both are the earlier one
earlier-once : (p q : Pair) → Earlier p q → Earlier q p → ⊥
earlier-once p q (inl h) (inl g) = omega arith
earlier-once p q (inl h) (inr g) = omega arith
earlier-once p q (inr h) (inl g) = omega arith
earlier-once p q (inr h) (inr g) = omega arith

-- the list stands in its order
shared-ascends : {s t : Table} {before : List ℕ} {o : Overlaid} (a : TablesOverlaid s t before o) → Ordered (λ p q. Earlier p q) a.shared
shared-ascends a = ordered-places a.shared (pair 0 0) (λ m n h l. a.ascending m n (pair 0 0) (omega arith) (omega arith))

-- the overlay of two plain tables has one answer
pub one_answer : (s t : Table) (before : List ℕ) {o p : Overlaid} → TablesOverlaid s t before o → TablesOverlaid s t before p → o ≡ p
one_answer s t before a b =
    let same =
    ordered-unique earlier-once (shared-ascends a) (shared-ascends b)
    (λ p m. (b.exactly p.i p.j).1 ((a.exactly p.i p.j).0 m))
    (λ p m. (a.exactly p.i p.j).1 ((b.exactly p.i p.j).0 m)) in
    a.answer ∙ ap (λ ps. overlay_answer ps (cell_meetings s t) before) same ∙ sym b.answer

-- two lists of events come to one end
pub one_end : (c d : Chart) (before : List ℕ) (es fs : List Event) {c' c'' d' d'' : Chart} {o p : Overlaid}
    → HistoriesOverlaid c d before es fs c' d' o → HistoriesOverlaid c d before es fs c'' d'' p → (c' ≡ c'') × (d' ≡ d'') × (o ≡ p)
one_end c d before es fs a b = (
  a.first.is ∙ sym b.first.is,
  a.second.is ∙ sym b.second.is,
  one_answer _ _ before a.overlaid b.overlaid,
)
