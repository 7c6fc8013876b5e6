-- Refusals 1, 2 and 3 judged by themselves: what is judged first comes to done, and then whatever follows; and which tests a
-- chart has passed that none of them refuses.
-- Assumes nothing.
use mathlib.Core.Path.{◌≡◌, refl, sym, ◌∙◌, ap}
use mathlib.Core.Bool.{Bool, true, false, not}
use Rattle.spec_charts.specs.declared.Refusal.{Refusal}
use Rattle.spec_charts.specs.declared.Refusal.TheVariants.{ShortBuffer, BrokenChain, StaleEntries}
use Rattle.spec_charts.specs.Refusals.{Outcome, refused, done, refuse_if, and_then}
use Rattle.laws_charts.proofs.OutcomeLaws.{refused-done}
use Rattle.spec_calls.specs.Buffers.{Chart, too_short, chain_rule, indexed}
use Rattle.spec_calls.specs.Calls.{if_long, if_chained, if_indexed}

-- what one row judges, before what follows
row-then : {A : Type 0} (b : Bool) (r : Refusal) (o : Outcome (Unit {0})) (next : Outcome A)
    → and_then (refuse_if b r o) (λ d. next) ≡ refuse_if b r (and_then o (λ d. next))
unfolding refuse_if and_then
row-then true r o next = refl
row-then false r o next = refl

module _ (c : Chart) where
  module _ {A : Type 0} (next : Outcome A) where
    -- 1 and 2, then what follows
    pub chained-then : and_then (if_chained c (done (tt {0}))) (λ b. next) ≡ if_chained c next
    unfolding if_chained if_long and_then
    chained-then =
        rw (row-then (too_short c) ShortBuffer (refuse_if (not (chain_rule c)) BrokenChain (done (tt {0}))) next, row-then (not (chain_rule c)) BrokenChain (done (tt {0})) next)

    -- 1, 2 and 3, then what follows
    pub indexed-then : and_then (if_indexed c (done (tt {0}))) (λ b. next) ≡ if_indexed c next
    unfolding if_indexed if_chained if_long and_then
    indexed-then =
        rw (
          row-then (too_short c) ShortBuffer (refuse_if (not (chain_rule c)) BrokenChain (refuse_if (not (indexed c)) StaleEntries (done (tt {0})))) next,
          row-then (not (chain_rule c)) BrokenChain (refuse_if (not (indexed c)) StaleEntries (done (tt {0}))) next,
          row-then (not (indexed c)) StaleEntries (done (tt {0})) next,
        )

    -- a refusal that judging gives is what the whole gives
    pub chained_refused : {r : Refusal} → refused r ≡ if_chained c (done (tt {0})) → refused r ≡ if_chained c next
    unfolding and_then
    chained_refused h = ap (λ o. and_then o (λ b. next)) h ∙ chained-then

    pub indexed-refused : {r : Refusal} → refused r ≡ if_indexed c (done (tt {0})) → refused r ≡ if_indexed c next
    unfolding and_then
    indexed-refused h = ap (λ o. and_then o (λ b. next)) h ∙ indexed-then

    -- a chart with long buffers that follow the chain rule
    pub chained-passes : too_short c ≡ false → chain_rule c ≡ true → if_chained c next ≡ next
    unfolding if_chained if_long refuse_if
    chained-passes s r = rw (s, r)

    -- and is indexed
    pub indexed-passes : too_short c ≡ false → chain_rule c ≡ true → indexed c ≡ true → if_indexed c next ≡ next
    unfolding if_indexed if_chained if_long refuse_if
    indexed-passes s r i = rw (s, r, i)

  -- one row decides after those before it
  pub judged-short : {A : Type 0} (next : Outcome A) → too_short c ≡ true → if_chained c next ≡ refused ShortBuffer
  unfolding if_chained if_long refuse_if
  judged-short next s = rw s

  pub judged-broken : {A : Type 0} (next : Outcome A) → too_short c ≡ false → chain_rule c ≡ false → if_chained c next ≡ refused BrokenChain
  unfolding if_chained if_long refuse_if
  judged-broken next s r = rw (s, r)

  pub judged-stale : {A : Type 0} (next : Outcome A) → too_short c ≡ false → chain_rule c ≡ true → indexed c ≡ false → if_indexed c next ≡ refused StaleEntries
  unfolding if_indexed if_chained if_long refuse_if
  judged-stale next s r i = rw (s, r, i)

  -- a chart that neither 1 nor 2 refuses
  pub chained-passed : done (tt {0}) ≡ if_chained c (done (tt {0})) → (too_short c ≡ false) × (chain_rule c ≡ true)
  unfolding if_chained if_long refuse_if
  chained-passed h = go (too_short c) (chain_rule c) h
    where
      go : (s r : Bool) → done (tt {0}) ≡ refuse_if s ShortBuffer (refuse_if (not r) BrokenChain (done (tt {0}))) → (s ≡ false) × (r ≡ true)
      go true r h = absurd (refused-done (sym h))
      go false true h = (refl, refl)
      go false false h = absurd (refused-done (sym h))

  -- a chart that 3 does not refuse either
  pub indexed-passed : done (tt {0}) ≡ if_indexed c (done (tt {0})) → (too_short c ≡ false) × ((chain_rule c ≡ true) × (indexed c ≡ true))
  unfolding if_indexed if_chained if_long refuse_if
  indexed-passed h = go (too_short c) (chain_rule c) (indexed c) h
    where
      go : (s r i : Bool) → done (tt {0}) ≡ refuse_if s ShortBuffer (refuse_if (not r) BrokenChain (refuse_if (not i) StaleEntries (done (tt {0}))))
          → (s ≡ false) × ((r ≡ true) × (i ≡ true))
      go true r i h = absurd (refused-done (sym h))
      go false true true h = (refl, (refl, refl))
      go false true false h = absurd (refused-done (sym h))
      go false false i h = absurd (refused-done (sym h))
