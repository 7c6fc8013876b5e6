-- What a load comes to: the refusal that judging gives, or what storing the table given comes to.
-- Assumes nothing.
use mathlib.Core.Path.{◌≡◌, refl, sym, ap}
use mathlib.Core.Bool.{Bool, true, false}
use mathlib.Core.List.{List}
use Prim.Native.Nat.{ℕ}
use Rattle.spec_charts.specs.Table.{Table}
use Rattle.spec_charts.specs.declared.Refusal.{Refusal}
use Rattle.spec_charts.specs.declared.Refusal.TheVariants.{ShortBuffer}
use Rattle.spec_charts.specs.Refusals.{Outcome, refused, done, refuse_if, and_then}
use Rattle.spec_charts.specs.Edits.{load, event_on, proposed, counted, load_table, given_table, within_limit}
use Rattle.laws_charts.proofs.OutcomeLaws.{refused-done}
use Rattle.spec_calls.specs.Buffers.{Chart, too_short}
use Rattle.spec_calls.specs.Calls.{changed_by, if_long, load_call}
use Rattle.call_load.proofs.GivenLaws.{judged_given, Accepted, given-accepted}

module _ (ns : List ℕ) (c : Chart) where
  -- refusals 1, 4 and 5 by themselves
  abbrev pub judged_load : Outcome (Unit {0})
  judged_load = if_long c (judged_given ns)

  -- a refusal among them is what the load gives
  pub load-refused : {r : Refusal} → refused r ≡ judged_load → changed_by c (refused r) ≡ load_call ns c
  unfolding load_call if_long event_on proposed refuse_if and_then
  load-refused e = ap (changed_by c) (go (too_short c) (load_table ns) e)
    where
      go : (b : Bool) (o : Outcome Table) {r : Refusal} → refused r ≡ refuse_if b ShortBuffer (and_then o (λ t. done (tt {0})))
          → refused r ≡ refuse_if b ShortBuffer (and_then o (λ t. counted (load ns) t))
      go true o h = cc
      go false (refused s) h = cc
      go false (done t) h = absurd (refused-done h)

  module _ (e : done (tt {0}) ≡ judged_load) where
    -- none of them: the buffers are long enough, and the numbers make a table
    pub load-judged : (too_short c ≡ false) × (done (tt {0}) ≡ judged_given ns)
    unfolding if_long refuse_if
    load-judged = go (too_short c) e
      where
        go : (b : Bool) → done (tt {0}) ≡ refuse_if b ShortBuffer (judged_given ns) → (b ≡ false) × (done (tt {0}) ≡ judged_given ns)
        go true h = absurd (refused-done (sym h))
        go false h = (refl, h)

    pub load-accepted : Accepted ns
    load-accepted = given-accepted ns load-judged.1

    -- then only the number of entries decides
    pub load-rest : changed_by c (within_limit (given_table ns)) ≡ load_call ns c
    unfolding load_call if_long refuse_if event_on and_then proposed counted
    load-rest = rw (load-judged.0, load-accepted.made)
