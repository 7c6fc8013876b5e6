-- The chain rule, taken apart list by list: levels and items have loops of their own, and each entry is linked to the next by lending
-- the same lists shifted by one. `chain-joined` puts the parts together; no entry, or a level above 16, ends the test before.
use mathlib.Core.Path.{sym, ◌∙◌, ap}
use Prim.Native.Nat.{◌-◌}
use native.Mathlib.Omega.{arith}
use lib.Dec.{leb, leb→le}
use lib.ListN.{get_or, length-take, length-drop}
use Rattle.theory_lists.proofs.IndexLaws.{all-below-at, all-below-fewer}
use Rattle.spec_squares.specs.Square.{depth}
use Rattle.spec_calls.specs.Buffers.{zip_entries}
use Rattle.laws_calls.proofs.BufferLaws.{roomy-fewer}
use Rattle.chart_links.specs.Links.{entry_at, item_fits}
use Rattle.chart_rule.proofs.PartLaws.{first-all, no-entries, chain-stopped, chain-joined}
use Rattle.chart_rule.proofs.entry_chains.chain_holds.Goals as goal

pub returns-then-n-eq0 : goal.returns-then-n-eq0
returns-then-n-eq0 c =
    let a = c.args in
    no-entries a.count (zip_entries a.keys.now a.levels.now a.items.now) c.if-n-eq0.true

pub returns-then-not-levels_fit : goal.returns-then-not-levels_fit
returns-then-not-levels_fit c =
    let a = c.args in
    chain-stopped a.count a.keys.now a.levels.now a.items.now a.n (a.n - 1) (omega arith) c.requires
    (sym (c.levels_fit.ensures ∙ first-all (λ x. leb x depth) c.args.levels.now c.requires.for_levels) ∙ c.if-not-levels_fit.true)

pub all_linked-links-requires : goal.all_linked-links-requires
all_linked-links-requires c =
    let levels = c.args.levels.now in
    record {
      roomy = roomy-fewer (omega arith) c.requires;
      roomy_2 = record {
        for_keys = simp (length-take, length-drop) (omega arith);
        for_levels = simp (length-take, length-drop) (omega arith);
        for_items = simp (length-take, length-drop) (omega arith);
      };
      n_value = all-below-fewer (λ i. leb (get_or levels i 0) depth) (omega arith)
          (sym (c.levels_fit.ensures ∙ first-all (λ x. leb x depth) c.args.levels.now c.requires.for_levels) ∙ c.if-not-levels_fit.false);
    }

pub ends_tree-requires : goal.ends_tree-requires
ends_tree-requires c =
    let levels = c.args.levels.now in
    leb→le (get_or levels (c.args.n - 1) 0) depth
    (all-below-at (λ i. leb (get_or levels i 0) depth)
    (sym (c.levels_fit.ensures ∙ first-all (λ x. leb x depth) c.args.levels.now c.requires.for_levels) ∙ c.if-not-levels_fit.false) (omega arith))

pub returns : goal.returns
unfolding entry_at
returns c =
    let a = c.args in
    let r = c.requires in
    chain-joined a.count a.keys.now a.levels.now a.items.now a.n (a.n - 1) (omega arith) r
    (sym (c.levels_fit.ensures ∙ first-all (λ x. leb x depth) a.levels.now r.for_levels) ∙ c.if-not-levels_fit.false)
    (ap (λ m. leb m a.count) c.from-most.ensures ∙ c.count_for_all.ensures a.count ∙ first-all (λ x. item_fits a.count x) a.items.now r.for_items)
    c.all_linked-links.ensures (c.ends_tree.ensures (get_or a.items.now (a.n - 1) 0))
