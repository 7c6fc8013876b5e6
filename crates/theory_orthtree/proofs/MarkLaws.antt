-- Entries of one cell, from one place of a list that satisfies the chain rule up to another: they are one mark, or none of
-- them is a mark.
-- The idea: each later one is a further item of the first one's cell, since a cell that starts where another ends or after it has
-- a later key.
-- Assumes nothing.
use mathlib.Core.Path.{◌≡◌, subst}
use mathlib.Core.Bool.{true, false, not}
use mathlib.Core.List.{List, []}
use mathlib.Core.Logic.{inl, inr}
use Prim.Native.Nat.{ℕ, ◌-◌, ◌≤◌, ◌<◌}
use native.Mathlib.Decide.{dec_le}
use native.Mathlib.Omega.{arith}
use lib.Dec.{T}
use lib.ListN.{length, get_or, take, drop}
use Rattle.theory_lists.specs.Lists.{filter}
use Rattle.theory_lists.proofs.Reflects.{reflects-no, test-true, test-false}
use Rattle.theory_lists.proofs.FilterLaws.{filter-all, filter_none}
use Rattle.theory_lists.proofs.Order.{ordered_at}
use Rattle.theory_lists.proofs.PartLaws.{part-every}
use Rattle.theory_orthtree.specs.Entries.{Entry, empty_mark, is_mark, range_end, chain}
use Rattle.theory_orthtree.proofs.EntriesLaws.{span-positive}
use Rattle.theory_orthtree.proofs.ChainLaws.{NextItem, is_mark-reflects}
use Rattle.theory_orthtree.proofs.ChainOrderLaws.{Before, chain-ordered}

module _ (arity depth count : ℕ) (d : Entry) (pos : 0 < arity) (es : List Entry) (rule : T (chain arity depth count es))
    (from to : ℕ) (h : from < to) (w : to ≤ length es) (one : (i : ℕ) → from ≤ i → i < to → (get_or es i d).key ≡ (get_or es from d).key) where
  -- an entry after the first is a further item of its cell
  further : (i : ℕ) → from < i → i < to → NextItem (get_or es from d) (get_or es i d)
  unfolding range_end
  further i g l = go (ordered_at from i d (chain-ordered arity depth count pos es rule) g (omega arith))
    where
      go : Before arity depth (get_or es from d) (get_or es i d) → NextItem (get_or es from d) (get_or es i d)
      go (inl n) = n
      go (inr e) = absurd (omega (arith, span-positive arity depth (get_or es from d).level pos, one i (omega arith) l))

  -- where the first is an item, no later one is a mark
  pub all-items : ((get_or es from d).item ≡ empty_mark → ⊥) → (i : ℕ) → from ≤ i → i < to → (get_or es i d).item ≡ empty_mark → ⊥
  all-items n i g l = elim (dec_le i from) [
    | yes b ↦ let e : from ≡ i = omega arith in subst (λ j. (get_or es j d).item ≡ empty_mark → ⊥) e n
    | no b ↦ (further i (omega arith) l).second_item
  ]

  -- where the first is a mark, there is no later one
  pub all-marks : (get_or es from d).item ≡ empty_mark → (i : ℕ) → from ≤ i → i < to → (get_or es i d).item ≡ empty_mark
  all-marks m i g l = elim (dec_le i from) [
    | yes b ↦ let e : i ≡ from = omega arith in rw e m
    | no b ↦ absurd ((further i (omega arith) l).first_item m)
  ]

  -- entries that start with an item are all kept
  pub items_kept : ((get_or es from d).item ≡ empty_mark → ⊥)
      → filter (λ e. not (is_mark e)) (take (to - from) (drop from es)) ≡ take (to - from) (drop from es)
  items_kept n =
      filter-all (λ e. not (is_mark e)) (take (to - from) (drop from es))
      (part-every es from to (omega arith) w (λ e. not (is_mark e) ≡ true) d (λ i g l.
      test-true ((reflects-no (is_mark-reflects (get_or es i d))).from (all-items n i g l))))

  -- those that start with a mark are all left out
  pub mark-dropped : (get_or es from d).item ≡ empty_mark → filter (λ e. not (is_mark e)) (take (to - from) (drop from es)) ≡ []
  mark-dropped m =
      filter_none (λ e. not (is_mark e)) (take (to - from) (drop from es))
      (part-every es from to (omega arith) w (λ e. not (is_mark e) ≡ false) d (λ i g l.
      test-false (λ t. (reflects-no (is_mark-reflects (get_or es i d))).to t (all-marks m i g l))))
