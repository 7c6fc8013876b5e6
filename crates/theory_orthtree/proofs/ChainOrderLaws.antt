-- What the chain rule gives: keys never fall, different cells have no key in common, and each key of the tree lies in a cell.
-- The idea: of two entries the later one is a further item of the same cell or starts where the earlier one's cell ends or
-- after it (`chain-ordered`, by induction along the chain). The rest follows from this.
-- Assumes nothing.
use mathlib.Core.Path.{◌≡◌, sym, ◌∙◌, ap}
use mathlib.Core.List.{List, ◌∷◌, Memᴰ}
use mathlib.Core.Logic.{◌⊎◌, inl, inr}
use Prim.Native.Nat.{ℕ, ◌≤◌, ◌<◌}
use native.Mathlib.Decide.{dec_le}
use native.Mathlib.Omega.{arith}
use lib.Dec.{T}
use lib.ListN.{length, get_or}
use Rattle.theory_lists.proofs.ListsLaws.{Every, Some, every-cons, some-cons}
use Rattle.theory_lists.proofs.EveryLaws.{every-nil, every-imp}
use Rattle.theory_lists.proofs.Order.{Ordered, ordered-none, ordered-more, ordered_at, ordered-pair}
use Rattle.theory_orthtree.specs.Entries.{Entry, span, range_end, chain}
use Rattle.theory_orthtree.proofs.EntriesLaws.{InRange, CommonKey}
use Rattle.theory_orthtree.proofs.ChainLaws.{SameCell, NextItem, same_end, Fits, Follows, ChainAfter, last, link, ChainFrom, end, start, chain-reflects}

module _ (arity depth : ℕ) where
  -- f may stand somewhere after e: it is a further item of the same cell, or starts where e's cell ends or after that
  abbrev pub Before : Entry → Entry → Type 0
  Before e f = NextItem e f ⊎ (range_end arity depth e ≤ f.key)

  before-step : {e f g : Entry} → Follows arity depth e f → Before f g → Before e g
  unfolding range_end
  before-step (inl n) (inl s) = inl (record {
    cell = record { key = n.cell.key ∙ s.cell.key; level = n.cell.level ∙ s.cell.level };
    higher = omega (arith, n.higher, s.higher);
    first_item = n.first_item;
    second_item = s.second_item;
  })
  before-step (inl n) (inr h) = inr (rw (same_end arity depth n.cell) h)
  before-step (inr h) (inl s) = inr (omega (arith, s.cell.key))
  before-step (inr h) (inr g) = inr (omega arith)

  follows-before : {e f : Entry} → Follows arity depth e f → Before e f
  follows-before (inl n) = inl n
  follows-before (inr h) = inr (omega arith)

  after-before : {count : ℕ} {e : Entry} {es : List Entry} → ChainAfter arity depth count e es → Every (λ f. Before e f) es
  after-before {e = e} (last h) = every-nil (λ f. Before e f)
  after-before (link fit fol c) = every-cons (follows-before fol, every-imp (λ g b. before-step fol b) (after-before c))

  after-ordered : {count : ℕ} {e : Entry} {es : List Entry} → ChainAfter arity depth count e es → Ordered (λ e f. Before e f) es
  after-ordered (last h) = ordered-none
  after-ordered (link fit fol c) = ordered-more (after-before c) (after-ordered c)

  from-ordered : {count k : ℕ} {es : List Entry} → ChainFrom arity depth count k es → Ordered (λ e f. Before e f) es
  from-ordered (end h) = ordered-none
  from-ordered (start h fit c) = ordered-more (after-before c) (after-ordered c)

  after-fits : {count : ℕ} {e : Entry} {es : List Entry} → ChainAfter arity depth count e es → Every (λ f. Fits arity depth count f) es
  after-fits {count} (last h) = every-nil (λ f. Fits arity depth count f)
  after-fits (link fit fol c) = every-cons (fit, after-fits c)

  from-fits : {count k : ℕ} {es : List Entry} → ChainFrom arity depth count k es → Every (λ f. Fits arity depth count f) es
  from-fits {count} (end h) = every-nil (λ f. Fits arity depth count f)
  from-fits (start h fit c) = every-cons (fit, after-fits c)

  -- an entry's cell starts no later than that of an entry after it
  pub before-key : {e f : Entry} → Before e f → e.key ≤ f.key
  unfolding range_end
  before-key (inl s) = omega (arith, s.cell.key)
  before-key (inr h) = omega arith

  -- and ends no later
  pub before-end : {e f : Entry} → Before e f → range_end arity depth e ≤ range_end arity depth f
  unfolding range_end
  before-end (inl s) = omega (arith, same_end arity depth s.cell)
  before-end (inr h) = omega arith

  -- where the two cells have a key in common, it is a further item of the same cell
  pub before-common : {e f : Entry} (k : ℕ) → Before e f → InRange arity depth k e → InRange arity depth k f → NextItem e f
  before-common k (inl s) p q = s
  before-common k (inr h) p q = absurd (omega (arith, p.ends, q.starts))

  next_start : {e f : Entry} {k : ℕ} → Follows arity depth e f → e.key ≤ k → range_end arity depth e ≤ k → f.key ≤ k
  next_start (inl n) h g = omega (arith, n.cell.key)
  next_start (inr e) h g = omega arith

  after-cover : {count : ℕ} {e : Entry} {es : List Entry} (k : ℕ) → ChainAfter arity depth count e es → e.key ≤ k → k < span arity depth 0
      → Some (λ f. InRange arity depth k f) (e ∷ es)
  after-cover k (last g) h l = some-cons (inl (record { starts = h; ends = omega arith }))
  after-cover k (link {e = e} fit fol c) h l = elim (dec_le (range_end arity depth e) k) [
    | yes y ↦ some-cons (inr (after-cover k c (next_start fol h y) l))
    | no n ↦ some-cons (inl (record { starts = h; ends = omega arith }))
  ]

  from-cover : {count : ℕ} {es : List Entry} (k : ℕ) → ChainFrom arity depth count 0 es → k < span arity depth 0
      → Some (λ f. InRange arity depth k f) es
  from-cover k (end h) l = absurd (omega arith)
  from-cover k (start h fit c) l = after-cover k c (omega arith) l

  module _ (count : ℕ) (pos : 0 < arity) (es : List Entry) (rule : T (chain arity depth count es)) where
    from : ChainFrom arity depth count 0 es
    from = (chain-reflects arity depth pos count es).to rule

    -- a later entry is a further item of the same cell, or of a cell that starts where this one ends or after that
    pub chain-ordered : Ordered (λ e f. Before e f) es
    chain-ordered = from-ordered from

    -- each entry fits into the tree, and its item is below the count or the mark
    pub chain_fits : Every (λ e. Fits arity depth count e) es
    chain_fits = from-fits from

    -- keys never fall
    pub chain-keys-rise : (i j : ℕ) (d : Entry) → i < j → j < length es → (get_or es i d).key ≤ (get_or es j d).key
    chain-keys-rise i j d h l = before-key (ordered_at i j d chain-ordered h l)

    -- ranges of different cells have no key in common
    pub chain-apart : {e f : Entry} → Memᴰ e es → Memᴰ f es → CommonKey arity depth e f → SameCell e f
    chain-apart {e} {f} m n c = go (ordered-pair chain-ordered m n)
      where
        go : (e ≡ f) ⊎ (Before e f ⊎ Before f e) → SameCell e f
        go (inl q) = record { key = ap (λ g. g.key) q; level = ap (λ g. g.level) q }
        go (inr (inl b)) = (before-common c.key b c.first c.second).cell
        go (inr (inr b)) = let s = (before-common c.key b c.second c.first).cell in record { key = sym s.key; level = sym s.level }

    -- each key of the tree lies in a cell
    pub chain-cover : (k : ℕ) → k < span arity depth 0 → Some (λ e. InRange arity depth k e) es
    chain-cover k l = from-cover k from l
