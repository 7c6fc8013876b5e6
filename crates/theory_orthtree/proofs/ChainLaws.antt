-- What the chain rule means: `chain` is the claim `ChainFrom 0`, that the first entry starts at 0, that each entry fits, and that
-- each next one is a higher item of the same cell or starts where the cell before it ends, up to the tree's end.
-- The idea: read each test of the definition as the claim that it decides.
-- Assumes nothing.
use mathlib.Core.Path.{◌≡◌}
use mathlib.Core.Bool.{not, ◌&&◌}
use mathlib.Core.List.{List, [], ◌∷◌}
use mathlib.Core.Logic.{◌⊎◌}
use Prim.Native.Nat.{ℕ, ◌%◌, ◌≤◌, ◌<◌}
use native.Mathlib.Omega.{arith}
use lib.Dec.{ltb}
use Rattle.theory_lists.proofs.Reflects.{Reflects, reflects-and, reflects-or, reflects-no, reflects-then, reflects-iff, reflects-leb, reflects-ltb, reflects-eqb}
use Rattle.theory_orthtree.specs.Entries.{Entry, empty_mark, is_mark, same_cell, span, range_end, entry_fits, follows, chain_after, chain}
use Rattle.theory_orthtree.proofs.EntriesLaws.{span-positive}

-- the two entries are of one cell
pub record SameCell (e f : Entry) : Type 0 where
  pub key : e.key ≡ f.key
  pub level : e.level ≡ f.level

-- the test for that
pub same_cell-reflects : (e f : Entry) → Reflects (same_cell e f) (SameCell e f)
unfolding same_cell
same_cell-reflects e f = reflects-iff (λ h. record { key = h.0; level = h.1 }) (λ s. (s.key, s.level))
    (reflects-and (reflects-eqb e.key f.key) (reflects-eqb e.level f.level))

-- the test for the mark
pub is_mark-reflects : (e : Entry) → Reflects (is_mark e) (e.item ≡ empty_mark)
unfolding is_mark
is_mark-reflects e = reflects-eqb e.item empty_mark

-- f is a further item of e's cell
pub record NextItem (e f : Entry) : Type 0 where
  pub cell : SameCell e f
  pub higher : e.item < f.item
  pub first_item : e.item ≡ empty_mark → ⊥
  pub second_item : f.item ≡ empty_mark → ⊥

module _ (arity depth : ℕ) where
  -- entries of one cell end at the same key
  pub same_end : {e f : Entry} → SameCell e f → range_end arity depth e ≡ range_end arity depth f
  unfolding range_end
  same_end s = rw (s.key, s.level)

  -- the entry fits into the tree, and its item is one of count many or the mark
  pub record Fits (count : ℕ) (e : Entry) : Type 0 where
    pub level : e.level ≤ depth
    pub aligned : e.key % span arity depth e.level ≡ 0
    pub item : (e.item < count) ⊎ (e.item ≡ empty_mark)

  -- the test for that
  pub entry_fits-reflects : (count : ℕ) (e : Entry) → Reflects (entry_fits arity depth count e) (Fits count e)
  unfolding entry_fits
  entry_fits-reflects count e =
      reflects-iff (λ h. record { level = h.0.0; aligned = h.0.1; item = h.1 }) (λ s. ((s.level, s.aligned), s.item))
      (reflects-and (reflects-and (reflects-leb e.level depth) (reflects-eqb (e.key % span arity depth e.level) 0))
      (reflects-or (reflects-ltb e.item count) (is_mark-reflects e)))

  -- f may stand after e: a further item of its cell, or the start of the cell that begins where e's ends
  abbrev pub Follows : Entry → Entry → Type 0
  Follows e f = NextItem e f ⊎ (f.key ≡ range_end arity depth e)

  next-reflects : (e f : Entry) → Reflects (same_cell e f && ltb e.item f.item && not (is_mark e) && not (is_mark f)) (NextItem e f)
  next-reflects e f =
      reflects-iff (λ h. record { cell = h.0.0.0; higher = h.0.0.1; first_item = h.0.1; second_item = h.1 })
      (λ s. (((s.cell, s.higher), s.first_item), s.second_item))
      (reflects-and (reflects-and (reflects-and (same_cell-reflects e f) (reflects-ltb e.item f.item))
      (reflects-no (is_mark-reflects e))) (reflects-no (is_mark-reflects f)))

  -- the test for that
  pub follows-reflects : (e f : Entry) → Reflects (follows arity depth e f) (Follows e f)
  unfolding follows
  follows-reflects e f = reflects-or (next-reflects e f) (reflects-eqb f.key (range_end arity depth e))

  -- the entries go on after e, up to the tree's end
  pub data ChainAfter (count : ℕ) : Entry → List Entry → Type 0 where
    last : {e : Entry} → range_end arity depth e ≡ span arity depth 0 → ChainAfter count e []
    link : {e f : Entry} {es : List Entry} → Fits count f → Follows e f → ChainAfter count f es → ChainAfter count e (f ∷ es)

  last_end : {count : ℕ} {e : Entry} → ChainAfter count e [] → range_end arity depth e ≡ span arity depth 0
  last_end (last h) = h

  link-parts : {count : ℕ} {e f : Entry} {es : List Entry} → ChainAfter count e (f ∷ es)
      → (Fits count f × Follows e f) × ChainAfter count f es
  link-parts (link fit fol c) = ((fit, fol), c)

  -- the test for that
  pub chain_after-reflects : (count : ℕ) (e : Entry) (es : List Entry) → Reflects (chain_after arity depth count e es) (ChainAfter count e es)
  unfolding chain_after
  chain_after-reflects count e [] = reflects-iff last last_end (reflects-eqb (range_end arity depth e) (span arity depth 0))
  chain_after-reflects count e (f ∷ es) =
      reflects-iff (λ h. link h.0.0 h.0.1 h.1) link-parts
      (reflects-then (entry_fits arity depth count f && follows arity depth e f)
      (reflects-and (entry_fits-reflects count f) (follows-reflects e f)) (chain_after-reflects count f es))

  -- the entries go on from the key k, up to the tree's end
  pub data ChainFrom (count : ℕ) : ℕ → List Entry → Type 0 where
    end : {k : ℕ} → k ≡ span arity depth 0 → ChainFrom count k []
    start : {k : ℕ} {e : Entry} {es : List Entry} → e.key ≡ k → Fits count e → ChainAfter count e es → ChainFrom count k (e ∷ es)

  no_end : {count : ℕ} → 0 < arity → ChainFrom count 0 [] → ⊥
  no_end pos (end h) = let p = span-positive arity depth 0 pos in omega arith

  start-parts : {count k : ℕ} {e : Entry} {es : List Entry} → ChainFrom count k (e ∷ es)
      → ((e.key ≡ k) × Fits count e) × ChainAfter count e es
  start-parts (start h fit c) = ((h, fit), c)

  -- the chain rule is that the entries go on from 0
  pub chain-reflects : 0 < arity → (count : ℕ) (es : List Entry) → Reflects (chain arity depth count es) (ChainFrom count 0 es)
  unfolding chain
  chain-reflects pos count [] = record { to = λ t. absurd t; from = no_end pos }
  chain-reflects pos count (e ∷ es) =
      reflects-iff (λ h. start h.0.0 h.0.1 h.1) start-parts
      (reflects-and (reflects-and (reflects-eqb e.key 0) (entry_fits-reflects count e)) (chain_after-reflects count e es))
