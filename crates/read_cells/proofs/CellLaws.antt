-- Where two searches in the keys find the entries of the cell that has a key, in a list that satisfies the chain rule.
-- The idea: entries at or before the key end where keys pass it. The last of them is of the cell that has the key, so the
-- cell's entries start where keys reach that one's.
-- Assumes nothing.
use mathlib.Core.Path.{◌≡◌, sym, ◌∙◌, ap₂}
use mathlib.Core.List.{List, [], ◌∷◌}
use mathlib.Core.Logic.{inl, inr}
use Prim.Native.Nat.{ℕ, ◌+◌, ◌-◌, ◌≤◌, ◌<◌}
use native.Mathlib.Decide.{dec_le}
use native.Mathlib.Omega.{arith}
use borrow.Author.Tests.{le-leb, lt-leb}
use lib.Dec.{T}
use lib.ListN.{length, get_or, take, drop}
use Rattle.theory_lists.specs.Lists.{filter}
use Rattle.theory_lists.proofs.Reflects.{Reflects, reflects-iff}
use Rattle.theory_lists.proofs.Prefixes.{prefix-unique}
use Rattle.theory_lists.proofs.Order.{ordered_at}
use Rattle.theory_orthtree.specs.Entries.{Entry, span, range_end, covers, chain}
use Rattle.theory_orthtree.proofs.EntriesLaws.{InRange, span-positive, covers-reflects}
use Rattle.theory_orthtree.proofs.ChainLaws.{ChainFrom, end, start, chain-reflects, same_end}
use Rattle.theory_orthtree.proofs.ChainOrderLaws.{Before, before-end, chain-ordered, chain-keys-rise}
use Rattle.theory_orthtree.proofs.ChainPartLaws.{ended_at, started_at, ended_by, started_by, chain-part, chain-part-some}
use Rattle.read_cells.specs.Keys.{Rises, Passes}
use Rattle.read_cells.proofs.PassLaws.{not-passed}

-- the entries of the cell that has the key k are those from place from up to place to, at least one, with one key
pub record CellPart (arity depth k : ℕ) (es : List Entry) (d : Entry) (from to : ℕ) : Type 0 where
  pub some : from < to
  pub within : to ≤ length es
  pub key : (i : ℕ) → from ≤ i → i < to → (get_or es i d).key ≡ (get_or es from d).key
  pub entries : filter (λ e. covers arity depth k e) es ≡ take (to - from) (drop from es)
  pub places : (i : ℕ) → i < length es → Reflects (covers arity depth k (get_or es i d)) ((from ≤ i) × (i < to))

-- a chain has a first entry, with key 0
pub chain-starts : (arity depth count : ℕ) → 0 < arity → (es : List Entry) → T (chain arity depth count es) → (d : Entry)
    → (0 < length es) × ((get_or es 0 d).key ≡ 0)
chain-starts arity depth count pos es rule d = go es ((chain-reflects arity depth pos count es).to rule)
  where
    go : (es : List Entry) → ChainFrom arity depth count 0 es → (0 < length es) × ((get_or es 0 d).key ≡ 0)
    go [] (end h) = absurd (let p = span-positive arity depth 0 pos in omega arith)
    go (e ∷ es) (start h f c) = (omega arith, h)

module _ (arity depth count : ℕ) (pos : 0 < arity) (es : List Entry) (rule : T (chain arity depth count es)) (d : Entry)
    (keys : List ℕ) (n : ℕ) (len : length es ≡ n) (same : (i : ℕ) → i < n → (get_or es i d).key ≡ get_or keys i 0) where
  -- a later entry is a further item of the same cell, or of a cell that starts where this one ends or after that
  before_at : (i j : ℕ) → i < j → j < n → Before arity depth (get_or es i d) (get_or es j d)
  before_at i j h l = ordered_at i j d (chain-ordered arity depth count pos es rule) h (omega arith)

  -- the keys of the entries never fall
  pub keys-rise : Rises keys n
  keys-rise = record { later = λ i j h l. go i j l (dec_le j i) h }
    where
      go : (i j : ℕ) → j < n → Dec (j ≤ i) → i ≤ j → get_or keys i 0 ≤ get_or keys j 0
      go i j l (yes g) h = let e : i ≡ j = omega arith in rw e (omega arith)
      go i j l (no g) h =
          let r = chain-keys-rise arity depth count pos es rule i j d (omega arith) (omega arith) in
          omega (arith, same i (omega arith), same j l)

  module _ (k to : ℕ) (p : Passes keys n (k + 1) to) where
    -- cells that start at or before the key k are those of the entries before place to
    to-started : to ≡ started_by k es
    to-started =
        prefix-unique (started_at k) es to d (omega (arith, p.within))
        (λ i l. le-leb (get_or es i d).key k (omega (arith, same i (omega (arith, p.within)), p.before i l)))
        (λ l. lt-leb (get_or es to d).key k (omega (arith, same to (omega arith), p.after to (omega arith) (omega arith))))

    module _ (low : k < span arity depth 0) where
      -- one of them does not end at or before it
      some : ended_by arity depth k es < to
      some = rw to-started (chain-part-some arity depth k count pos es rule low)

      pub to-positive : 0 < to
      to-positive = omega (arith, some)

      last-in : to - 1 < n
      last-in = omega (arith, to-positive, p.within)

      last-key : (get_or es (to - 1) d).key ≡ get_or keys (to - 1) 0
      last-key = same (to - 1) last-in

      last-started : get_or keys (to - 1) 0 ≤ k
      last-started = omega (arith, p.before (to - 1) (omega (arith, to-positive)))

      next-goes-on : to < length es → k < range_end arity depth (get_or es to d)
      unfolding range_end
      next-goes-on l = omega (arith, same to (omega arith), p.after to (omega arith) (omega arith))

      ends_by : range_end arity depth (get_or es (to - 1) d) ≤ k → (i : ℕ) → i < to → Dec (to - 1 ≤ i) → range_end arity depth (get_or es i d) ≤ k
      ends_by h i l (yes g) = let e : i ≡ to - 1 = omega arith in rw e h
      ends_by h i l (no g) = let b = before-end arity depth (before_at i (to - 1) (omega arith) last-in) in omega arith

      all-ended : range_end arity depth (get_or es (to - 1) d) ≤ k → to ≡ ended_by arity depth k es
      all-ended h =
          prefix-unique (ended_at arity depth k) es to d (omega (arith, p.within))
          (λ i l. le-leb (range_end arity depth (get_or es i d)) k (ends_by h i l (dec_le (to - 1) i)))
          (λ l. lt-leb (range_end arity depth (get_or es to d)) k (next-goes-on l))

      -- the last entry at or before the key is of the cell that has it: else all up to there would have ended
      last-goes-on : k < range_end arity depth (get_or es (to - 1) d)
      last-goes-on = elim (dec_le (range_end arity depth (get_or es (to - 1) d)) k) [
        | yes h ↦ absurd (omega (arith, some, all-ended h))
        | no h ↦ omega arith
      ]

      module _ (from : ℕ) (q : Passes keys n (get_or keys (to - 1) 0) from) where
        -- the key at place to - 1 is not below itself
        from-below : from < to
        from-below = omega (arith, to-positive, not-passed q (to - 1) last-in (omega arith))

        -- keys between the two places are the same
        cell-key : (i : ℕ) → from ≤ i → i < to → get_or keys i 0 ≡ get_or keys (to - 1) 0
        cell-key i h l = omega (arith, keys-rise.later i (to - 1) (omega arith) last-in, q.after i h (omega (arith, last-in)))

        -- an entry before place from is of a cell that ends at or before the key
        early-ended : (i : ℕ) → i < from → range_end arity depth (get_or es i d) ≤ k
        early-ended i l = go (before_at i (to - 1) (omega (arith, from-below)) last-in)
          where
            go : Before arity depth (get_or es i d) (get_or es (to - 1) d) → range_end arity depth (get_or es i d) ≤ k
            go (inl s) =
                absurd (omega (arith, s.cell.key, same i (omega (arith, from-below, last-in)), q.before i l, last-key))
            go (inr h) = omega (arith, last-key, last-started)

        -- an entry between the two places is of the cell that has the key
        goes_on : (i : ℕ) → from ≤ i → i < to → k < range_end arity depth (get_or es i d)
        unfolding range_end
        goes_on i a l = go (dec_le (to - 1) i)
          where
            next : Before arity depth (get_or es i d) (get_or es (to - 1) d) → k < range_end arity depth (get_or es i d)
            next (inl s) = omega (arith, last-goes-on, same_end arity depth s.cell)
            next (inr h) =
                let e = cell-key i a l in
                absurd (omega (arith, span-positive arity depth (get_or es i d).level pos, same i (omega (arith, last-in)), last-key))

            go : Dec (to - 1 ≤ i) → k < range_end arity depth (get_or es i d)
            go (yes g) = let e : i ≡ to - 1 = omega arith in rw e last-goes-on
            go (no g) = next (before_at i (to - 1) (omega arith) last-in)

        -- cells that end at or before the key are those of the entries before place from
        from-ended : from ≡ ended_by arity depth k es
        from-ended =
            prefix-unique (ended_at arity depth k) es from d (omega (arith, from-below, p.within))
            (λ i l. le-leb (range_end arity depth (get_or es i d)) k (early-ended i l))
            (λ l. lt-leb (range_end arity depth (get_or es from d)) k (goes_on from (omega arith) from-below))

        -- an entry is of the cell that has the key exactly if its place is between the two
        in_place : (i : ℕ) → i < length es → Reflects (covers arity depth k (get_or es i d)) ((from ≤ i) × (i < to))
        in_place i l =
            reflects-iff (λ h. (after h, before h))
            (λ h. record { starts = omega (arith, same i (omega arith), p.before i h.1); ends = goes_on i h.0 h.1 })
            (covers-reflects arity depth k (get_or es i d))
          where
            after : InRange arity depth k (get_or es i d) → from ≤ i
            after h = elim (dec_le from i) [ yes g ↦ g | no g ↦ absurd (omega (arith, h.ends, early-ended i (omega arith))) ]

            before : InRange arity depth k (get_or es i d) → i < to
            before h = elim (dec_le to i) [
              | yes g ↦ absurd (omega (arith, h.starts, same i (omega arith), p.after i g (omega arith)))
              | no g ↦ omega arith
            ]

        -- the two places are where the entries of the cell that has the key k start and end
        pub cell-part : CellPart arity depth k es d from to
        cell-part = record {
          some = from-below;
          within = omega (arith, p.within);
          key = λ i h l. same i (omega (arith, p.within)) ∙ cell-key i h l
              ∙ sym (same from (omega (arith, from-below, p.within)) ∙ cell-key from (omega arith) from-below);
          entries = chain-part arity depth k count pos es rule
              ∙ sym (ap₂ (λ t f. take (t - f) (drop f es)) to-started from-ended);
          places = in_place;
        }
