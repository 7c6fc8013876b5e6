-- What the tests on key ranges mean.
-- Assumes nothing.
use Prim.Native.Nat.{ℕ, ◌≤◌, ◌<◌, max}
use native.Mathlib.Nat.{one-le-pow}
use native.Mathlib.Omega.{arith}
use Rattle.theory_lists.proofs.Reflects.{Reflects, reflects-and, reflects-leb, reflects-ltb}
use Rattle.theory_orthtree.specs.Entries.{Entry, span, range_end, covers, overlaps}

-- what a place past the end of a list of entries gives
abbrev pub no_entry : Entry
no_entry = record { key = 0; level = 0; item = 0 }

-- every node covers a key
pub span-positive : (arity depth level : ℕ) → 0 < arity → 0 < span arity depth level
unfolding span
span-positive arity depth level h = one-le-pow _ arity h

-- the key range of the entry's cell has the key: it starts at or before it and ends after it
pub record InRange (arity depth k : ℕ) (e : Entry) : Type 0 where
  pub starts : e.key ≤ k
  pub ends : k < range_end arity depth e

-- two key ranges have a key in common
pub record CommonKey (arity depth : ℕ) (e f : Entry) : Type 0 where
  pub key : ℕ
  pub first : InRange arity depth key e
  pub second : InRange arity depth key f

module _ (arity depth : ℕ) where
  pub covers-reflects : (k : ℕ) (e : Entry) → Reflects (covers arity depth k e) (InRange arity depth k e)
  unfolding covers
  covers-reflects k e =
      let r = reflects-and (reflects-leb e.key k) (reflects-ltb k (range_end arity depth e)) in
      record {
        to = λ t. let h = r.to t in record { starts = h.0; ends = h.1 };
        from = λ h. r.from (h.starts, h.ends);
      }

  pub overlaps-reflects : 0 < arity → (e f : Entry) → Reflects (overlaps arity depth e f) (CommonKey arity depth e f)
  unfolding overlaps range_end
  overlaps-reflects pos e f =
      let r = reflects-and (reflects-ltb e.key (range_end arity depth f)) (reflects-ltb f.key (range_end arity depth e)) in
      let a = span-positive arity depth e.level pos in
      let b = span-positive arity depth f.level pos in
      record {
        to = λ t. let h = r.to t in
            record {
              key = max e.key f.key;
              first = record { starts = omega arith; ends = omega arith };
              second = record { starts = omega arith; ends = omega arith };
            };
        from = λ c. r.from (
          let h = c.first.starts in let k = c.second.ends in omega arith,
          let h = c.second.starts in let k = c.first.ends in omega arith,
        );
      }
