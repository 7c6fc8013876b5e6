-- The chain rule by places: what `chain` says of every entry and of every two neighbours. Over any arity and depth.
-- Assumes nothing.
use mathlib.Core.Path.{◌≡◌, sym, ◌∙◌, ap, subst}
use mathlib.Core.Bool.{◌&&◌}
use mathlib.Core.List.{List, [], ◌∷◌}
use Prim.Native.Nat.{ℕ, zero, suc, ◌<◌}
use native.Mathlib.Nat.{le_of_suc-le-suc}
use native.Mathlib.Omega.{arith}
use lib.Dec.{T, eqb}
use lib.ListN.{length, get_or}
use Rattle.theory_lists.proofs.Reflects.{Reflects, reflects-and, reflects-then, reflects-iff, reflects-eqb, reflects-test}
use Rattle.theory_orthtree.specs.Entries.{Entry, span, range_end, entry_fits, follows, chain_after, chain}

-- what holds at 0, and at one more than each number below n, holds at each number below n + 1
below-cons : (P : ℕ → Type 0) {n : ℕ} → P 0 → ((i : ℕ) → i < n → P (suc i)) → (i : ℕ) → i < suc n → P i
below-cons P z s zero l = z
below-cons P z s (suc i) l = s i (le_of_suc-le-suc l)

module _ (arity depth count : ℕ) where
  -- entries by their places, the last of which is m, make a chain
  pub record Chained (at : ℕ → Entry) (m : ℕ) : Type 0 where
    pub first : (at 0).key ≡ 0
    pub fits : (i : ℕ) → i < suc m → T (entry_fits arity depth count (at i))
    pub next : (i : ℕ) → i < m → T (follows arity depth (at i) (at (suc i)))
    pub end : T (eqb (range_end arity depth (at m)) (span arity depth 0))

  module _ (d : Entry) where
    -- the entries es go on from e
    record GoesOn (e : Entry) (es : List Entry) : Type 0 where
      fits : (i : ℕ) → i < length es → T (entry_fits arity depth count (get_or es i d))
      next : (i : ℕ) → i < length es → T (follows arity depth (get_or (e ∷ es) i d) (get_or es i d))
      end : T (eqb (range_end arity depth (get_or (e ∷ es) (length es) d)) (span arity depth 0))

    goes_on-reflects : (e : Entry) (es : List Entry) → Reflects (chain_after arity depth count e es) (GoesOn e es)
    unfolding chain_after
    goes_on-reflects e [] = record {
      to = λ t. record { fits = λ i l. absurd (omega arith); next = λ i l. absurd (omega arith); end = t };
      from = λ g. g.end;
    }
    goes_on-reflects e (f ∷ fs) =
        reflects-iff
        (λ h. record {
          fits = below-cons (λ i. T (entry_fits arity depth count (get_or (f ∷ fs) i d))) h.0.0 h.1.fits;
          next = below-cons (λ i. T (follows arity depth (get_or (e ∷ f ∷ fs) i d) (get_or (f ∷ fs) i d))) h.0.1 h.1.next;
          end = h.1.end;
        })
        (λ g. (
          (g.fits 0 (omega arith), g.next 0 (omega arith)),
          record { fits = λ i l. g.fits (suc i) (omega arith); next = λ i l. g.next (suc i) (omega arith); end = g.end },
        ))
        (reflects-then (entry_fits arity depth count f && follows arity depth e f)
        (reflects-and (reflects-test (entry_fits arity depth count f)) (reflects-test (follows arity depth e f)))
        (goes_on-reflects f fs))

    chain-cons : (e : Entry) (es : List Entry)
        → Reflects (chain arity depth count (e ∷ es)) (Chained (λ i. get_or (e ∷ es) i d) (length es))
    unfolding chain
    chain-cons e es =
        reflects-iff
        (λ h. record {
          first = h.0.0;
          fits = below-cons (λ i. T (entry_fits arity depth count (get_or (e ∷ es) i d))) h.0.1 h.1.fits;
          next = h.1.next;
          end = h.1.end;
        })
        (λ g. (
          (g.first, g.fits 0 (omega arith)),
          record { fits = λ i l. g.fits (suc i) (omega arith); next = g.next; end = g.end },
        ))
        (reflects-and (reflects-and (reflects-eqb e.key 0) (reflects-test (entry_fits arity depth count e))) (goes_on-reflects e es))

    -- the chain rule on a list, by places; d is what a place past its end gives
    pub places-reflect : (es : List Entry) (m : ℕ) → length es ≡ suc m
        → Reflects (chain arity depth count es) (Chained (λ i. get_or es i d) m)
    places-reflect [] m h = absurd (omega arith)
    places-reflect (e ∷ es) m h =
        let l : length es ≡ m = omega arith in
        subst (λ (n : ℕ). Reflects (chain arity depth count (e ∷ es)) (Chained (λ i. get_or (e ∷ es) i d) n)) l (chain-cons e es)

  -- entries that are equal at each place make a chain together
  pub chained_same : {at by : ℕ → Entry} {m : ℕ} → ((i : ℕ) → i < suc m → at i ≡ by i) → Chained at m → Chained by m
  chained_same {at} {by} {m} e c = record {
    first = sym (ap (λ d. d.key) (e 0 (omega arith))) ∙ c.first;
    fits = λ i l. subst (λ d. T (entry_fits arity depth count d)) (e i l) (c.fits i l);
    next = λ i l.
        subst (λ d. T (follows arity depth (by i) d)) (e (suc i) (omega arith))
        (subst (λ d. T (follows arity depth d (at (suc i)))) (e i (omega arith)) (c.next i l));
    end = subst (λ d. T (eqb (range_end arity depth d) (span arity depth 0))) (e m (omega arith)) c.end;
  }
