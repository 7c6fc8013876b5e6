-- The chain rule of the first entries of three lists, by places. Over any arity and depth.
-- Assumes nothing.
use mathlib.Core.Path.{◌≡◌, sym, ◌∙◌}
use mathlib.Core.List.{List}
use Prim.Native.Nat.{ℕ, suc, ◌<◌}
use native.Mathlib.Omega.{arith}
use lib.ListN.{get_or, take}
use Rattle.theory_lists.proofs.Reflects.{Reflects, reflects-iff}
use Rattle.theory_orthtree.specs.Entries.{Entry, chain, entry}
use Rattle.theory_orthtree.proofs.ChainPlaceLaws.{Chained, places-reflect, chained_same}
use Rattle.spec_calls.specs.Buffers.{Roomy, zip_entries}
use Rattle.laws_calls.proofs.EntriesLaws.{first_count, first-at}
use Rattle.chart_links.specs.Links.{entry_at}

-- what a place past the end of a list gives
nowhere : Entry
nowhere = entry 0 0 0

module _ (arity depth count : ℕ) (ks ls is : List ℕ) (n m : ℕ) (e : n ≡ suc m)
    (r : Roomy n ks ls is) where
  -- the chain rule on the first n entries of three lists
  pub lists-reflect : Reflects (chain arity depth count (take n (zip_entries ks ls is))) (Chained arity depth count (λ i. entry_at ks ls is i) m)
  unfolding entry_at
  lists-reflect =
      reflects-iff (chained_same arity depth count same) (chained_same arity depth count (λ i l. sym (same i l)))
      (places-reflect arity depth count nowhere (take n (zip_entries ks ls is)) m (first_count ks ls is n r.for_keys r.for_levels r.for_items ∙ e))
    where
      same : (i : ℕ) → i < suc m → get_or (take n (zip_entries ks ls is)) i nowhere ≡ entry_at ks ls is i
      same i l = first-at ks ls is n r.for_keys r.for_levels r.for_items nowhere i (omega arith)
