-- What the comparison of entries means, and the entries of three lists by their places.
-- Assumes nothing.
use mathlib.Core.Path.{◌≡◌, refl, ◌∙◌, ap, ap₂}
use mathlib.Core.Bool.{◌&&◌}
use mathlib.Core.List.{List, [], ◌∷◌, nil≢cons, cons≢nil, head-eq_of_cons-eq, tail-eq_of_cons-eq}
use Prim.Native.Nat.{ℕ, zero, suc, ◌≤◌, ◌<◌}
use native.Mathlib.Omega.{arith}
use lib.Dec.{eqb}
use lib.ListN.{length, get_or, take}
use lib.Seq.{length-take-le, get_or-take}
use Rattle.theory_lists.proofs.Reflects.{Reflects, reflects-and, reflects-then, reflects-iff, reflects-eqb}
use Rattle.theory_orthtree.specs.Entries.{Entry, same_cell}
use Rattle.spec_calls.specs.Buffers.{zip_entries, same_entries}

-- two entries are the same when key, level and item are
entry-reflects : (e f : Entry) → Reflects (same_cell e f && eqb e.item f.item) (e ≡ f)
unfolding same_cell
entry-reflects e f =
    let r =
    reflects-and (reflects-and (reflects-eqb e.key f.key) (reflects-eqb e.level f.level)) (reflects-eqb e.item f.item)
    in
    record {
      to = λ t. let h = r.to t in λ i. record { key = h.0.0 i; level = h.0.1 i; item = h.1 i };
      from = λ p. r.from ((ap (λ d. d.key) p, ap (λ d. d.level) p), ap (λ d. d.item) p);
    }

-- the comparison of two lists of entries is their equality
pub same_entries-reflects : (es fs : List Entry) → Reflects (same_entries es fs) (es ≡ fs)
unfolding same_entries
same_entries-reflects [] [] = record { to = λ t. refl; from = λ p. tt }
same_entries-reflects [] (f ∷ fs) = record { to = λ t. absurd t; from = λ p. absurd (nil≢cons p) }
same_entries-reflects (e ∷ es) [] = record { to = λ t. absurd t; from = λ p. absurd (cons≢nil p) }
same_entries-reflects (e ∷ es) (f ∷ fs) =
    reflects-iff (λ h. ap₂ ◌∷◌ h.0 h.1) (λ p. (head-eq_of_cons-eq p, tail-eq_of_cons-eq p))
    (reflects-then (same_cell e f && eqb e.item f.item) (entry-reflects e f) (same_entries-reflects es fs))

-- the entry at a place of three lists is made of what stands there
zip-at : (ks ls is : List ℕ) (i : ℕ) (d : Entry) → i < length ks → i < length ls → i < length is
    → get_or (zip_entries ks ls is) i d ≡ record { key = get_or ks i 0; level = get_or ls i 0; item = get_or is i 0 }
unfolding zip_entries
zip-at [] ls is i d a b c = absurd (omega arith)
zip-at (k ∷ ks) [] is i d a b c = absurd (omega arith)
zip-at (k ∷ ks) (l ∷ ls) [] i d a b c = absurd (omega arith)
zip-at (k ∷ ks) (l ∷ ls) (t ∷ ts) zero d a b c = refl
zip-at (k ∷ ks) (l ∷ ls) (t ∷ ts) (suc i) d a b c = zip-at ks ls ts i d (omega arith) (omega arith) (omega arith)

-- there are at least n where each list has n
zip_length : (ks ls is : List ℕ) (n : ℕ) → n ≤ length ks → n ≤ length ls → n ≤ length is → n ≤ length (zip_entries ks ls is)
unfolding zip_entries
zip_length [] ls is n a b c = a
zip_length (k ∷ ks) [] is n a b c = b
zip_length (k ∷ ks) (l ∷ ls) [] n a b c = c
zip_length (k ∷ ks) (l ∷ ls) (t ∷ ts) zero a b c = omega arith
zip_length (k ∷ ks) (l ∷ ls) (t ∷ ts) (suc n) a b c =
    let h = zip_length ks ls ts n (omega arith) (omega arith) (omega arith) in omega arith

module _ (ks ls is : List ℕ) (n : ℕ) (a : n ≤ length ks) (b : n ≤ length ls) (c : n ≤ length is) where
  -- of the first n entries: how many they are
  pub first_count : length (take n (zip_entries ks ls is)) ≡ n
  first_count = length-take-le n (zip_entries ks ls is) (zip_length ks ls is n a b c)

  -- and each by its place
  pub first-at : (d : Entry) (i : ℕ) → i < n
      → get_or (take n (zip_entries ks ls is)) i d ≡ record { key = get_or ks i 0; level = get_or ls i 0; item = get_or is i 0 }
  first-at d i h = get_or-take n (zip_entries ks ls is) i d h ∙ zip-at ks ls is i d (omega arith) (omega arith) (omega arith)
