-- Prefixes of a list: tests that hold up to some place of it and not after it. The elements that pass one such test and not
-- another stand together, as one part of the list.
-- The idea: `prefix_length` counts the elements at the start that pass. Along the list, that part begins where the first test ends
-- to hold and goes on as long as the second one holds.
-- Assumes nothing.
use mathlib.Core.Path.{◌≡◌, refl, sym, ap}
use mathlib.Core.Bool.{Bool, true, false}
use mathlib.Core.List.Memᴰ
use mathlib.Core.List.{List, [], ◌∷◌}
use mathlib.Core.Logic.{◌⊎◌, inl, inr}
use Prim.Native.Nat.{ℕ, zero, suc, ◌-◌, ◌≤◌, ◌<◌}
use native.Mathlib.Nat.{sub-zero, zero-sub, suc-sub-suc}
use native.Mathlib.Omega.{arith}
use lib.Dec.{T}
use lib.ListN.{length, get_or, take, drop}
use Rattle.theory_lists.specs.Lists.{filter, prefix_length}
use Rattle.theory_lists.proofs.Reflects.{Reflects, test-true, test-false}
use Rattle.theory_lists.proofs.ListsLaws.{Every, Some, every-uncons, some-uncons}
use Rattle.theory_lists.proofs.FilterLaws.{filter-pass, filter-fail}
use Rattle.theory_lists.proofs.Order.{Ordered, ordered-uncons}

-- a test that, where it holds of an element, holds of all before it
abbrev pub Falling : {A : Type 0} → (A → Bool) → List A → Type 0
Falling f l = Ordered (λ x y. T (f y) → T (f x)) l

module _ {A : Type 0} (f : A → Bool) where
  -- one more where the first passes
  pub prefix-pass : (x : A) (xs : List A) → f x ≡ true → prefix_length f (x ∷ xs) ≡ suc (prefix_length f xs)
  unfolding prefix_length
  prefix-pass x xs e = rw (prefix_length, e)

  -- none where the first fails
  pub prefix-fail : (x : A) (xs : List A) → f x ≡ false → prefix_length f (x ∷ xs) ≡ 0
  unfolding prefix_length
  prefix-fail x xs e = rw (prefix_length, e)

  -- where the first element fails, and so all after it, the prefix is empty
  prefix-over : (x : A) (xs : List A) → Every (λ y. T (f y) → T (f x)) xs → f x ≡ false → prefix_length f xs ≡ 0
  unfolding prefix_length
  prefix-over x [] h e = refl
  prefix-over x (y ∷ ys) h e = prefix-fail y ys (test-false (λ t. rw e at ((every-uncons h).0 t)))

  -- the prefix's length is the one number of elements that all pass, where the next one does not
  pub prefix-unique : (l : List A) (n : ℕ) (d : A) → n ≤ length l → ((i : ℕ) → i < n → f (get_or l i d) ≡ true)
      → (n < length l → f (get_or l n d) ≡ false) → n ≡ prefix_length f l
  unfolding prefix_length
  prefix-unique [] n d h p q = omega arith
  prefix-unique (x ∷ xs) zero d h p q = sym (prefix-fail x xs (q (omega arith)))
  prefix-unique (x ∷ xs) (suc n) d h p q =
      rw (prefix-pass x xs (p 0 (omega arith)))
      (ap suc (prefix-unique xs n d (omega arith) (λ i l. p (suc i) (omega arith)) (λ l. q (omega arith))))

module _ {A : Type 0} (a b c : A → Bool) (sub : (x : A) → T (a x) → T (b x)) (r : (x : A) → Reflects (c x) (T (b x) × (T (a x) → ⊥))) where
  part_step : (x : A) (xs : List A) → Every (λ y. T (a y) → T (a x)) xs → Every (λ y. T (b y) → T (b x)) xs
      → filter c xs ≡ take (prefix_length b xs - prefix_length a xs) (drop (prefix_length a xs) xs)
      → (p q : Bool) → a x ≡ p → b x ≡ q
      → filter c (x ∷ xs) ≡ take (prefix_length b (x ∷ xs) - prefix_length a (x ∷ xs)) (drop (prefix_length a (x ∷ xs)) (x ∷ xs))
  part_step x xs ha hb rec true q ea eb =
      let t : T (a x) = rw ea tt in
      rw (filter-fail c x xs (test-false (λ u. ((r x).to u).1 t)), prefix-pass a x xs ea, prefix-pass b x xs (test-true (sub x t)), suc-sub-suc) rec
  part_step x xs ha hb rec false true ea eb =
      let n : T (c x) = (r x).from (rw eb tt, λ t. rw ea at t) in
      rw (filter-pass c x xs (test-true n), prefix-fail a x xs ea, prefix-pass b x xs eb, sub-zero)
      (ap (λ l. x ∷ l) (rw (prefix-over a x xs ha ea, sub-zero) at rec))
  part_step x xs ha hb rec false false ea eb =
      rw (filter-fail c x xs (test-false (λ u. rw eb at ((r x).to u).0)), prefix-fail a x xs ea, prefix-fail b x xs eb)
      (rw (prefix-over b x xs hb eb, zero-sub) at rec)

  -- the elements that pass b and not a, where a and b hold up to some place each and b wherever a does
  pub filter-part : (l : List A) → Falling a l → Falling b l
      → filter c l ≡ take (prefix_length b l - prefix_length a l) (drop (prefix_length a l) l)
  unfolding filter prefix_length
  filter-part [] o s = refl
  filter-part (x ∷ xs) o s =
      let p = ordered-uncons o in
      let q = ordered-uncons s in
      part_step x xs p.0 q.0 (filter-part xs p.1 q.1) (a x) (b x) refl refl

  -- an element passes b and not a
  abbrev In : A → Type 0
  In x = T (b x) × (T (a x) → ⊥)

  some-step : (x : A) (xs : List A) → Every (λ y. T (b y) → T (b x)) xs → (Some In xs → prefix_length a xs < prefix_length b xs)
      → (p : Bool) → a x ≡ p → In x ⊎ Some In xs → prefix_length a (x ∷ xs) < prefix_length b (x ∷ xs)
  some-step x xs hb rec true e (inl h) = absurd (h.1 (rw e tt))
  some-step x xs hb rec true e (inr s) =
      let h = rec s in
      rw (prefix-pass a x xs e, prefix-pass b x xs (test-true (sub x (rw e tt)))) (omega arith)
  some-step x xs hb rec false e (inl h) = rw (prefix-fail a x xs e, prefix-pass b x xs (test-true h.0)) (omega arith)
  some-step x xs hb rec false e (inr s) =
      rw (prefix-fail a x xs e, prefix-pass b x xs (test-true (hb s.value s.member s.has.0))) (omega arith)

  -- and there is one where some element passes b and not a
  pub part-some : (l : List A) → Falling b l → Some In l → prefix_length a l < prefix_length b l
  part-some [] o s = absurd (Memᴰ.not-nil s.member)
  part-some (x ∷ xs) o s = let q = ordered-uncons o in some-step x xs q.0 (part-some xs q.1) (a x) refl (some-uncons s)
