-- In a list of numbers in which each is below every later one, the first that passes a test is the lowest that passes it.
-- Assumes nothing.
use mathlib.Core.Path.{◌≡◌, refl, sym, ◌∙◌, ap}
use mathlib.Core.Bool.{Bool, true, false, true≢false}
use mathlib.Core.List.{List, ◌∷◌, Memᴰ}
use mathlib.Core.Option.{Option, none, some}
use Prim.Native.Nat.{ℕ, ◌≤◌, ◌<◌}
use native.Mathlib.Nat.{le_refl}
use native.Mathlib.Omega.{arith}
use Rattle.theory_lists.specs.Lists.{first}
use Rattle.theory_lists.proofs.ListsLaws.{Every, every-cons}
use Rattle.theory_lists.proofs.EveryLaws.{every-nil}
use Rattle.theory_lists.proofs.Order.{Ordered, ordered-none, ordered-more}

module _ (f : ℕ → Bool) where
  -- i is in the list and passes the test, and no lower number of the list passes it
  pub record LowestAt (l : List ℕ) (i : ℕ) : Type 0 where
    pub member : Memᴰ i l
    pub passes : f i ≡ true
    pub lowest : (j : ℕ) → Memᴰ j l → f j ≡ true → i ≤ j

  -- what is found is the lowest number of the list that passes the test; nothing is found only where none passes it
  pub data Lowest (l : List ℕ) : Option ℕ → Type 0 where
    found : {i : ℕ} → LowestAt l i → Lowest l (some i)
    nowhere : ((j : ℕ) → Memᴰ j l → f j ≡ false) → Lowest l none

  -- so a number found is the lowest
  pub lowest-found : {l : List ℕ} {i : ℕ} → Lowest l (some i) → LowestAt l i
  lowest-found (found a) = a

  -- and where nothing is found, none passes the test
  pub lowest-nowhere : {l : List ℕ} → Lowest l none → (j : ℕ) → Memᴰ j l → f j ≡ false
  lowest-nowhere (nowhere n) = n

  -- the lowest that passes is what is found
  pub lowest-is : {l : List ℕ} {o : Option ℕ} {i : ℕ} → Lowest l o → LowestAt l i → o ≡ some i
  lowest-is {i = i} (found {i = j} a) b =
      let l = a.lowest i b.member b.passes in
      let g = b.lowest j a.member a.passes in
      let e : j ≡ i = omega arith in
      ap some e
  lowest-is {i = i} (nowhere n) b = absurd (true≢false (sym b.passes ∙ n i b.member))

  -- and nothing is found where none passes
  pub lowest-none : {l : List ℕ} {o : Option ℕ} → Lowest l o → ((j : ℕ) → Memᴰ j l → f j ≡ false) → o ≡ none
  lowest-none (found {i = j} a) n = absurd (true≢false (sym a.passes ∙ n j a.member))
  lowest-none (nowhere h) n = refl

  -- a number in front that passes is the lowest
  lowest-pass : {x : ℕ} {xs : List ℕ} → Every (λ y. x < y) xs → f x ≡ true → Lowest (x ∷ xs) (some x)
  lowest-pass {x} r e = found (record {
    member = Memᴰ.head refl;
    passes = e;
    lowest = every-cons (λ h. le_refl x, λ j m h. let g = r j m in omega arith);
  })

  -- one that does not is passed over
  lowest-fail : {x : ℕ} {xs : List ℕ} {o : Option ℕ} → f x ≡ false → Lowest xs o → Lowest (x ∷ xs) o
  lowest-fail {x} e (found a) = found (record {
    member = Memᴰ.tail a.member;
    passes = a.passes;
    lowest = every-cons (λ h. absurd (true≢false (sym h ∙ e)), a.lowest);
  })
  lowest-fail e (nowhere n) = nowhere (every-cons (e, n))

  -- the first that passes is the lowest
  pub first-lowest : {l : List ℕ} → Ordered (λ i j. i < j) l → Lowest l (first f l)
  unfolding first
  first-lowest ordered-none = nowhere (every-nil (λ j. f j ≡ false))
  first-lowest (ordered-more {x = x} {xs = xs} r o) = go (f x) refl (first-lowest o)
    where
      go : (b : Bool) → f x ≡ b → Lowest xs (first f xs) → Lowest (x ∷ xs) (elim b [ true ↦ some x | false ↦ first f xs ])
      go true e h = lowest-pass r e
      go false e h = lowest-fail e h
