-- The stack of candidates: a loop that stores those that pass a test after the list that it reads.
-- Assumes nothing.
use mathlib.Core.Path.{◌≡◌, refl, sym, ◌∙◌, ap}
use mathlib.Core.Bool.{Bool}
use mathlib.Core.List.{List, ◌++◌}
use Prim.Native.Nat.{ℕ, ◌+◌, ◌-◌, ◌≤◌, ◌<◌}
use native.Mathlib.Nat.{add-zero, le_refl}
use native.Mathlib.Omega.{arith}
use lib.ListN.{length, get_or, length-append}
use lib.Seq.{sets}
use Rattle.theory_lists.specs.Lists.{filter, only, part}
use Rattle.theory_lists.proofs.ListsLaws.{sets-join, sets-length}
use Rattle.theory_lists.proofs.FilterLaws.{filter-snoc, filter-length}
use Rattle.theory_lists.proofs.PartLaws.{part_length, part_none, part-snoc}
use Rattle.theory_lists.proofs.StoredLaws.{get_or-before}
use Rattle.quadtree_cells.specs.Stack.{Pushed, Narrowing}

module _ {m : ℕ → Bool} {l : List ℕ} {f t : ℕ} (within : t ≤ length l) where
  -- before the first candidate
  pub narrowing-start : f ≤ t → Narrowing m l l f t f t
  unfolding filter
  narrowing-start h = record {
    low = le_refl f;
    high = h;
    stored = rw (part_none f l) refl;
    end = rw (part_none f l) (sym (add-zero t));
  }

  -- what is still to be read stands as before
  pub narrowing-read : {l' : List ℕ} {k top : ℕ} → Narrowing m l l' f t k top → k < t → get_or l' k 0 ≡ get_or l k 0
  narrowing-read {k = k} n h = ap (λ x. get_or x k 0) n.stored ∙ get_or-before l t (filter m (part f k l)) k h

  -- the stack is as long as before
  pub narrowing-length : {l' : List ℕ} {k top : ℕ} → Narrowing m l l' f t k top → length l' ≡ length l
  narrowing-length {k = k} n = sets-length l t (filter m (part f k l)) n.stored

  -- no more are stored than are read
  pub narrowing-room : {l' : List ℕ} {k top : ℕ} → Narrowing m l l' f t k top → top ≤ t + (k - f)
  narrowing-room {k = k} n =
      let h = filter-length m (part f k l) in
      let e = part_length f k l (omega (arith, n.high)) in
      omega (arith, n.end)

  -- one candidate more, of number w
  pub narrowing-next : {l' l'' : List ℕ} {k top top' w : ℕ} {b : Bool} → Narrowing m l l' f t k top → k < t
      → w ≡ get_or l' k 0 → b ≡ m w → Pushed b (get_or l' k 0) l' l'' top top' → Narrowing m l l'' f t (k + 1) top'
  narrowing-next {l'} {l''} {k} {top} {top'} {w} {b} n h ew eb p =
      let i = get_or l' k 0 in
      let e : filter m (part f (k + 1) l) ≡ filter m (part f k l) ++ only b i =
      ap (filter m) (part-snoc f k l n.low (omega arith))
      ∙ filter-snoc m (part f k l) (get_or l k 0)
      ∙ ap (λ x. filter m (part f k l) ++ only (m x) x) (sym (narrowing-read n h))
      ∙ ap (λ x. filter m (part f k l) ++ only x i) (ap m (sym ew) ∙ sym eb)
      in
      record {
        low = omega (arith, n.low);
        high = omega arith;
        stored =
            p.stored
            ∙ ap (λ x. sets x top (only b i)) n.stored
            ∙ sets-join l t top (filter m (part f k l)) (only b i) n.end
            ∙ ap (sets l t) (sym e);
        end = p.end ∙ ap (λ x. x + length (only b i)) n.end ∙ rw (e, length-append) (omega arith);
      }
