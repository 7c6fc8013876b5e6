-- What a block of two lists adds to what is listed together, and to the meetings.
-- The idea: before the block both lists are cut at its first key, and in it each entry of the one overlaps each of the other.
-- Assumes nothing.
use mathlib.Core.Path.{◌≡◌, sym, ◌∙◌, ap, ap₂}
use mathlib.Core.Bool.{◌&&◌, ◌||◌}
use mathlib.Core.List.{List, ◌++◌}
use Prim.Native.Nat.{ℕ, ◌+◌, ◌*◌, ◌-◌, ◌≤◌, ◌<◌}
use native.Mathlib.Omega.{arith}
use lib.Dec.{T, eqb}
use lib.ListN.{take, drop}
use Rattle.theory_lists.specs.Lists.{any}
use Rattle.theory_lists.proofs.ListsLaws.{Every}
use Rattle.theory_orthtree.specs.Entries.{Entry, meetings, listed_together, chain}
use Rattle.theory_orthtree.specs.KeyCells.{key_cells}
use Rattle.theory_orthtree.proofs.PlaceLaws.{take-member, take_part}
use Rattle.theory_orthtree.proofs.KeyCellsLaws.{KeysOf, keys-part}
use Rattle.theory_orthtree.proofs.JoinedLaws.{together-joined, meetings-joined}
use Rattle.theory_orthtree.proofs.WholeLaws.{together-whole, meetings-whole}
use Rattle.theory_orthtree.proofs.HeadsByKeys.{heads-by-keys}
use Rattle.theory_orthtree.proofs.CutLaws.{Cut}
use Rattle.theory_orthtree.proofs.NextBlock.{Block}

module _ (arity depth : ℕ) (pos : 0 < arity) (es fs : List Entry) {k e a b a' b' : ℕ}
    (u : Cut arity depth k a es) (v : Cut arity depth k b fs) (block : Block arity depth e a b a' b' es fs) where
  -- the entries of the block
  abbrev gs : List Entry
  gs = take (a' - a) (drop a es)

  abbrev hs : List Entry
  hs = take (b' - b) (drop b fs)

  first-split : take a' es ≡ take a es ++ gs
  first-split = take_part a a' es (omega (arith, block.first_grows))

  second-split : take b' fs ≡ take b fs ++ hs
  second-split = take_part b b' fs (omega (arith, block.second_grows))

  first-later : Every (λ g. k ≤ g.key) gs
  first-later g m = u.later g (take-member (a' - a) (drop a es) m)

  second-later : Every (λ h. k ≤ h.key) hs
  second-later h m = v.later h (take-member (b' - b) (drop b fs) m)

  -- what is listed together up to the end of the block: what was before it, and any two items that the block lists
  pub block-together : (i j : ℕ) → listed_together arity depth (take a' es) (take b' fs) i j
      ≡ listed_together arity depth (take a es) (take b fs) i j
      || any (λ g. eqb g.item i) (take (a' - a) (drop a es)) && any (λ h. eqb h.item j) (take (b' - b) (drop b fs))
  block-together i j =
      ap₂ (λ x y. listed_together arity depth x y i j) first-split second-split
      ∙ together-joined arity depth pos k u.ended v.ended first-later second-later i j
      ∙ ap (λ t. listed_together arity depth (take a es) (take b fs) i j || t) (together-whole arity depth pos block.whole i j)

  -- the meetings up to the end of the block: those before it, and any two of its cells
  pub block-meetings : (c d : ℕ) → T (chain arity depth c es) → T (chain arity depth d fs) → {ks ls : List ℕ} {n m : ℕ}
      → KeysOf ks n es → KeysOf ls m fs → meetings arity depth (take a' es) (take b' fs)
      ≡ meetings arity depth (take a es) (take b fs) + key_cells (take (a' - a) (drop a ks)) * key_cells (take (b' - b) (drop b ls))
  block-meetings c d rule rule₂ {ks} {ls} x y =
      let p = heads-by-keys arity depth c pos es rule a a' ∙ ap key_cells (sym (keys-part x a a' (omega (arith, block.first_grows)) block.first.within)) in
      let q = heads-by-keys arity depth d pos fs rule₂ b b' ∙ ap key_cells (sym (keys-part y b b' (omega (arith, block.second_grows)) block.second.within)) in
      ap₂ (λ s t. meetings arity depth s t) first-split second-split
      ∙ meetings-joined arity depth pos k u.ended v.ended first-later second-later
      ∙ ap (λ t. meetings arity depth (take a es) (take b fs) + t) (meetings-whole arity depth pos block.whole ∙ ap₂ ◌*◌ p q)
