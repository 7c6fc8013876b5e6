-- Keys passed from left to right: to the end of a cell, and to the end of a run with its cells counted.
-- Assumes nothing.
use mathlib.Core.Path.{◌≡◌, refl, sym, ◌∙◌, ap, ap₂, subst}
use mathlib.Core.Bool.{Bool, true, false, not, cond}
use mathlib.Core.List.{List, [], ◌∷◌}
use Prim.Native.Nat.{ℕ, zero, suc, ◌+◌, ◌-◌, ◌≤◌, ◌<◌}
use native.Mathlib.Decide.{ℕ_discrete}
use native.Mathlib.Omega.{arith}
use mir.Val.{bool_byte}
use borrow.Author.Tests.{eq-eqb}
use lib.Dec.{eqb}
use lib.ListN.{length, get_or, take, drop}
use Rattle.theory_orthtree.specs.KeyCells.{CellEnd, changes_after, key_cells}
use Rattle.theory_orthtree.proofs.KeyCellsLaws.{changes-same, changes-other, key_cells-one, key_cells-grow}
use Rattle.overlay_merge.specs.Runs.{RunOf}

-- the keys from a up to r are those of one cell
pub record CellPassed (ks : List ℕ) (n a key r : ℕ) : Type 0 where
  pub after : a < r
  pub within : r ≤ n
  pub known : key ≡ get_or ks a 0
  pub same : (i : ℕ) → a ≤ i → i < r → get_or ks i 0 ≡ get_or ks a 0

module _ (ks : List ℕ) (n a : ℕ) where
  pub cell-start : a < n → CellPassed ks n a (get_or ks a 0) (a + 1)
  cell-start h = record {
    after = omega arith;
    within = omega arith;
    known = refl;
    same = λ i l g. let e : i ≡ a = omega arith in ap (λ k. get_or ks k 0) e;
  }

  module _ {key r : ℕ} (p : CellPassed ks n a key r) where
    -- the same key again
    pub cell-more : r < n → get_or ks r 0 ≡ key → CellPassed ks n a key (r + 1)
    cell-more h e = record {
      after = omega (arith, p.after);
      within = omega arith;
      known = p.known;
      same = λ i l g. elim (ℕ_discrete i r) [
        | yes q ↦ ap (λ k. get_or ks k 0) q ∙ e ∙ p.known
        | no q ↦ p.same i l (omega arith)
      ];
    }

    -- another key
    pub cell-met : (get_or ks r 0 ≡ key → ⊥) → CellEnd ks n a r
    cell-met h = record { after = p.after; within = p.within; same = p.same; other = λ l e. h (e ∙ sym p.known) }

    -- no key any more
    pub cell-over : n ≤ r → CellEnd ks n a n
    cell-over h =
        let e : r ≡ n = omega (arith, p.within) in
        subst (CellEnd ks n a) e (record { after = p.after; within = p.within; same = p.same; other = λ l. absurd (omega arith) })

changes-few : (k : ℕ) (ls : List ℕ) → changes_after k ls ≤ length ls
unfolding changes_after
changes-few k [] = omega arith
changes-few k (l ∷ ls) =
    let h = changes-few l ls in
    elim (ℕ_discrete k l) [
      | yes e ↦ let s = changes-same k l ls e in omega arith
      | no n ↦ let s = changes-other k l ls n in omega arith
    ]

-- there are no more blocks than keys
pub key_cells-few : (ks : List ℕ) → key_cells ks ≤ length ks
unfolding key_cells
key_cells-few [] = omega arith
key_cells-few (k ∷ ks) = let h = changes-few k ks in omega arith

-- a key changes once or not
pub change-few : (k l : ℕ) → cond (eqb k l) 0 1 ≤ 1
change-few k l = few (eqb k l)
  where
    few : (b : Bool) → cond b 0 1 ≤ 1
    few true = omega arith
    few false = omega arith

-- a key that is not the one before it counts as one
pub change-counted : (b : Bool) → bool_byte (not b) ≡ cond b 0 1
change-counted true = refl
change-counted false = refl

-- the keys of one cell
cell-keys : (ks : List ℕ) (a j : ℕ) → a + j < length ks → ((i : ℕ) → a ≤ i → i ≤ a + j → get_or ks i 0 ≡ get_or ks a 0) → key_cells (take (suc (a + j) - a) (drop a ks)) ≡ 1
cell-keys ks a zero h same = ap (λ k. key_cells (take (suc k - a) (drop a ks))) (omega arith) ∙ key_cells-one ks a (omega arith)
cell-keys ks a (suc j) h same =
    let e : get_or ks (a + j) 0 ≡ get_or ks (suc (a + j)) 0 = same (a + j) (omega arith) (omega arith) ∙ sym (same (suc (a + j)) (omega arith) (omega arith)) in
    ap (λ k. key_cells (take (suc k - a) (drop a ks))) (omega arith)
    ∙ key_cells-grow ks a (a + j) (omega arith) (omega arith)
    ∙ ap₂ (λ m b. m + cond b 0 1) (cell-keys ks a j (omega arith) (λ i l g. same i l (omega arith))) (eq-eqb (get_or ks (a + j) 0) (get_or ks (suc (a + j)) 0) e)

-- are those of one cell
pub cell-one : (ks : List ℕ) (n : ℕ) → n ≤ length ks → {a p : ℕ} → CellEnd ks n a p → key_cells (take (p - a) (drop a ks)) ≡ 1
cell-one ks n w {a} {p} c =
    let e : suc (a + (p - a - 1)) ≡ p = omega (arith, c.after) in
    rw e at (cell-keys ks a (p - a - 1) (omega (arith, c.after, c.within)) (λ i l g. c.same i l (omega (arith, c.after))))

-- the keys from p up to r are below the end, and with the cell before them they have so many cells
pub record RunPassed (ks : List ℕ) (n p end r cells : ℕ) : Type 0 where
  pub from : p ≤ r
  pub within : r ≤ n
  pub below : (i : ℕ) → p ≤ i → i < r → get_or ks i 0 < end
  pub few : cells + p ≤ r + 1
  pub count : (a : ℕ) → CellEnd ks n a p → cells ≡ key_cells (take (r - a) (drop a ks))

module _ (ks : List ℕ) (n p end : ℕ) where
  pub run-start : p ≤ n → n ≤ length ks → RunPassed ks n p end p 1
  run-start h w = record {
    from = omega arith;
    within = h;
    below = λ i l g. absurd (omega arith);
    few = omega arith;
    count = λ a c. sym (cell-one ks n w c);
  }

  module _ {r cells : ℕ} (g : RunPassed ks n p end r cells) where
    -- one more key
    pub run_more : r < n → n ≤ length ks → get_or ks r 0 < end → {c : ℕ} → c ≡ cond (eqb (get_or ks (r - 1) 0) (get_or ks r 0)) 0 1
        → RunPassed ks n p end (r + 1) (cells + c)
    run_more h w l {c} e = record {
      from = omega (arith, g.from);
      within = omega arith;
      below = λ i s t. elim (ℕ_discrete i r) [
        | yes q ↦ omega (arith, ap (λ k. get_or ks k 0) q)
        | no q ↦ g.below i s (omega arith)
      ];
      few = omega (arith, g.few, change-few (get_or ks (r - 1) 0) (get_or ks r 0));
      count = λ a cell. omega (arith, g.count a cell, grown a (omega (arith, cell.after, g.from)));
    }
      where
        grown : (a : ℕ) → a < r → key_cells (take (r + 1 - a) (drop a ks)) ≡ key_cells (take (r - a) (drop a ks)) + cond (eqb (get_or ks (r - 1) 0) (get_or ks r 0)) 0 1
        grown a s =
            let back : suc (r - 1) ≡ r = omega arith in
            ap (λ k. key_cells (take (k - a) (drop a ks))) (omega arith)
            ∙ key_cells-grow ks a (r - 1) (omega arith) (omega arith)
            ∙ ap (λ k. key_cells (take (k - a) (drop a ks)) + cond (eqb (get_or ks (r - 1) 0) (get_or ks k 0)) 0 1) back

    -- the end is reached
    pub run-met : (r < n → end ≤ get_or ks r 0) → RunOf ks n p end r cells
    run-met h = record {
      ends = record { from = g.from; within = g.within; below = g.below; reached = h };
      few = g.few;
      count = g.count;
    }

    -- there is no key any more
    pub run-over : n ≤ r → RunOf ks n p end n cells
    run-over h =
        let e : r ≡ n = omega (arith, g.within) in subst (λ r. RunOf ks n p end r cells) e (run-met (λ l. absurd (omega arith)))
