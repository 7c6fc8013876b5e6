-- Candidates on the stack: what is stored on top is ready, and what stands below is kept.
-- Assumes nothing.
use mathlib.Core.Path.{◌≡◌, sym, ◌∙◌, ap}
use mathlib.Core.List.{List}
use Prim.Native.Nat.{ℕ, ◌+◌, ◌-◌, ◌≤◌, ◌<◌}
use native.Mathlib.Omega.{arith}
use lib.ListN.{length, get_or, take, drop}
use lib.Seq.{sets, length-sets, get_or-drop, get_or-take}
use Rattle.theory_lists.proofs.StoredLaws.{get_or-kept, part-stored}
use Rattle.theory_lists.proofs.ListsLaws.{Every, get_or-member}
use Rattle.quadtree_cells.specs.Stack.{Fits, Ready}

-- the stack kept up to t keeps its lists
pub ready-kept : {n f t : ℕ} {table shape offsets l l' : List ℕ} → take t l' ≡ take t l → length l' ≡ length l
    → Ready n f t table shape offsets l → Ready n f t table shape offsets l'
ready-kept {t = t} {l = l} {l' = l'} e h r = record {
  order = r.order;
  within = rw h r.within;
  held = λ k a b. rw (get_or-kept k t l l' b e) (r.held k a b);
  tables = r.tables;
  shapes = r.shapes;
  offs = r.offs;
}

-- the numbers of the candidates are there
pub ready-fits : {n f t : ℕ} {table shape offsets l : List ℕ} → Ready n f t table shape offsets l → Fits f t shape offsets l
ready-fits r = record {
  order = r.order;
  within = r.within;
  shapes = λ k a b. let h = r.held k a b in omega (arith, r.shapes);
  offs = λ k a b. let h = r.held k a b in omega (arith, r.offs);
}

-- a list of triangle numbers that is stored on top is ready
pub ready-stored : {n f t : ℕ} {table shape offsets l : List ℕ} (v : List ℕ) → Ready n f t table shape offsets l
    → t + length v ≤ length l → Every (λ i. i < n) v → Ready n t (t + length v) table shape offsets (sets l t v)
ready-stored {n} {f} {t} {table} {shape} {offsets} {l} v r h below = record {
  order = omega arith;
  within = rw (length-sets l t v) h;
  held = λ k a b.
      let j : k - t < length v = omega arith in
      let p : t + (k - t) ≡ k = omega arith in
      let q : get_or (sets l t v) k 0 ≡ get_or v (k - t) 0 =
      sym (ap (λ x. get_or (sets l t v) x 0) p)
      ∙ sym (get_or-drop t (sets l t v) (k - t) 0)
      ∙ sym (get_or-take (length v) (drop t (sets l t v)) (k - t) 0 j)
      ∙ ap (λ x. get_or x (k - t) 0) (stored-part l v t h)
      in
      rw q (below (get_or v (k - t) 0) (get_or-member v (k - t) 0 j));
  tables = r.tables;
  shapes = r.shapes;
  offs = r.offs;
}
  where
    stored-part : (l v : List ℕ) (i : ℕ) → i + length v ≤ length l → take (length v) (drop i (sets l i v)) ≡ v
    stored-part l v i h = let e : i + length v - i ≡ length v = omega arith in ap (λ n. take n (drop i (sets l i v))) (sym e) ∙ part-stored l v i h
