-- The loop that stores the images of a list's elements into another list: what is stored grows at its end.
-- Assumes nothing.
use mathlib.Core.Path.{◌≡◌, refl, sym, ◌∙◌, ap}
use mathlib.Core.List.{List, [], ◌∷◌, ◌++◌, map, map-append}
use Prim.Native.Nat.{ℕ, ◌+◌, ◌≤◌, ◌<◌}
use native.Mathlib.Numerals.{add-one}
use native.Mathlib.Omega.{arith}
use lib.ListN.{length, get_or, take, set, length-map, length-set}
use lib.Seq.{sets, length-take-le, take-suc}
use Rattle.theory_lists.proofs.ListsLaws.{sets-join}

-- the images of the first i elements of es, of the first n, are stored from place a on
pub record Copying (g : ℕ → ℕ) (es l l' : List ℕ) (a i n : ℕ) : Type 0 where
  pub high : i ≤ n
  pub stored : l' ≡ sets l a (map g (take i es))
  pub kept : length l' ≡ length l

-- before the first image
pub copying-start : (g : ℕ → ℕ) (es l : List ℕ) (a n : ℕ) → Copying g es l l a 0 n
copying-start g es l a n = record { high = omega arith; stored = refl; kept = refl }

-- one image more, at the next place k
pub copying-next : {g : ℕ → ℕ} {es l l' : List ℕ} {a i n : ℕ} → Copying g es l l' a i n → i < n → n ≤ length es
    → {k x : ℕ} → k ≡ a + i → x ≡ g (get_or es i 0) → Copying g es l (set l' k x) a (i + 1) n
copying-next {g} {es} {l} {l'} {a} {i} {n} c h b {k} {x} p e =
    let u = map g (take i es) in
    let j : k ≡ a + length u = p ∙ ap (λ m. a + m) (sym (length-map (take i es) g ∙ length-take-le i es (omega arith))) in
    record {
      high = omega arith;
      stored =
          ap (λ y. set y k x) c.stored
          ∙ sets-join l a k u (x ∷ []) j
          ∙ ap (λ y. sets l a (u ++ (y ∷ []))) e
          ∙ ap (sets l a) (sym (map-append g (take i es) (get_or es i 0 ∷ [])))
          ∙ ap (λ y. sets l a (map g y)) (sym (take-suc es i 0 (omega arith)) ∙ ap (λ m. take m es) (sym (add-one i)));
      kept = length-set l' k x ∙ c.kept;
    }

-- after the last
pub copying-end : {g : ℕ → ℕ} {es l l' : List ℕ} {a i n : ℕ} → Copying g es l l' a i n → n ≤ i → l' ≡ sets l a (map g (take n es))
copying-end {g} {es} {l} {a = a} {i = i} {n = n} c h =
    let e : i ≡ n = omega (arith, c.high) in c.stored ∙ ap (λ m. sets l a (map g (take m es))) e

-- there are as many images as elements
pub images-count : (g : ℕ → ℕ) (es : List ℕ) (n : ℕ) → n ≤ length es → length (map g (take n es)) ≡ n
images-count g es n h = length-map (take n es) g ∙ length-take-le n es h
