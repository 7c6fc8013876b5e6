-- Keys of entries, and cells by their keys alone, as they are counted from left to right.
-- Assumes nothing.
use mathlib.Core.Path.{◌≡◌, refl, sym, ◌∙◌, ap}
use mathlib.Core.Bool.{Bool, true, false, cond}
use mathlib.Core.List.{List, [], ◌∷◌, map}
use Prim.Native.Nat.{ℕ, zero, suc, ◌+◌, ◌-◌, ◌≤◌, ◌<◌}
use native.Mathlib.Omega.{arith}
use lib.Dec.{eqb}
use lib.ListN.{length, get_or, take, drop, length-take, length-drop, length-map}
use lib.Seq.{get_or-take, get_or-drop}
use Rattle.theory_lists.proofs.Reflects.{reflects-eqb, reflects-ltb, reflects-true, reflects-false}
use Rattle.theory_lists.proofs.PartLaws.{part-map}
use Rattle.theory_orthtree.specs.Entries.{Entry}
use Rattle.theory_orthtree.proofs.EntriesLaws.{no_entry}
use Rattle.theory_orthtree.specs.KeyCells.{changes_after, key_cells, key_from}
use Rattle.theory_orthtree.proofs.PlaceLaws.{map_at}

-- the key at a place before n
pub from_key : (ks : List ℕ) (n end i : ℕ) → i < n → key_from ks n end i ≡ get_or ks i 0
unfolding key_from
from_key ks n end i h = rw (reflects-true (reflects-ltb i n) h)

-- the end of all keys at n and after it
pub from_end : (ks : List ℕ) (n end i : ℕ) → n ≤ i → key_from ks n end i ≡ end
unfolding key_from
from_end ks n end i h = rw (reflects-false (reflects-ltb i n) (λ l. omega arith))

-- the first n of the keys are those of the entries
pub record KeysOf (ks : List ℕ) (n : ℕ) (es : List Entry) : Type 0 where
  pub count : n ≡ length es
  pub keys : take n ks ≡ map (λ e. e.key) es

-- so the key at a place is that of the entry there
pub keys-at : {ks : List ℕ} {n : ℕ} {es : List Entry} → KeysOf ks n es → (d : Entry) (i : ℕ) → i < n → get_or ks i 0 ≡ (get_or es i d).key
keys-at {ks} {n} {es} k d i h =
    sym (get_or-take n ks i 0 h) ∙ ap (λ l. get_or l i 0) k.keys ∙ map_at (λ e. e.key) es i d 0 (omega (arith, k.count))

-- and a part of the keys is that part of the entries' keys
pub keys-part : {ks : List ℕ} {n : ℕ} {es : List Entry} → KeysOf ks n es → (f t : ℕ) → f ≤ t → t ≤ length es
    → take (t - f) (drop f ks) ≡ map (λ e. e.key) (take (t - f) (drop f es))
keys-part {ks} {n} {es} k f t h w =
    let m = sym (length-take n ks) ∙ ap length k.keys ∙ length-map es (λ e. e.key) in
    part-map (λ e. e.key) es ks no_entry f t h w (omega (arith, k.count)) (λ i l. sym (keys-at k no_entry i (omega (arith, k.count))))

-- the same key again, and another key
pub changes-same : (k l : ℕ) (ls : List ℕ) → k ≡ l → changes_after k (l ∷ ls) ≡ changes_after l ls
unfolding changes_after
changes-same k l ls h = rw (changes_after, reflects-true (reflects-eqb k l) h)

pub changes-other : (k l : ℕ) (ls : List ℕ) → (k ≡ l → ⊥) → changes_after k (l ∷ ls) ≡ suc (changes_after l ls)
unfolding changes_after
changes-other k l ls h = rw (changes_after, reflects-false (reflects-eqb k l) h)

first-choice : (b : Bool) → cond b 0 1 ≡ 0 + cond b 0 1
first-choice true = refl
first-choice false = refl

more-choice : (b : Bool) {c : ℕ} (d z : ℕ) → c ≡ d + z → cond b c (suc c) ≡ cond b d (suc d) + z
more-choice true d z h = h
more-choice false d z h = omega arith

changes-next : (k : ℕ) (l : List ℕ) (j : ℕ) → j < length l
    → changes_after k (take (suc j) l) ≡ changes_after k (take j l) + cond (eqb (get_or (k ∷ l) j 0) (get_or l j 0)) 0 1
unfolding changes_after
changes-next k [] j h = absurd (omega arith)
changes-next k (x ∷ xs) zero h = first-choice (eqb k x)
changes-next k (x ∷ xs) (suc j) h =
    more-choice (eqb k x) (changes_after x (take j xs)) (cond (eqb (get_or (x ∷ xs) j 0) (get_or xs j 0)) 0 1) (changes-next x xs j (omega arith))

list-next : (l : List ℕ) (j : ℕ) → suc j < length l
    → key_cells (take (suc (suc j)) l) ≡ key_cells (take (suc j) l) + cond (eqb (get_or l j 0) (get_or l (suc j) 0)) 0 1
unfolding key_cells
list-next [] j h = absurd (omega arith)
list-next (x ∷ xs) j h = let c = changes-next x xs j (omega arith) in omega arith

list-first : (l : List ℕ) → 0 < length l → key_cells (take 1 l) ≡ 1
unfolding key_cells changes_after
list-first [] h = absurd (omega arith)
list-first (x ∷ xs) h = refl

-- a part of one key has one cell
pub key_cells-one : (ks : List ℕ) (a : ℕ) → a < length ks → key_cells (take (suc a - a) (drop a ks)) ≡ 1
key_cells-one ks a h =
    let e : suc a - a ≡ 1 = omega arith in
    rw e (list-first (drop a ks) (rw length-drop (omega arith)))

-- with the next key there is one more, if it differs from the one before it
pub key_cells-grow : (ks : List ℕ) (a r : ℕ) → a ≤ r → suc r < length ks
    → key_cells (take (suc (suc r) - a) (drop a ks)) ≡ key_cells (take (suc r - a) (drop a ks)) + cond (eqb (get_or ks r 0) (get_or ks (suc r) 0)) 0 1
key_cells-grow ks a r h l =
    let p : suc (suc r) - a ≡ suc (suc (r - a)) = omega arith in
    let q : suc r - a ≡ suc (r - a) = omega arith in
    let i : a + (r - a) ≡ r = omega arith in
    let j : a + suc (r - a) ≡ suc r = omega arith in
    let s = get_or-drop a ks (r - a) 0 ∙ ap (λ n. get_or ks n 0) i in
    let t = get_or-drop a ks (suc (r - a)) 0 ∙ ap (λ n. get_or ks n 0) j in
    rw (p, q, ← s, ← t) (list-next (drop a ks) (r - a) (rw length-drop (omega arith)))
