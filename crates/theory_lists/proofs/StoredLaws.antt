-- Parts of a list that numbers are stored in: what is stored stands there, and what stands before it is kept.
-- Assumes nothing.
use mathlib.Core.Path.{◌≡◌, refl, sym, ◌∙◌, ap}
use mathlib.Core.List.{List, [], ◌∷◌, ◌++◌, append_assoc}
use Prim.Native.Nat.{ℕ, zero, suc, ◌+◌, ◌-◌, ◌≤◌, ◌<◌}
use native.Mathlib.Nat.{zero-add, suc-add}
use native.Mathlib.Omega.{arith}
use lib.ListN.{length, get_or, take, drop, set}
use lib.Seq.{sets, sets-eq, drop_at, take_at, take-set-le, take-take, take-nil, get_or-take, get_or-set_other, length-take-le}
use Rattle.theory_lists.specs.Lists.{part}

-- what stands before it is kept
pub take-before : (l : List ℕ) (i : ℕ) (v : List ℕ) (k : ℕ) → k ≤ i → take k (sets l i v) ≡ take k l
take-before l i [] k h = refl
take-before l i (x ∷ v) k h = take-before (set l i x) (suc i) v k (omega arith) ∙ take-set-le k l i x h

-- and so is each number before it
pub get_or-before : (l : List ℕ) (i : ℕ) (v : List ℕ) (k : ℕ) → k < i → get_or (sets l i v) k 0 ≡ get_or l k 0
get_or-before l i [] k h = refl
get_or-before l i (x ∷ v) k h =
    get_or-before (set l i x) (suc i) v k (omega arith) ∙ get_or-set_other l i k x 0 (λ e. absurd (omega arith))

-- what is kept up to t is kept up to any place before it
pub take_less : (k t : ℕ) (l l' : List ℕ) → k ≤ t → take t l' ≡ take t l → take k l' ≡ take k l
take_less k t l l' h e = sym (take-take k t l' h) ∙ ap (take k) e ∙ take-take k t l h

-- and so is each number there
pub get_or-kept : (k t : ℕ) (l l' : List ℕ) → k < t → take t l' ≡ take t l → get_or l' k 0 ≡ get_or l k 0
get_or-kept k t l l' h e = sym (get_or-take t l' k 0 h) ∙ ap (λ x. get_or x k 0) e ∙ get_or-take t l k 0 h

-- the part after f places of the first f + m
drop-take : (f m : ℕ) (x : List ℕ) → drop f (take (f + m) x) ≡ take m (drop f x)
drop-take zero m x = ap (λ n. take n x) (zero-add m)
drop-take (suc f) m [] = rw (suc-add f m) (sym (take-nil m))
drop-take (suc f) m (y ∷ ys) = rw (suc-add f m) (drop-take f m ys)

-- what is stored from i on stands there
pub part-stored : (l v : List ℕ) (i : ℕ) → i + length v ≤ length l → part i (i + length v) (sets l i v) ≡ v
part-stored l v i h =
    let e : i + length v - i ≡ length v = omega arith in
    let t : length (take i l) ≡ i = length-take-le i l (omega arith) in
    ap (λ x. take (i + length v - i) (drop i x)) (sets-eq v l i h)
    ∙ ap (λ n. take n (drop i (take i l ++ v ++ drop (i + length v) l))) e
    ∙ ap (λ x. take (length v) (drop i x)) (append_assoc (take i l) v (drop (i + length v) l))
    ∙ ap (take (length v)) (drop_at (take i l) (v ++ drop (i + length v) l) i t)
    ∙ take_at v (drop (i + length v) l) (length v) refl

-- and each part up to there
pub part-kept : (f t : ℕ) (l l' : List ℕ) → f ≤ t → take t l' ≡ take t l → part f t l' ≡ part f t l
part-kept f t l l' h e = part-take l' ∙ ap (drop f) e ∙ sym (part-take l)
  where
    part-take : (x : List ℕ) → part f t x ≡ drop f (take t x)
    part-take x =
        let p : t ≡ f + (t - f) = omega arith in
        sym (ap (λ n. drop f (take n x)) p ∙ drop-take f (t - f) x)

-- a list that is stored from place 0 on stands there
pub take-stored : (l v : List ℕ) (n : ℕ) → length v ≡ n → n ≤ length l → take n (sets l 0 v) ≡ v
take-stored l v n e h =
    let p : 0 + length v - 0 ≡ n = omega arith in
    sym (ap (λ m. take m (sets l 0 v)) p) ∙ part-stored l v 0 (omega arith)
