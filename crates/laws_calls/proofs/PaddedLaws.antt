-- Values that are stored from place 0 on, and zeros after them, are a padded list.
-- Assumes nothing.
use mathlib.Core.Path.{◌≡◌, refl, sym, ◌∙◌, ap}
use mathlib.Core.List.{List, ◌++◌}
use Prim.Native.Nat.{ℕ, ◌+◌, ◌-◌, ◌≤◌}
use native.Mathlib.Nat.{zero-add}
use native.Mathlib.Omega.{arith}
use borrow.Rule.Slice.PartMut.{put_mid}
use lib.ListN.{length, take, drop, replicate, length-append, length-take, length-drop, length-replicate}
use lib.Seq.{sets, sets-eq, take_all}
use Rattle.std.proofs.lemmas.Slice.{put_mid-paste}
use Rattle.theory_lists.proofs.ListsLaws.{sets-join}
use Rattle.spec_calls.specs.Buffers.{padded}

-- zeros from place f up to place t, as `fill` leaves them
pub zeros-stored : (l : List ℕ) {f t : ℕ} {m : List ℕ} → f ≤ t → t ≤ length l → m ≡ replicate (length (take (t - f) (drop f l))) 0
    → put_mid f (t - f) l m ≡ sets l f (replicate (t - f) 0)
zeros-stored l {f} {t} a b e =
    let zs : List ℕ = replicate (t - f) 0 in
    let k : length (take (t - f) (drop f l)) ≡ t - f = simp (length-take, length-drop) (omega arith) in
    let n : length zs ≡ t - f = length-replicate {A = ℕ} (t - f) 0 in
    put_mid-paste f (t - f) l _ zs (t - f) (e ∙ ap (λ i. replicate i 0) k) refl (sym n)
    ∙ ap (λ x. take f l ++ x ++ drop (f + (t - f)) l) (take_all (t - f) zs (omega arith))
    ∙ ap (λ i. take f l ++ zs ++ drop (f + i) l) (sym n)
    ∙ sym (sets-eq zs l f (omega arith))

-- used values from place 0 on, and zeros after them up to place n
pub padded-sets : (n : ℕ) (u l : List ℕ) → length u ≤ n → n ≤ length l
    → sets (sets l 0 u) (length u) (replicate (n - length u) 0) ≡ padded n u l
unfolding padded
padded-sets n u l h b =
    let zs : List ℕ = replicate (n - length u) 0 in
    let e : length (u ++ zs) ≡ n = length-append u zs ∙ omega (arith, length-replicate {A = ℕ} (n - length u) 0) in
    sets-join l 0 (length u) u zs (sym (zero-add (length u)))
    ∙ sets-eq (u ++ zs) l 0 (omega arith)
    ∙ ap (λ m. u ++ zs ++ drop m l) (zero-add (length (u ++ zs)) ∙ e)

-- as code stores them, one after the other
pub padded-stored : (n : ℕ) (u l : List ℕ) {l' l'' : List ℕ} {k : ℕ} → length u ≡ k → k ≤ n → n ≤ length l
    → l' ≡ sets l 0 u → l'' ≡ sets l' k (replicate (n - k) 0) → l'' ≡ padded n u l
padded-stored n u l {l'} e h b s z =
    z
    ∙ ap (λ j. sets l' j (replicate (n - j) 0)) (sym e)
    ∙ ap (λ x. sets x (length u) (replicate (n - length u) 0)) s
    ∙ padded-sets n u l (omega arith) b
