-- Decimal digits, and bytes written one after the other.
-- Assumes nothing.
use mathlib.Core.Path.{◌≡◌, refl, sym, ◌∙◌, ap, ap₂, subst}
use mathlib.Core.Bool.{Bool, true, false}
use mathlib.Core.List.{List, [], ◌∷◌, ◌++◌, append-nil, flat_map}
use Prim.Native.Nat.{ℕ, zero, suc, ◌+◌, ◌-◌, ◌*◌, ◌/◌, ◌%◌, ◌^◌, ◌≤◌, ◌<◌}
use native.Mathlib.Nat.{pow-suc}
use native.Mathlib.Numerals.{add-one}
use native.Mathlib.Omega.{arith}
use borrow.Rule.Slice.PartMut.{put_mid}
use borrow.Author.Tests.{lt-ltb, le-ltb, ltb-true, ltb-false}
use lib.Dec.{ltb}
use lib.ListN.{length, get_or, take, drop, set, length-set, length-append, take-append-drop, get_or-append}
use lib.Seq.{sets, length-sets, take-suc, take_all, take-length}
use Rattle.std.specs.Fmt.{decimal as Fmt·decimal}
use Rattle.std.proofs.lemmas.Fmt.{decimal_by_steps}
use Rattle.std.proofs.lemmas.List.Edits.{sets-eq}
use Rattle.std.proofs.lemmas.Slice.{put_mid-paste}
use Rattle.theory_lists.proofs.ListsLaws.{Every, every-uncons, get_or-stride, sets-join}
use Rattle.theory_lists.proofs.FlatMapLaws.{flat_map-append, flat_map-length}
use Rattle.spec_charts.specs.Overlay.{Pair, pair, pair_numbers}
use Rattle.spec_log.specs.Log.{digits, decimal, spaced, line, heading, bad_line}
use Rattle.log_lines.specs.Bytes.{Wrote, pair_lines, pair_bytes}

-- ---- digits

digits-one : (m n : ℕ) → n < 10 → digits m n ≡ (48 + n) ∷ []
unfolding digits
digits-one zero n h = ap (λ k. (48 + k) ∷ []) (omega arith)
digits-one (suc m) n h = rw (lt-ltb n 10 h, digits)

digits_more : (m n : ℕ) → 10 ≤ n → digits (suc m) n ≡ digits m (n / 10) ++ ((48 + n % 10) ∷ [])
unfolding digits
digits_more m n h = rw (le-ltb n 10 h, digits)

-- fuel does not matter, where there is enough
digits-fuel : (k m n : ℕ) → n ≤ k → n ≤ m → digits k n ≡ digits m n
digits-fuel zero m n h l = digits-one zero n (omega arith) ∙ sym (digits-one m n (omega arith))
digits-fuel (suc k) zero n h l = digits-one (suc k) n (omega arith) ∙ sym (digits-one zero n (omega arith))
digits-fuel (suc k) (suc m) n h l = go (digits-fuel k m (n / 10)) (ltb n 10) refl
  where
    go : (n / 10 ≤ k → n / 10 ≤ m → digits k (n / 10) ≡ digits m (n / 10)) → (b : Bool) → ltb n 10 ≡ b → digits (suc k) n ≡ digits (suc m) n
    go same true e = digits-one (suc k) n (ltb-true n 10 e) ∙ sym (digits-one (suc m) n (ltb-true n 10 e))
    go same false e =
        let g = ltb-false n 10 e in
        digits_more k n g ∙ ap (λ d. d ++ ((48 + n % 10) ∷ [])) (same (omega arith) (omega arith)) ∙ sym (digits_more m n g)

pub decimal-one : (n : ℕ) → n < 10 → decimal n ≡ (48 + n) ∷ []
unfolding decimal
decimal-one n h = digits-one n n h

pub decimal-more : (n : ℕ) → 10 ≤ n → decimal n ≡ decimal (n / 10) ++ ((48 + n % 10) ∷ [])
unfolding decimal
decimal-more zero h = absurd (omega arith)
decimal-more (suc n) h =
    digits_more n (suc n) h
    ∙ ap (λ d. d ++ ((48 + suc n % 10) ∷ [])) (digits-fuel n (suc n / 10) (suc n / 10) (omega arith) (omega arith))

-- std's text of a number is these digits
decimal-same : (n : ℕ) → n < 2 ^ 64 → Fmt·decimal n ≡ decimal n
decimal-same n h =
    decimal_by_steps (λ n ds. ds ≡ decimal n) (λ n l. sym (decimal-one n l))
    (λ n ds l e. ap (λ d. d ++ ((48 + n % 10) ∷ [])) e ∙ sym (decimal-more n l)) n h

-- so its bytes are too
pub text-decimal : {n : ℕ} {text bytes : List ℕ} → n < 2 ^ 64 → text ≡ Fmt·decimal n → bytes ≡ text → bytes ≡ decimal n
text-decimal {n} h e f = f ∙ e ∙ decimal-same n h

-- below 10 ^ k there are at most k digits
pub decimal-short : (k n : ℕ) → n < 10 ^ suc k → length (decimal n) ≤ suc k
decimal-short zero n h = rw (decimal-one n (omega arith)) (omega arith)
decimal-short (suc k) n h = go (decimal-short k (n / 10)) (ltb n 10) refl
  where
    go : (n / 10 < 10 ^ suc k → length (decimal (n / 10)) ≤ suc k) → (b : Bool) → ltb n 10 ≡ b → length (decimal n) ≤ suc (suc k)
    go shorter true e = rw (decimal-one n (ltb-true n 10 e)) (omega arith)
    go shorter false e =
        let l = shorter (omega (arith, pow-suc 10 (suc k))) in
        rw (decimal-more n (ltb-false n 10 e)) (omega (arith, length-append (decimal (n / 10)) ((48 + n % 10) ∷ [])))

-- ---- bytes

pub wrote_none : (at : ℕ) (l : List ℕ) → at ≤ length l → Wrote [] at at l l
wrote_none at l h = record { end = omega arith; stored = refl; room = h }

-- one byte
pub wrote-set : (l : List ℕ) (i b : ℕ) → i < length l → Wrote (b ∷ []) i (i + 1) l (set l i b)
wrote-set l i b h = record { end = omega arith; stored = refl; room = omega (arith, length-set l i b) }

pub wrote-join : {u v : List ℕ} {a b c : ℕ} {l m n : List ℕ} → Wrote u a b l m → Wrote v b c m n → Wrote (u ++ v) a c l n
wrote-join {u} {v} {a} {b} {c} {l} {m} {n} f g = record {
  end = let e = f.end in let h = g.end in omega (arith, length-append u v);
  stored = g.stored ∙ ap (λ x. sets x b v) f.stored ∙ sets-join l a b u v f.end;
  room = g.room;
}

-- the same bytes, said otherwise
pub wrote_as : {u v : List ℕ} {a b : ℕ} {l m : List ℕ} → u ≡ v → Wrote u a b l m → Wrote v a b l m
wrote_as {u} {v} {a} {b} {l} {m} e w = subst (λ x. Wrote x a b l m) e w

pub wrote-length : {u : List ℕ} {a b : ℕ} {l m : List ℕ} → Wrote u a b l m → length m ≡ length l
wrote-length {u} {a} {b} {l} f = ap length f.stored ∙ length-sets l a u

-- the bytes of a list, copied
pub wrote-copied : (l u ys : List ℕ) (a : ℕ) → a + length u ≤ length l → ys ≡ u → Wrote u a (a + length u) l (put_mid a (a + length u - a) l ys)
wrote-copied l u ys a h e =
    let k : length u ≡ a + length u - a = omega arith in
    let stored : put_mid a (a + length u - a) l ys ≡ sets l a u =
    put_mid-paste a (a + length u - a) l ys u (length u) e k refl
    ∙ ap (λ v. take a l ++ v ++ drop (a + length u) l) (take-length u)
    ∙ sym (sets-eq u l a h) in
    record { end = refl; stored = stored; room = omega (arith, ap length stored, length-sets l a u) }

-- ---- bytes of a list

-- the first k + 1 bytes are the first k and one more
pub bytes-step : (l : List ℕ) (k : ℕ) → k < length l → {a b c : ℕ} {o p q : List ℕ} → Wrote (take k l) a b o p
    → Wrote (get_or l k 0 ∷ []) b c p q → Wrote (take (k + 1) l) a c o q
bytes-step l k h v w = wrote_as (sym (ap (λ j. take j l) (add-one k) ∙ take-suc l k 0 h)) (wrote-join v w)

pub bytes-all : (l : List ℕ) (k : ℕ) → length l ≤ k → {a b : ℕ} {o p : List ℕ} → Wrote (take k l) a b o p → Wrote l a b o p
bytes-all l k h w = wrote_as (take_all k l h) w

-- ---- a line

-- the numbers after the first, one more of them
spaced-more : (l : List ℕ) (k : ℕ) → k < length l → spaced (take (suc k) l) ≡ spaced (take k l) ++ (32 ∷ decimal (get_or l k 0))
unfolding spaced flat_map
spaced-more l k h =
    ap (flat_map (λ n. 32 ∷ decimal n)) (take-suc l k 0 h)
    ∙ flat_map-append (λ n. 32 ∷ decimal n) (take k l) (get_or l k 0 ∷ [])
    ∙ ap (λ u. flat_map (λ n. 32 ∷ decimal n) (take k l) ++ u) (append-nil (32 ∷ decimal (get_or l k 0)))

pub spaced-step : (l : List ℕ) (k : ℕ) → k < length l → {a b c d : ℕ} {o p q r : List ℕ} → Wrote (spaced (take k l)) a b o p
    → Wrote (32 ∷ []) b c p q → Wrote (decimal (get_or l k 0)) c d q r → Wrote (spaced (take (k + 1) l)) a d o r
spaced-step l k h v w x = wrote_as (sym (ap (λ j. spaced (take j l)) (add-one k) ∙ spaced-more l k h)) (wrote-join v (wrote-join w x))

pub spaced-none : (l : List ℕ) (a : ℕ) (o : List ℕ) → a ≤ length o → Wrote (spaced (take 0 l)) a a o o
unfolding spaced flat_map
spaced-none l a o h = wrote_none a o h

-- some numbers take as much room as all of them, or less
spaced-part : (l : List ℕ) (k : ℕ) → length (spaced (take k l)) ≤ length (spaced l)
unfolding spaced
spaced-part l k =
    let f : ℕ → List ℕ = λ n. 32 ∷ decimal n in
    let e = ap length (flat_map-append f (take k l) (drop k l)) ∙ length-append (flat_map f (take k l)) (flat_map f (drop k l)) in
    let g = ap (λ m. length (flat_map f m)) (take-append-drop k l) in
    omega (arith, e, g)

-- there is room for one more
pub spaced-room : (l : List ℕ) (k : ℕ) → k < length l → {a b : ℕ} {o p : List ℕ} → Wrote (spaced (take k l)) a b o p
    → a + length (spaced l) ≤ length o → b + 1 + length (decimal (get_or l k 0)) ≤ length p
spaced-room l k h w r =
    let e = ap length (spaced-more l k h) ∙ length-append (spaced (take k l)) (32 ∷ decimal (get_or l k 0)) in
    omega (arith, e, spaced-part l (suc k), w.end, wrote-length w)

pub wrote-line : (n : ℕ) (l : List ℕ) {a b c d : ℕ} {o p q r : List ℕ} → Wrote (decimal n) a b o p → Wrote (spaced l) b c p q
    → Wrote (10 ∷ []) c d q r → Wrote (line n l) a d o r
unfolding line
wrote-line n l u v w = wrote-join (wrote-join u v) w

pub line-length : (n : ℕ) (l : List ℕ) → length (line n l) ≡ length (decimal n) + length (spaced l) + 1
unfolding line
line-length n l = length-append (decimal n ++ spaced l) (10 ∷ []) ∙ ap (λ k. k + 1) (length-append (decimal n) (spaced l))

-- a line of 64-bit numbers has at most twenty digits and a byte for each
spaced-short : (l : List ℕ) → Every (λ n. n < 2 ^ 64) l → length (spaced l) ≤ 21 * length l
unfolding spaced flat_map
spaced-short [] h = omega arith
spaced-short (n ∷ l) h =
    let d = decimal-short 19 n (omega (arith, (every-uncons h).0)) in
    omega (arith, length-append (32 ∷ decimal n) (flat_map (λ n. 32 ∷ decimal n) l), spaced-short l (every-uncons h).1)

pub line-short : (n : ℕ) (l : List ℕ) → n < 2 ^ 64 → Every (λ m. m < 2 ^ 64) l → length (line n l) ≤ 21 + 21 * length l
line-short n l h s = omega (arith, line-length n l, decimal-short 19 n (omega arith), spaced-short l s)

-- the line of two 16-bit numbers has at most twelve bytes
pub pair-short : (i j : ℕ) → i < 65536 → j < 65536 → length (line i (j ∷ [])) ≤ pair_bytes
unfolding spaced flat_map
pair-short i j h k =
    let one : length (spaced (j ∷ [])) ≡ suc (length (decimal j)) = ap length (append-nil (32 ∷ decimal j)) in
    omega (arith, line-length i (j ∷ []), decimal-short 4 i (omega arith), decimal-short 4 j (omega arith), one)

-- the heading is this byte string
pub heading-is : 111 ∷ 118 ∷ 101 ∷ 114 ∷ 108 ∷ 97 ∷ 121 ∷ 32 ∷ 108 ∷ 111 ∷ 103 ∷ 10 ∷ [] ≡ heading
unfolding heading
heading-is = refl

-- the line of a bad command byte
pub wrote-bad : (n : ℕ) {a b c d : ℕ} {o p q r : List ℕ} → Wrote (98 ∷ 97 ∷ 100 ∷ 32 ∷ []) a b o p → Wrote (decimal n) b c p q
    → Wrote (10 ∷ []) c d q r → Wrote (bad_line n) a d o r
unfolding bad_line
wrote-bad n u v w = wrote-join (wrote-join u v) w

pub bad-length : (n : ℕ) → length (bad_line n) ≡ length (decimal n) + 5
unfolding bad_line
bad-length n = omega (arith, length-append (decimal n) (10 ∷ []))

pub bad-short : (n : ℕ) → n < 2 ^ 64 → length (bad_line n) ≤ 25
bad-short n h = omega (arith, bad-length n, decimal-short 19 n (omega arith))

-- ---- the lines of pairs

pub pairs-more : (ns : List ℕ) (k : ℕ) {a b c : ℕ} {o p q : List ℕ} → Wrote (pair_lines ns k) a b o p
    → Wrote (line (get_or ns (2 * k) 0) (get_or ns (2 * k + 1) 0 ∷ [])) b c p q → Wrote (pair_lines ns (k + 1)) a c o q
unfolding pair_lines
pairs-more ns k {a} {b} {c} {o} {p} {q} u v = subst (λ j. Wrote (pair_lines ns j) a c o q) (sym (add-one k)) (wrote-join u v)

pub pairs-none : (ns : List ℕ) (a : ℕ) (o : List ℕ) → a ≤ length o → Wrote (pair_lines ns 0) a a o o
unfolding pair_lines
pairs-none ns a o h = wrote_none a o h

-- the numbers of pairs, however the list goes on, are their lines
module _ (ps : List Pair) (rest : List ℕ) where
  number_at : (k m : ℕ) → k < length ps → m < 2 → get_or (pair_numbers ps ++ rest) (2 * k + m) 0 ≡ get_or ((get_or ps k (pair 0 0)).i ∷ (get_or ps k (pair 0 0)).j ∷ []) m 0
  unfolding pair_numbers
  number_at k m h l =
      get_or-append (pair_numbers ps) rest 0 (2 * k + m) (omega (arith, flat_map-length (λ p. p.i ∷ p.j ∷ []) 2 (λ p. refl) ps))
      ∙ get_or-stride (λ p. p.i ∷ p.j ∷ []) 2 (λ p. refl) ps k m (pair 0 0) h l

  lines-to : (k : ℕ) → k ≤ length ps → pair_lines (pair_numbers ps ++ rest) k ≡ flat_map (λ p. line p.i (p.j ∷ [])) (take k ps)
  unfolding pair_lines flat_map
  lines-to zero h = refl
  lines-to (suc k) h =
      let f : Pair → List ℕ = λ p. line p.i (p.j ∷ []) in
      ap₂ ◌++◌ (lines-to k (omega arith))
      (ap₂ (λ i j. line i (j ∷ [])) (ap (λ n. get_or (pair_numbers ps ++ rest) n 0) (omega arith) ∙ number_at k 0 (omega arith) (omega arith)) (number_at k 1 (omega arith) (omega arith)))
      ∙ sym (ap (flat_map f) (take-suc ps k (pair 0 0) (omega arith)) ∙ flat_map-append f (take k ps) (get_or ps k (pair 0 0) ∷ [])
      ∙ ap (λ u. flat_map f (take k ps) ++ u) (append-nil (f (get_or ps k (pair 0 0)))))

  pub pair-lines : pair_lines (pair_numbers ps ++ rest) (length ps) ≡ flat_map (λ p. line p.i (p.j ∷ [])) ps
  pair-lines = lines-to (length ps) (omega arith) ∙ ap (flat_map (λ p. line p.i (p.j ∷ []))) (take-length ps)
