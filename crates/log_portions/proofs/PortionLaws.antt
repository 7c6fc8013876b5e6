-- However an input is cut into portions, its log is printed.
-- The idea: what is printed for the bytes that follow the held ones, and at the end, is what `log_from` prints from the held bytes on.
-- Assumes nothing.
use mathlib.Core.Path.{◌≡◌, refl, sym, ◌∙◌, ap, ap₂}
use mathlib.Core.Bool.{Bool, true, false, cond, not, ◌&&◌, ◌||◌}
use mathlib.Core.List.{List, [], ◌∷◌, ◌++◌, append_assoc, append-nil}
use Prim.Native.Nat.{ℕ, zero, suc, ◌+◌, ◌*◌, ◌≤◌, ◌<◌}
use native.Mathlib.Omega.{arith}
use borrow.Author.Tests.{leb-true, leb-false, le-leb, lt-leb}
use lib.Dec.{leb}
use lib.ListN.{length, get_or, drop, length-append, length-drop, get_or-append}
use lib.Seq.{drop_at, drop-append-le}
use Rattle.spec_log.specs.Log.{State, start_state, heading, bad_line, known, takes_chart, word_count, chart_bytes, operand_bytes, words_of, well_formed, step_of, run_command, log_from, log_of}
use Rattle.log_portions.specs.Portions.{Progress, more, whole, bad, fine_so_far, progress_of, Reading, start_reading, Fed, settle, join_byte, feed_byte, joined, feed, feed_all, finish, join_all, portions_log}

-- a portion after a portion is both in one
pub feed-append : (p q : List ℕ) (r : Reading) → feed (p ++ q) r ≡ joined (feed p r).printed (feed q (feed p r).after)
unfolding feed joined
feed-append [] q r = refl
feed-append (x ∷ xs) q r =
    ap (λ f. joined (feed_byte x r).printed f) (feed-append xs q (feed_byte x r).after)
    ∙ ap (λ l. record { printed = l; after = (feed q (feed xs (feed_byte x r).after).after).after })
    (sym (append_assoc (feed_byte x r).printed (feed xs (feed_byte x r).after).printed _))

-- so all portions are one
pub feed-all : (ps : List (List ℕ)) (r : Reading) → feed_all ps r ≡ feed (join_all ps) r
unfolding feed_all join_all feed
feed-all [] r = refl
feed-all (p ∷ ps) r = ap (λ f. joined (feed p r).printed f) (feed-all ps (feed p r).after) ∙ sym (feed-append p (join_all ps) r)

-- words of a longer list
words-prefix : (n : ℕ) (l m : List ℕ) → 2 * n ≤ length l → words_of n (l ++ m) ≡ words_of n l
unfolding words_of
words-prefix zero l m h = refl
words-prefix (suc n) [] m h = absurd (omega arith)
words-prefix (suc n) (x ∷ []) m h = absurd (omega arith)
words-prefix (suc n) (x ∷ y ∷ l) m h = ap (λ ws. (x + 256 * y) ∷ ws) (words-prefix n l m (omega arith))

-- only an overlay has no operand
data Kind (b : ℕ) : Type 0 where
  operands : 0 < operand_bytes b → Kind b
  overlays : b ≡ 7 → Kind b

second-true : (k c : Bool) → k && c ≡ true → c ≡ true
second-true true c e = e
second-true false c e = cc

seven-most : (b : ℕ) → known b ≡ true → b ≤ 7
unfolding known
seven-most b k = leb-true b 7 (second-true (leb 1 b) (leb b 7) k)

kind : (b : ℕ) → known b ≡ true → Kind b
unfolding known operand_bytes chart_bytes takes_chart word_count
kind zero k = let y : ◌≡◌ {A = ℕ} 0 1 = cc in absurd (omega arith)
kind (suc zero) k = operands (omega arith)
kind (suc (suc zero)) k = operands (omega arith)
kind (suc (suc (suc zero))) k = operands (omega arith)
kind (suc (suc (suc (suc zero)))) k = operands (omega arith)
kind (suc (suc (suc (suc (suc zero))))) k = operands (omega arith)
kind (suc (suc (suc (suc (suc (suc zero)))))) k = operands (omega arith)
kind (suc (suc (suc (suc (suc (suc (suc zero))))))) k = overlays refl
kind (suc (suc (suc (suc (suc (suc (suc (suc b)))))))) k = absurd (omega (arith, seven-most (suc (suc (suc (suc (suc (suc (suc (suc b)))))))) k))

-- a command's step is of its own operands alone
pub step-prefix : (b : ℕ) (rest xs : List ℕ) (s : State) → known b ≡ true → operand_bytes b ≤ length rest → step_of b (rest ++ xs) s ≡ step_of b rest s
unfolding step_of operand_bytes run_command word_count words_of
step-prefix b rest xs s k h = go (kind b k)
  where
    go : Kind b → step_of b (rest ++ xs) s ≡ step_of b rest s
    go (operands o) =
        ap₂ (λ c ws. run_command b c ws s) (get_or-append rest xs 0 0 (omega arith))
        (ap (words_of (word_count b)) (drop-append-le (chart_bytes b) rest xs (omega arith))
        ∙ words-prefix (word_count b) (drop (chart_bytes b) rest) xs (omega (arith, length-drop (chart_bytes b) rest)))
    go (overlays e) = rw e

-- after `bad` nothing
feed-ended : (xs : List ℕ) (r : Reading) → r.ended ≡ true → feed xs r ≡ record { printed = []; after = r }
unfolding feed feed_byte joined
feed-ended [] r e = refl
feed-ended (x ∷ xs) r e =
    let f = ap {B = Fed} (λ b. elim b [ true ↦ record { printed = []; after = r } | false ↦ join_byte r.held x r ]) e in
    ap (λ g. joined g.printed (feed xs g.after)) f ∙ ap (joined []) (feed-ended xs r e)

-- what the progress tells
abbrev choice : Bool → Bool → Progress
choice f l = elim f [ true ↦ elim l [ true ↦ whole | false ↦ more ] | false ↦ bad ]

whole-both : (f l : Bool) → choice f l ≡ whole → (f ≡ true) × (l ≡ true)
whole-both true true e = (refl, refl)
whole-both true false e = (refl, cc)
whole-both false l e = (cc, cc)

more-both : (f l : Bool) → choice f l ≡ more → (f ≡ true) × (l ≡ false)
more-both true true e = (refl, cc)
more-both true false e = (refl, refl)
more-both false l e = (cc, cc)

bad-first : (f l : Bool) → choice f l ≡ bad → f ≡ false
bad-first true true e = cc
bad-first true false e = cc
bad-first false l e = refl

-- tests of three Booleans
all_three : (k l c : Bool) → k && c ≡ true → l ≡ true → k && l && c ≡ true
all_three true l true e f = rw f
all_three true l false e f = cc
all_three false l c e f = cc

one-missing : (k l c : Bool) → k && c ≡ false → k && l && c ≡ false
one-missing true true true e = cc
one-missing true true false e = refl
one-missing true false c e = refl
one-missing false l c e = refl

first-true : (k c : Bool) → k && c ≡ true → k ≡ true
first-true true c e = refl
first-true false c e = cc

first-missing : (k t : Bool) → k && (not t || true) ≡ false → k ≡ false
first-missing false t e = refl
first-missing true true e = cc
first-missing true false e = cc

middle-missing : (k l c : Bool) → l ≡ false → k && l && c ≡ false
middle-missing true l c e = rw e
middle-missing false l c e = refl

-- a command that is fine so far and whole is well formed, whatever follows
well-formed : (b : ℕ) (rest xs : List ℕ) → fine_so_far b rest ≡ true → operand_bytes b ≤ length rest → well_formed b (rest ++ xs) ≡ true
unfolding well_formed fine_so_far operand_bytes chart_bytes
well-formed b [] xs f h = go (takes_chart b) refl
  where
    go : (t : Bool) → takes_chart b ≡ t → well_formed b xs ≡ true
    go true e = let o : ◌≡◌ {A = ℕ} (cond (takes_chart b) 1 0) 1 = rw e in absurd (omega arith)
    go false e = all_three (known b) (leb (operand_bytes b) (length xs)) (not (takes_chart b) || leb (get_or xs 0 0) 1)
        (rw e (rw e at f)) (le-leb (operand_bytes b) (length xs) (omega arith))
well-formed b (c ∷ rest) xs f h =
    all_three (known b) (leb (operand_bytes b) (suc (length (rest ++ xs)))) (not (takes_chart b) || leb c 1) f
    (le-leb (operand_bytes b) (suc (length (rest ++ xs))) (omega (arith, length-append rest xs)))

-- one that is not fine is not
not-fine : (b : ℕ) (rest xs : List ℕ) → fine_so_far b rest ≡ false → well_formed b (rest ++ xs) ≡ false
unfolding well_formed fine_so_far
not-fine b [] xs f = rw (first-missing (known b) (takes_chart b) f)
not-fine b (c ∷ rest) xs f =
    one-missing (known b) (leb (operand_bytes b) (suc (length (rest ++ xs)))) (not (takes_chart b) || leb c 1) f

-- one that is cut is not
cut_short : (b : ℕ) (rest : List ℕ) → length rest < operand_bytes b → well_formed b rest ≡ false
unfolding well_formed
cut_short b rest h =
    middle-missing (known b) (leb (operand_bytes b) (length rest)) (not (takes_chart b) || leb (get_or rest 0 0) 1)
    (lt-leb (operand_bytes b) (length rest) h)

-- what is printed for the bytes xs and the end after them
abbrev what_is_printed : List ℕ → Reading → List ℕ
what_is_printed xs r = (feed xs r).printed ++ finish (feed xs r).after

abbrev reading : State → ℕ → List ℕ → Reading
reading s o held = record { state = s; offset = o; held = held; ended = false }

printed-cons : (x : ℕ) (xs : List ℕ) (r : Reading) → what_is_printed (x ∷ xs) r ≡ (feed_byte x r).printed ++ what_is_printed xs (feed_byte x r).after
unfolding feed joined
printed-cons x xs r = append_assoc (feed_byte x r).printed _ _

pub fine-known : (b : ℕ) (rest : List ℕ) → fine_so_far b rest ≡ true → known b ≡ true
unfolding fine_so_far
fine-known b rest f = first-true (known b) (not (takes_chart b) || leb (get_or rest 0 0) 1) f

-- the bytes held are none, or those of a command that wants more
data Part : List ℕ → Type 0 where
  empty : Part []
  cut : {b : ℕ} {rest : List ℕ} → length rest < operand_bytes b → Part (b ∷ rest)

log-whole : (m o : ℕ) (s : State) (b : ℕ) (rest : List ℕ) → well_formed b rest ≡ true
    → log_from (suc m) o s (b ∷ rest) ≡ (step_of b rest s).printed ++ log_from m (o + 1 + operand_bytes b) (step_of b rest s).after (drop (operand_bytes b) rest)
unfolding log_from
log-whole m o s b rest e = rw (e, log_from)

log-bad : (m o : ℕ) (s : State) (b : ℕ) (rest : List ℕ) → well_formed b rest ≡ false → log_from (suc m) o s (b ∷ rest) ≡ bad_line o
unfolding log_from
log-bad m o s b rest e = rw (e, log_from)

-- the law for the bytes xs
abbrev Law : List ℕ → Type 0
Law xs = (m : ℕ) (s : State) (o : ℕ) (held : List ℕ) → Part held → length held + length xs ≤ m → what_is_printed xs (reading s o held) ≡ log_from m o s (held ++ xs)

-- a command with one byte more, where the law holds for the bytes that follow
settled : (xs : List ℕ) → Law xs → (m : ℕ) (s : State) (o b : ℕ) (rest held : List ℕ) → length rest ≤ operand_bytes b → suc (length rest + length xs) ≤ m
    → (p : Progress) → choice (fine_so_far b rest) (leb (operand_bytes b) (length rest)) ≡ p
    → (settle p b rest (reading s o held)).printed ++ what_is_printed xs (settle p b rest (reading s o held)).after ≡ log_from m o s (b ∷ rest ++ xs)
unfolding settle finish
settled xs law m s o b rest held le h more e =
    law m s o (b ∷ rest) (cut (leb-false (operand_bytes b) (length rest) (more-both (fine_so_far b rest) (leb (operand_bytes b) (length rest)) e).1)) (omega arith)
settled xs law zero s o b rest held le h whole e = absurd (omega arith)
settled xs law (suc m) s o b rest held le h whole e =
    let both = whole-both (fine_so_far b rest) (leb (operand_bytes b) (length rest)) e in
    let n : operand_bytes b ≤ length rest = leb-true (operand_bytes b) (length rest) both.1 in
    let d : drop (operand_bytes b) (rest ++ xs) ≡ xs = drop_at rest xs (operand_bytes b) (omega arith) in
    let p : step_of b (rest ++ xs) s ≡ step_of b rest s = step-prefix b rest xs s (fine-known b rest both.0) n in
    let l = law m (step_of b rest s).after (o + 1 + operand_bytes b) [] empty (omega arith) in
    ap (λ t. (step_of b rest s).printed ++ t) l
    ∙ sym
    (log-whole m o s b (rest ++ xs) (well-formed b rest xs both.0 n)
    ∙ ap₂ (λ st t. st.printed ++ log_from m (o + 1 + operand_bytes b) st.after t) p d)
settled xs law zero s o b rest held le h bad e = absurd (omega arith)
settled xs law (suc m) s o b rest held le h bad e =
    let f = bad-first (fine_so_far b rest) (leb (operand_bytes b) (length rest)) e in
    let g = feed-ended xs (record { state = s; offset = o; held = []; ended = true }) refl in
    ap (λ f. bad_line o ++ (f.printed ++ finish f.after)) g ∙ append-nil (bad_line o) ∙ sym (log-bad m o s b (rest ++ xs) (not-fine b rest xs f))

log-from : (xs : List ℕ) → Law xs
unfolding log_from feed feed_byte join_byte finish progress_of
log-from [] zero s o [] empty h = refl
log-from [] (suc m) s o [] empty h = refl
log-from [] zero s o (b ∷ rest) (cut c) h = absurd (omega arith)
log-from [] (suc m) s o (b ∷ rest) (cut c) h = rw (append-nil rest) (sym (log-bad m o s b rest (cut_short b rest c)))
log-from (x ∷ xs) m s o [] empty h =
    printed-cons x xs (reading s o [])
    ∙ settled xs (log-from xs) m s o x [] [] (omega arith) (omega arith) (progress_of x []) refl
log-from (x ∷ xs) m s o (b ∷ rest) (cut c) h =
    let n : length (rest ++ (x ∷ [])) ≡ suc (length rest) = length-append rest (x ∷ []) ∙ omega arith in
    printed-cons x xs (reading s o (b ∷ rest))
    ∙ settled xs (log-from xs) m s o b (rest ++ (x ∷ [])) (b ∷ rest) (omega arith) (omega arith) (progress_of b (rest ++ (x ∷ []))) refl
    ∙ ap (λ t. log_from m o s (b ∷ t)) (append_assoc rest (x ∷ []) xs)

-- THE LAW OF PORTIONS: however the input is cut, what is printed is the log of the whole input
pub portions : (ps : List (List ℕ)) → portions_log ps ≡ log_of (join_all ps)
unfolding portions_log log_of start_reading
portions ps =
    rw (feed-all ps (reading start_state 0 []))
    (ap (λ t. heading ++ t) (log-from (join_all ps) (length (join_all ps)) start_state 0 [] empty (omega arith)))
