-- The numbers of a command one by one.
-- Assumes nothing.
use mathlib.Core.Path.{◌≡◌, refl, sym, ◌∙◌, ap, ap₂}
use mathlib.Core.List.{List, [], ◌∷◌}
use Prim.Native.Nat.{ℕ, zero, suc, ◌+◌, ◌*◌, ◌≤◌, ◌<◌}
use native.Mathlib.Omega.{arith}
use borrow.Author.Tests.{ne_eqb, le-leb}
use lib.ListN.{length, get_or, drop}
use lib.Seq.{get_or-drop, drop-drop}
use Rattle.spec_log.specs.Log.{State, run_command, takes_chart, word_count, chart_bytes, words_of, step_of}
use Rattle.log_bytes.specs.Words.{word_at}

pub words-length : (n : ℕ) (bytes : List ℕ) → length (words_of n bytes) ≡ n
unfolding words_of
words-length zero bytes = refl
words-length (suc n) bytes = ap suc (words-length n (drop 2 bytes))

-- number k stands at places 2 k and 2 k + 1
words-at : (n : ℕ) (bytes : List ℕ) (k : ℕ) → k < n → get_or (words_of n bytes) k 0 ≡ word_at bytes (2 * k)
unfolding words_of
words-at zero bytes k h = absurd (omega arith)
words-at (suc n) bytes zero h = refl
words-at (suc n) bytes (suc k) h =
    words-at n (drop 2 bytes) k (omega arith)
    ∙ ap₂ (λ u v. u + 256 * v) (get_or-drop 2 bytes (2 * k) 0 ∙ ap (λ j. get_or bytes j 0) (omega arith))
    (get_or-drop 2 bytes (2 * k + 1) 0 ∙ ap (λ j. get_or bytes j 0) (omega arith))

-- a number of the bytes after the first i
word-drop : (i : ℕ) (bytes : List ℕ) (k : ℕ) → word_at (drop i bytes) k ≡ word_at bytes (i + k)
word-drop i bytes k =
    ap₂ (λ u v. u + 256 * v) (get_or-drop i bytes k 0) (get_or-drop i bytes (k + 1) 0 ∙ ap (λ j. get_or bytes j 0) (omega arith))

pub word_after : (n i : ℕ) (bytes : List ℕ) (k : ℕ) → k < n → word_at bytes (i + 2 * k) ≡ get_or (words_of n (drop i bytes)) k 0
word_after n i bytes k h = sym (words-at n (drop i bytes) k h ∙ word-drop i bytes (2 * k))

-- commands 3 to 6: a chart, and two numbers after it
pub step-two : (b : ℕ) (bytes : List ℕ) (s : State) → 3 ≤ b → b ≤ 6
    → step_of b (drop 1 bytes) s ≡ run_command b (get_or bytes 1 0) (word_at bytes 2 ∷ word_at bytes 4 ∷ []) s
unfolding step_of word_count chart_bytes takes_chart words_of
step-two b bytes s h k =
    rw (ne_eqb b 1 (omega arith), le-leb 2 b (omega arith), le-leb 3 b h, le-leb b 6 k)
    (ap₂ (λ c ws. run_command b c ws s) (get_or-drop 1 bytes 0 0)
    (ap₂ (λ u v. u ∷ v ∷ []) (ap (λ l. word_at l 0) (drop-drop 1 1 bytes) ∙ word-drop 2 bytes 0)
    (ap (λ l. word_at l 0) (ap (drop 2) (drop-drop 1 1 bytes) ∙ drop-drop 2 2 bytes) ∙ word-drop 4 bytes 0)))
