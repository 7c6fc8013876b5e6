-- Examples of Log.antt, the lines that are printed and the bytes that are read.
-- Assumes nothing.
use mathlib.Core.Path.{◌≡◌, refl}
use mathlib.Core.Bool.{true, false}
use mathlib.Core.List.{List, [], ◌∷◌, ◌++◌, map}
use Prim.Native.Nat.{ℕ, suc}
use lib.ListN.{replicate}
use Rattle.spec_charts.proofs.Written.{at}
use Rattle.spec_log.specs.Log.{digits, decimal, spaced, line, heading, bad_line, point_operand, known, takes_chart, word_count, chart_bytes, operand_bytes, words_of, well_formed, log_of}
use Rattle.spec_log.proofs.Evaluate.{evaluate}

-- Lines

-- the last digit alone; 7; 10; the last two of larger numbers
digits-example :
    digits 0 5
    ∷ digits 0 5000012349
    ∷ digits 3 7
    ∷ digits 3 10
    ∷ digits 1 5000012345
    ∷ digits 1 4294967301
    ∷ []
    ≡ (53 ∷ []) ∷ (57 ∷ []) ∷ (55 ∷ []) ∷ (49 ∷ 48 ∷ []) ∷ (52 ∷ 53 ∷ []) ∷ (48 ∷ 49 ∷ []) ∷ []
unfolding evaluate
digits-example = refl

-- however many digits there may be before the last
digits-more-example : (more : ℕ) → digits (suc more) 70345 ≡ digits more 7034 ++ (53 ∷ [])
unfolding digits
digits-more-example more = refl

-- 0, 9, 10, 65535, 4294967296
decimal-example : map (λ n. decimal n) (0 ∷ 9 ∷ 10 ∷ 65535 ∷ 4294967296 ∷ [])
    ≡ (48 ∷ [])
    ∷ (57 ∷ [])
    ∷ (49 ∷ 48 ∷ [])
    ∷ (54 ∷ 53 ∷ 53 ∷ 51 ∷ 53 ∷ [])
    ∷ (52 ∷ 50 ∷ 57 ∷ 52 ∷ 57 ∷ 54 ∷ 55 ∷ 50 ∷ 57 ∷ 54 ∷ [])
    ∷ []
unfolding evaluate
decimal-example = refl

-- a space before each number: " 5 12 5000000007"
spaced-example : spaced [] ∷ spaced (5 ∷ 12 ∷ 5000000007 ∷ []) ∷ []
    ≡ [] ∷ (32 ∷ 53 ∷ 32 ∷ 49 ∷ 50 ∷ 32 ∷ 53 ∷ 48 ∷ 48 ∷ 48 ∷ 48 ∷ 48 ∷ 48 ∷ 48 ∷ 48 ∷ 55 ∷ []) ∷ []
unfolding evaluate
spaced-example = refl

-- "6000000031" and "7 0 70012", each with its line feed
line-example : line 6000000031 [] ∷ line 7 (0 ∷ 70012 ∷ []) ∷ []
    ≡ (54 ∷ 48 ∷ 48 ∷ 48 ∷ 48 ∷ 48 ∷ 48 ∷ 48 ∷ 51 ∷ 49 ∷ 10 ∷ []) ∷ (55 ∷ 32 ∷ 48 ∷ 32 ∷ 55 ∷ 48 ∷ 48 ∷ 49 ∷ 50 ∷ 10 ∷ []) ∷ []
unfolding evaluate
line-example = refl

-- "overlay log"
heading-example : heading ∷ log_of [] ∷ [] ≡ replicate 2 (111 ∷ 118 ∷ 101 ∷ 114 ∷ 108 ∷ 97 ∷ 121 ∷ 32 ∷ 108 ∷ 111 ∷ 103 ∷ 10 ∷ [])
unfolding evaluate
heading-example = refl

-- "bad 0", "bad 130", "bad 7000000130"
bad-line-example : map (λ n. bad_line n) (0 ∷ 130 ∷ 7000000130 ∷ [])
    ≡ (98 ∷ 97 ∷ 100 ∷ 32 ∷ 48 ∷ 10 ∷ [])
    ∷ (98 ∷ 97 ∷ 100 ∷ 32 ∷ 49 ∷ 51 ∷ 48 ∷ 10 ∷ [])
    ∷ (98 ∷ 97 ∷ 100 ∷ 32 ∷ 55 ∷ 48 ∷ 48 ∷ 48 ∷ 48 ∷ 48 ∷ 48 ∷ 49 ∷ 51 ∷ 48 ∷ 10 ∷ [])
    ∷ []
unfolding evaluate
bad-line-example = refl

-- Bytes

-- x before y; an operand that is not there is 0
operand-example : map (λ ws. point_operand ws) ([] ∷ (5000000005 ∷ []) ∷ (60006 ∷ 7000000007 ∷ []) ∷ (5000000005 ∷ 60006 ∷ 7000000007 ∷ []) ∷ [])
    ≡ at 0 0 ∷ at 5000000005 0 ∷ at 60006 7000000007 ∷ at 5000000005 60006 ∷ []
unfolding evaluate
operand-example = refl

-- the bytes 0 to 8, and 2^32 + 1 to 2^32 + 4, which no low bits of theirs make commands: which are commands, which of them
-- take a chart, how many words and how many bytes follow
abbrev bytes : List ℕ
bytes = 0 ∷ 1 ∷ 2 ∷ 3 ∷ 4 ∷ 5 ∷ 6 ∷ 7 ∷ 8 ∷ 4294967297 ∷ 4294967298 ∷ 4294967299 ∷ 4294967300 ∷ []

known-example : map (λ b. known b) bytes ≡ false ∷ replicate 7 true ++ replicate 5 false
unfolding evaluate
known-example = refl

takes-chart-example : map (λ b. takes_chart b) bytes ≡ replicate 2 false ++ replicate 5 true ++ replicate 6 false
unfolding evaluate
takes-chart-example = refl

words-example : map (λ b. word_count b) bytes ≡ 0 ∷ 6 ∷ 0 ∷ replicate 4 2 ++ replicate 6 0
unfolding evaluate
words-example = refl

chart-bytes-example : map (λ b. chart_bytes b) bytes ≡ 0 ∷ 0 ∷ 1 ∷ 1 ∷ 1 ∷ 1 ∷ 1 ∷ replicate 6 0
unfolding evaluate
chart-bytes-example = refl

operand-bytes-example : map (λ b. operand_bytes b) bytes ≡ 0 ∷ 12 ∷ 1 ∷ replicate 4 5 ++ replicate 6 0
unfolding evaluate
operand-bytes-example = refl

-- low byte first; a byte that is not there is 0; whatever stands for a byte counts whole
words-of-example :
    words_of 0 (1 ∷ 2 ∷ [])
    ∷ words_of 2 (255 ∷ 1 ∷ 0 ∷ 255 ∷ 9 ∷ [])
    ∷ words_of 3 (7 ∷ 0 ∷ 0 ∷ 1 ∷ 5 ∷ 6 ∷ [])
    ∷ words_of 2 (7 ∷ [])
    ∷ words_of 1 (5000000007 ∷ 6000000000 ∷ [])
    ∷ []
    ≡ [] ∷ (511 ∷ 65280 ∷ []) ∷ (7 ∷ 256 ∷ 1541 ∷ []) ∷ (7 ∷ 0 ∷ []) ∷ (1541000000007 ∷ []) ∷ []
unfolding evaluate
words-of-example = refl

-- however many words follow the first
words-more-example : (n : ℕ) → words_of (suc n) (99 ∷ 234 ∷ 85 ∷ []) ≡ 60003 ∷ words_of n (85 ∷ [])
unfolding evaluate
words-more-example n = refl

-- an unknown byte alone, a cut operand alone, a chart above 1 alone
bad-byte-example :
    well_formed 0 []
    ∷ well_formed 8 []
    ∷ well_formed 4294967303 []
    ∷ well_formed 6 (1 ∷ 1 ∷ 2 ∷ 3 ∷ [])
    ∷ well_formed 1 (replicate 11 1)
    ∷ well_formed 2 []
    ∷ well_formed 2 (2 ∷ [])
    ∷ well_formed 2 (4294967296 ∷ [])
    ∷ well_formed 6 (2 ∷ 1 ∷ 2 ∷ 3 ∷ 4 ∷ [])
    ∷ []
    ≡ replicate 9 false
unfolding evaluate
bad-byte-example = refl

-- chart 0 and chart 1, exactly the operands or more; commands without a chart, whatever byte comes first
good-byte-example :
    well_formed 2 (0 ∷ [])
    ∷ well_formed 2 (1 ∷ [])
    ∷ well_formed 6 (1 ∷ 9 ∷ 9 ∷ 9 ∷ 9 ∷ [])
    ∷ well_formed 6 (0 ∷ 9 ∷ 9 ∷ 9 ∷ 9 ∷ 9 ∷ [])
    ∷ well_formed 6 (0 ∷ replicate 65535 9)
    ∷ well_formed 1 (replicate 12 200)
    ∷ well_formed 7 []
    ∷ well_formed 7 (200 ∷ [])
    ∷ []
    ≡ replicate 8 true
unfolding evaluate
good-byte-example = refl
