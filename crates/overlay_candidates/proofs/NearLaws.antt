-- The candidates of a row, listed word by word: the marks of a word are found from the lowest on.
-- Assumes nothing.
use mathlib.Core.Path.{◌≡◌, refl, sym, ◌∙◌, ap, ap₂}
use mathlib.Core.Bool.{Bool, true, false, not, ◌&&◌, ◌||◌, cond}
use mathlib.Core.List.{List}
use Prim.Native.Nat.{ℕ, ◌+◌, ◌*◌, ◌-◌, ◌/◌, ◌^◌, ◌≤◌, ◌<◌}
use native.Mathlib.Nat.{sub_self, div-one}
use native.Mathlib.Decide.{dec_le}
use native.Mathlib.Omega.{arith}
use borrow.Author.Tests.{lt-ltb, le-ltb, le-leb, lt-leb}
use lib.Count.{count_trailing_zeros}
use lib.Pow.{shr_le}
use lib.Dec.{leb, ltb}
use lib.ListN.{length, get_or, set}
use Rattle.spec_plane.specs.Box.{Box}
use Rattle.base_boxes.specs.Boxes.{separate, boxes_overlap}
use Rattle.theory_lists.proofs.CompactLaws.{compact-none, compact-more, compact-skip}
use Rattle.overlay_marks.specs.Bits.{word_bit, has_bit}
use Rattle.overlay_marks.specs.PairMarks.{row_words}
use Rattle.overlay_candidates.specs.RowCandidates.{marked_at, is_near, NearInRow, Collected}
use Rattle.overlay_candidates.proofs.WordLaws.{Lowest, trailing-lowest, bits-before, bit-there, bit-within, bits-after, bits_none}

-- j is below m, or not
below-not : (j m : ℕ) → ltb j m ≡ not (leb m j)
below-not j m =
    elim (dec_le m j) [
      | yes h ↦ rw (le-ltb j m h, le-leb m j h)
      | no h ↦ rw (lt-ltb j m (omega arith), lt-leb m j (omega arith))
    ]

passes-not : (a : Bool) (j m : ℕ) → not a && ltb j m ≡ not (a || leb m j)
passes-not true j m = refl
passes-not false j m = below-not j m

-- ---- the candidates of a row

module _ (b : Box) (box : ℕ → Box) (rows : List ℕ) (m i : ℕ) where
  -- before the first
  pub near_none : (near : List ℕ) → NearInRow b box rows m i near 0 0
  near_none near = compact-none (λ k. is_near b box rows m i k) near

  module _ {near : List ℕ} {j c : ℕ} (n : NearInRow b box rows m i near j c) where
    -- triangle j, which is marked
    pub near-more : marked_at rows i j ≡ true → (near' : List ℕ) (r : ℕ) → c < length near → near' ≡ set near c j
        → r ≡ cond (separate b (box j) || leb m j) c (c + 1) → NearInRow b box rows m i near' (j + 1) r
    near-more marked near' r l e g =
        let a = separate b (box j) in
        let test : is_near b box rows m i j ≡ not (a || leb m j) = ap (λ b. b && not a && ltb j m) marked ∙ passes-not a j m in
        compact-more (λ k. is_near b box rows m i k) n (a || leb m j) test near' r l e g

    -- triangles that are not marked
    pub near-skip : (s : ℕ) → ((k : ℕ) → k < s → marked_at rows i (j + k) ≡ false) → NearInRow b box rows m i near (j + s) c
    near-skip s none =
        compact-skip (λ k. is_near b box rows m i k) n s
        (λ k l. ap (λ a. a && boxes_overlap b box (j + k) && ltb (j + k) m) (none k l))

-- ---- the marks of a word

-- before the first mark of a word
pub word-start : (w k : ℕ) → w ≡ w / 2 ^ (k - k)
word-start w k = sym (ap (λ x. w / 2 ^ x) (sub_self k) ∙ div-one w)

-- the marks of row i, word by word
word-marks : (rows : List ℕ) (i q b : ℕ) → b < 64 → marked_at rows i (64 * q + b) ≡ word_bit (get_or rows (row_words * i + q) 0) b
unfolding has_bit
word-marks rows i q b h = ap₂ (λ x y. word_bit (get_or rows x 0) y) (omega arith) (omega arith)

-- word q of the row, of which the marks from place j on are left
module _ (rows : List ℕ) (i j q w : ℕ) (fits : get_or rows (row_words * i + q) 0 < 2 ^ 64) (low : 64 * q ≤ j) (left : w ≡ get_or rows (row_words * i + q) 0 / 2 ^ (j - 64 * q)) where
  -- nothing is left
  pub word-ended : w ≡ 0 → (k : ℕ) → k < 64 * (q + 1) - j → marked_at rows i (j + k) ≡ false
  word-ended z k l =
      ap (λ x. marked_at rows i x) (omega arith) ∙ word-marks rows i q (j - 64 * q + k) (omega arith)
      ∙ bits_none (get_or rows (row_words * i + q) 0) (j - 64 * q) k (sym z ∙ left)

  -- the next mark
  pub next-mark : 0 < w → Lowest w (count_trailing_zeros 64 w)
  next-mark p = trailing-lowest 64 w p (omega (arith, shr_le (get_or rows (row_words * i + q) 0) (j - 64 * q)))

  -- it is t places on
  module _ (t : ℕ) (l : Lowest w t) where
    pub mark-within : j + t < 64 * (q + 1)
    mark-within = omega (arith, bit-within (get_or rows (row_words * i + q) 0) (j - 64 * q) w t left l 64 fits)

    pub mark-next : (k : ℕ) → k < t → marked_at rows i (j + k) ≡ false
    mark-next k h =
        ap (λ x. marked_at rows i x) (omega arith) ∙ word-marks rows i q (j - 64 * q + k) (omega (arith, mark-within))
        ∙ bits-before (get_or rows (row_words * i + q) 0) (j - 64 * q) w t left l k h

    pub mark-there : marked_at rows i (j + t) ≡ true
    mark-there =
        ap (λ x. marked_at rows i x) (omega arith) ∙ word-marks rows i q (j - 64 * q + t) (omega (arith, mark-within))
        ∙ bit-there (get_or rows (row_words * i + q) 0) (j - 64 * q) w t left l

    pub mark-past : w / 2 ^ t / 2 ≡ get_or rows (row_words * i + q) 0 / 2 ^ (j + t + 1 - 64 * q)
    mark-past =
        bits-after (get_or rows (row_words * i + q) 0) (j - 64 * q) w t left l
        ∙ ap (λ x. get_or rows (row_words * i + q) 0 / 2 ^ x) (omega arith)

-- ---- what the loops have done

module _ (b : Box) (box : ℕ → Box) (rows : List ℕ) (m i : ℕ) (start near : List ℕ) where
  -- of word q of row i the marks before place j are looked at, and w has those that are left
  pub record MarksDone (q w j c : ℕ) : Type 0 where
    pub low : 64 * q ≤ j
    pub high : j ≤ 64 * (q + 1)
    pub left : w ≡ get_or rows (row_words * i + q) 0 / 2 ^ (j - 64 * q)
    pub collected : Collected b box rows m i start near j c
