-- Sets of small numbers as bits of words, 64 to a word.
-- Assumes nothing.
use Rattle.std.specs.Prelude.{◌≡◌, Bool, ◌&&◌, ◌||◌, List, ℕ, ◌+◌, ◌*◌, ◌-◌, ◌/◌, ◌%◌, ◌^◌, leb, ltb, eqb, length, get_or}

-- bit b of a word is set
unfoldable pub word_bit : ℕ → ℕ → Bool
word_bit w b = eqb (w / 2 ^ b % 2) 1

-- bit k of the words is set
unfoldable pub has_bit : List ℕ → ℕ → Bool
has_bit ws k = word_bit (get_or ws (k / 64) 0) (k % 64)

-- the words with bit k set, and every other bit as it was
pub record Inserted (before : List ℕ) (k : ℕ) (after : List ℕ) : Type 0 where
  pub bits : (m : ℕ) → has_bit after m ≡ has_bit before m || eqb m k
  pub kept : length after ≡ length before

-- the words with the bits of the set's first n words set from word `at` on, and every other bit as it was
pub record Joined (before : List ℕ) (at : ℕ) (set : List ℕ) (n : ℕ) (after : List ℕ) : Type 0 where
  pub bits : (m : ℕ) → has_bit after m ≡ has_bit before m || leb (64 * at) m && ltb m (64 * (at + n)) && has_bit set (m - 64 * at)
  pub kept : length after ≡ length before
