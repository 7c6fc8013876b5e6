-- Bytes written into a list from a place on.
-- Assumes nothing.
use Rattle.std.specs.Prelude.{◌≡◌, List, [], ◌∷◌, ◌++◌, ℕ, zero, suc, ◌+◌, ◌*◌, ◌≤◌, length, get_or}
use Rattle.std.proofs.lemmas.List.Edits.{sets}
use Rattle.spec_log.specs.Log.{line}

-- the bytes stand from place `at` on, `next` is the place after them, and nothing else has changed
pub record Wrote (bytes : List ℕ) (at next : ℕ) (before after : List ℕ) : Type 0 where
  pub end : next ≡ at + length bytes
  pub stored : after ≡ sets before at bytes
  pub room : next ≤ length after

-- the lines of the first n pairs of a list of numbers
unfoldable pub pair_lines : List ℕ → ℕ → List ℕ
pair_lines ns zero = []
pair_lines ns (suc n) = pair_lines ns n ++ line (get_or ns (2 * n) 0) (get_or ns (2 * n + 1) 0 ∷ [])

-- how many bytes the line of a pair has at most: five digits, a space, five digits, a line feed
abbrev pub pair_bytes : ℕ
pair_bytes = 12
