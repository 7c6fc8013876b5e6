-- The 16-bit numbers in the bytes of a command.
-- Assumes nothing.
use Rattle.std.specs.Prelude.{List, [], ◌∷◌, ℕ, ◌+◌, ◌*◌, get_or}

-- the 16-bit number at places k and k + 1, low byte first
abbrev pub word_at : List ℕ → ℕ → ℕ
word_at bytes k = get_or bytes k 0 + 256 * get_or bytes (k + 1) 0

-- the numbers of the call that an edit's command is
abbrev pub edit_numbers : List ℕ → List ℕ
edit_numbers bytes = get_or bytes 0 0 ∷ word_at bytes 2 ∷ word_at bytes 4 ∷ []
