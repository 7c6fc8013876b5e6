-- Keys that never fall, the place from which on they are not below a bound, and the cell of a key: equal keys beside each other.
-- Assumes nothing.
use Rattle.std.specs.Prelude.{◌≡◌, List, ℕ, ◌+◌, ◌-◌, ◌≤◌, ◌<◌, length, get_or}

-- the first n keys never fall
pub record Rises (keys : List ℕ) (n : ℕ) : Type 0 where
  pub later : (i j : ℕ) → i ≤ j → j < n → get_or keys i 0 ≤ get_or keys j 0

-- the first n keys are there and never fall
pub record Searchable (keys : List ℕ) (n : ℕ) : Type 0 where
  pub room : n ≤ length keys
  pub rises : Rises keys n

-- there are keys and items of n entries, at least one, and the keys start at 0 and never fall: every key has a cell
pub record Listable (keys items : List ℕ) (n : ℕ) : Type 0 where
  pub some : 0 < n
  pub for_keys : n ≤ length keys
  pub for_items : n ≤ length items
  pub starts : get_or keys 0 0 ≡ 0
  pub rises : Rises keys n

-- of the first n keys, those before place r are below b, and those from there on are not
pub record Passes (keys : List ℕ) (n b r : ℕ) : Type 0 where
  pub within : r ≤ n
  pub before : (i : ℕ) → i < r → get_or keys i 0 < b
  pub after : (i : ℕ) → r ≤ i → i < n → b ≤ get_or keys i 0

-- of the first n keys, those from place from up to place to, at least one, are the last cell at or below k: they end where keys
-- pass k, and start where keys reach the last of them
pub record LastCell (keys : List ℕ) (n k from to : ℕ) : Type 0 where
  pub some : from < to
  pub ends : Passes keys n (k + 1) to
  pub starts : Passes keys n (get_or keys (to - 1) 0) from
