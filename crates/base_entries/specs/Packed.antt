-- Entries packed into numbers: key, level and item at places 32, 16 and 0.
-- Assumes nothing.
use Rattle.std.specs.Prelude.{ℕ, ◌+◌, ◌*◌, ◌/◌, ◌%◌}
use Rattle.theory_orthtree.specs.Entries.{Entry}

-- what a key of 1 counts in a packed entry
abbrev pub key_weight : ℕ
key_weight = 4294967296

-- what a level of 1 counts, above every item
abbrev pub level_weight : ℕ
level_weight = 65536

-- how many levels have their place
abbrev pub level_places : ℕ
level_places = 256

-- key and level at their places
abbrev pub head_of : ℕ → ℕ → ℕ
head_of key level = key * key_weight + level * level_weight

-- the largest number of 64 bits to which every item may be added
abbrev pub max_head : ℕ
max_head = 18446744073709486080

-- an entry as one number
unfoldable pub packed : Entry → ℕ
packed e = head_of e.key e.level + e.item

-- the key of a packed entry
abbrev pub key_of : ℕ → ℕ
key_of x = x / key_weight

-- its level
abbrev pub level_of : ℕ → ℕ
level_of x = x / level_weight % level_places

-- its item
abbrev pub item_of : ℕ → ℕ
item_of x = x % level_weight
