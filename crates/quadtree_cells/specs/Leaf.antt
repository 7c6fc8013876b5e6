-- The entries of a cell as code writes them.
-- Assumes nothing.
use Rattle.std.specs.Prelude.{◌≡◌, List, map, ℕ, ◌+◌, length}
use Rattle.std.proofs.lemmas.List.Edits.{sets}

-- an entry for each item is written from place `at` on, packed behind the cell's head; `next` is the place after them
abbrev pub EntriesPut : List ℕ → ℕ → ℕ → ℕ → List ℕ → List ℕ → Type 0
EntriesPut items head at next before after = (next ≡ at + length items) × (after ≡ sets before at (map (λ i. head + i) items))
