-- Packed entries beside those of three lists, place by place.
-- Assumes nothing.
use Rattle.std.specs.Prelude.{Bool, List, ℕ, eqb, get_or}
use Rattle.theory_lists.specs.Lists.{all, up_to}
use Rattle.chart_links.specs.Links.{entry_at}
use Rattle.base_entries.specs.Packed.{packed}

-- the packed entry at place i is that of the three lists
abbrev pub same_place : List ℕ → List ℕ → List ℕ → List ℕ → ℕ → Bool
same_place entries keys levels items i = eqb (get_or entries i 0) (packed (entry_at keys levels items i))

-- the first n are
abbrev pub same_places : List ℕ → List ℕ → List ℕ → List ℕ → ℕ → Bool
same_places entries keys levels items n = all (λ i. same_place entries keys levels items i) (up_to n)
