-- A part taken of a list lies in the list itself.
-- Assumes nothing.
use mathlib.Core.Path.{◌≡◌, sym, ◌∙◌, ap}
use mathlib.Core.List.{List}
use Prim.Native.Nat.{ℕ, ◌+◌, ◌-◌, ◌*◌, ◌≤◌}
use native.Mathlib.Omega.{arith}
use denote.Ref.{Bor}
use lib.ListN.{length, take, drop}
use Rattle.theory_lists.specs.Lists.{count_from}
use Rattle.theory_lists.proofs.PartLaws.{part_length}
use Rattle.read_cells.specs.Place.{OwnPart}

-- the elements from place f up to place t, in the list's own memory
pub own-part : {list part : Bor (List ℕ)} {places : List ℕ} (f t : ℕ) → f ≤ t → t ≤ length list.now
    → part.ref_ptr.0 ≡ list.ref_ptr.0 → part.ref_ptr.1 ≡ f * 2 + list.ref_ptr.1 → part.now ≡ take (t - f) (drop f list.now)
    → places ≡ count_from f (t - f) → OwnPart list part places
own-part {list} {part} f t h w memory byte same places =
    let count : length part.now ≡ t - f = ap length same ∙ part_length f t list.now w in
    record {
      from = f;
      memory = memory;
      byte = omega arith;
      within = omega arith;
      numbers = places ∙ ap (λ n. count_from f n) (sym count);
    }
