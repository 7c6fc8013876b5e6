-- What building a table leaves in a list: the packed entries, or too many of them.
-- Assumes nothing.
use mathlib.Core.Path.{◌≡◌, ◌∙◌, ap}
use mathlib.Core.List.{List, map}
use Prim.Native.Nat.{ℕ, ◌≤◌, ◌<◌}
use native.Mathlib.Decide.{dec_le}
use native.Mathlib.Omega.{arith}
use lib.ListN.{length, take, length-map}
use Rattle.std.proofs.Common.{Option, Some, None}
use Rattle.theory_orthtree.specs.Entries.{Entry}
use Rattle.base_entries.specs.Packed.{packed}
use Rattle.theory_lists.proofs.StoredLaws.{take-stored}
use Rattle.quadtree_build.specs.Packed.{Packed}

-- a count that was given where the entries fit, and none where they do not: it is theirs
pub count-given : {most count m : ℕ} → (count ≤ most → ◌≡◌ {A = Option ℕ} (Some m) (Some count)) → (most < count → ◌≡◌ {A = Option ℕ} (Some m) None)
    → (count ≤ most) × (m ≡ count)
count-given {most} {count} fits over = elim (dec_le count most) [
  | yes f ↦ let e = fits f in (f, cc)
  | no n ↦ let e = over (omega arith) in absurd cc
]

-- and if none was given, they are too many
pub none-given : {most count : ℕ} → (count ≤ most → ◌≡◌ {A = Option ℕ} None (Some count)) → most < count
none-given {most} {count} fits = elim (dec_le count most) [
  | yes f ↦ let e = fits f in absurd cc
  | no n ↦ omega arith
]

module _ {most : ℕ} {es : List Entry} {m : ℕ} {l l' : List ℕ} (p : Packed most es (Some m) l l') where
  -- where a number is given, the entries fit, and it is theirs
  pub packed-count : (length es ≤ most) × (m ≡ length es)
  packed-count = count-given (λ f. (p.fits f).0) p.over

  -- the first places hold them
  pub packed-take : take m l' ≡ map (λ e. packed e) es
  packed-take =
      ap (λ k. take k l') packed-count.1
      ∙ ap (take (length es)) (p.fits packed-count.0).1
      ∙ take-stored l (map (λ e. packed e) es) (length es) (length-map es (λ e. packed e)) (omega (arith, p.room, packed-count))
