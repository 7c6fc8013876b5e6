-- What building a table leaves in the three lists, by the limit that it had.
-- Assumes nothing.
use mathlib.Core.Path.{◌≡◌, ◌∙◌, ap, subst}
use mathlib.Core.List.{List, map}
use Prim.Native.Nat.{ℕ, ◌≤◌, ◌<◌}
use native.Mathlib.Omega.{arith}
use lib.ListN.{length, take}
use Rattle.theory_lists.proofs.ListsLaws.{Every}
use Rattle.theory_orthtree.specs.Entries.{Entry}
use Rattle.spec_charts.specs.Cells.{max_entries}
use Rattle.spec_calls.specs.Buffers.{padded}
use Rattle.base_entries.specs.Packed.{key_of, level_of, item_of}
use Rattle.std.proofs.Common.{Option, Some, None}
use Rattle.chart_lists.specs.Columns.{Columns, unpacked, Filled}
use Rattle.chart_index.specs.Lists.{ListedWithin}
use Rattle.base_entries.proofs.PackLaws.{Packable, keys-packed, levels-packed, items-packed}
use Rattle.quadtree_build.specs.Packed.{Packed}
use Rattle.quadtree_build.proofs.PackedLaws.{count-given, none-given, packed-count, packed-take}

-- the packed entries that a build left, put into the lists
pub listed_some : {most : ℕ} {es : List Entry} {m : ℕ} {l l' : List ℕ} {before after : Columns}
    → Packed most es (Some m) l l' → Every (λ e. Packable e) es → Filled (unpacked (take m l')) before after
    → ListedWithin most es (Some m) before.keys after.keys before.levels after.levels before.items after.items
listed_some {most} {es} {before = before} p q w =
    let no : most < length es → ⊥ = λ o. omega (arith, packed-count p) in
    record {
      fits = λ f. (p.fits f).0;
      fits_keys = λ f. w.keys ∙ ap (λ x. padded max_entries x before.keys) (ap (map key_of) (packed-take p) ∙ keys-packed es q);
      fits_levels = λ f. w.levels ∙ ap (λ x. padded max_entries x before.levels) (ap (map level_of) (packed-take p) ∙ levels-packed es q);
      fits_items = λ f. w.items ∙ ap (λ x. padded max_entries x before.items) (ap (map item_of) (packed-take p) ∙ items-packed es q);
      over = p.over;
      over_keys = λ o. absurd (no o);
      over_levels = λ o. absurd (no o);
      over_items = λ o. absurd (no o);
    }

-- ---- by the count

-- the entries fit where a count is given, and it is theirs
pub listed-count : {most : ℕ} {es : List Entry} {m : ℕ} {ks ks' ls ls' is is' : List ℕ} → ListedWithin most es (Some m) ks ks' ls ls' is is'
    → (length es ≤ most) × (m ≡ length es)
listed-count l = count-given l.fits l.over

-- and do not where none is
pub listed-many : {most : ℕ} {es : List Entry} {ks ks' ls ls' is is' : List ℕ} → ListedWithin most es None ks ks' ls ls' is is' → most < length es
listed-many l = none-given l.fits

-- entries within a limit are within a larger one
pub listed_more : {most more : ℕ} {es : List Entry} {m : ℕ} {ks ks' ls ls' is is' : List ℕ} → most ≤ more
    → ListedWithin most es (Some m) ks ks' ls ls' is is' → ListedWithin more es (Some m) ks ks' ls ls' is is'
listed_more {most} {more} {es} h l =
    let few = (listed-count l).0 in
    let no : more < length es → ⊥ = λ o. omega arith in
    record {
      fits = λ g. l.fits few;
      fits_keys = λ g. l.fits_keys few;
      fits_levels = λ g. l.fits_levels few;
      fits_items = λ g. l.fits_items few;
      over = λ o. absurd (no o);
      over_keys = λ o. absurd (no o);
      over_levels = λ o. absurd (no o);
      over_items = λ o. absurd (no o);
    }

-- too many entries leave the lists as they were, so another building starts from these
pub listed-again : {most more : ℕ} {es : List Entry} {r : Option ℕ} {ks ks' ks'' ls ls' ls'' is is' is'' : List ℕ}
    → ListedWithin most es None ks ks' ls ls' is is' → ListedWithin more es r ks' ks'' ls' ls'' is' is'' → ListedWithin more es r ks ks'' ls ls'' is is''
listed-again {most} {more} {es} {r} {ks} {ks'} {ks''} {ls} {ls'} {ls''} {is} {is'} {is''} l n =
    let many = listed-many l in
    subst (λ x. ListedWithin more es r x ks'' ls ls'' is is'') (l.over_keys many)
    (subst (λ x. ListedWithin more es r ks' ks'' x ls'' is is'') (l.over_levels many)
    (subst (λ x. ListedWithin more es r ks' ks'' ls' ls'' x is'') (l.over_items many) n))
