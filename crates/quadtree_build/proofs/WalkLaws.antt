-- Building a square: how the entries of its quarters join.
-- Assumes nothing.
use mathlib.Core.Path.{◌≡◌, refl, sym, ◌∙◌, ap}
use mathlib.Core.List.{List, [], ◌++◌, map, map-append}
use Prim.Native.Nat.{ℕ, ◌+◌, ◌≤◌}
use native.Mathlib.Nat.{add-zero}
use native.Mathlib.Omega.{arith}
use lib.ListN.{length, length-append, length-map}
use lib.Seq.{sets}
use Rattle.std.proofs.Common.{Option, Some, None}
use Rattle.theory_lists.proofs.ListsLaws.{sets-join}
use Rattle.theory_orthtree.specs.Entries.{Entry}
use Rattle.base_entries.specs.Packed.{packed}
use Rattle.quadtree_build.specs.Build.{Built}
use Rattle.quadtree_build.proofs.PackedLaws.{count-given, none-given}

-- ---- entries of one list after another

pub built-start : {most t : ℕ} (at : ℕ) (out stack : List ℕ) → at ≤ most → Built [] most at (Some at) t out out stack stack
built-start at out stack h = record {
  fits = λ g. (ap Some (sym (add-zero at)), refl);
  over = λ g. absurd (omega arith);
  kept = refl;
  outs = refl;
  stacks = refl;
}

-- a place that was given is the one after the entries, which fit
pub built-some : {es : List Entry} {most at a t : ℕ} {o o₁ s s₁ : List ℕ} → Built es most at (Some a) t o o₁ s s₁ → (at + length es ≤ most) × (a ≡ at + length es)
built-some b = count-given (λ f. (b.fits f).0) b.over

pub built-join : {es fs : List Entry} {most at a t : ℕ} {r : Option ℕ} {o o₁ o₂ s s₁ s₂ : List ℕ}
    → Built es most at (Some a) t o o₁ s s₁ → Built fs most a r t o₁ o₂ s₁ s₂ → Built (es ++ fs) most at r t o o₂ s s₂
built-join {es} {fs} {most} {at} {a} {r} {o = o} {o₁} {o₂} h g =
    let e = length-append es fs in
    let place = built-some h in
    let x = h.fits place.0 in
    record {
      fits = λ l.
          let y = g.fits (omega arith) in (
            y.0 ∙ ap Some (omega arith),
            y.1
                ∙ ap (λ z. sets z a (map (λ d. packed d) fs)) x.1
                ∙ sets-join o at a (map (λ d. packed d) es) (map (λ d. packed d) fs) (place.1 ∙ ap (λ n. at + n) (sym (length-map es (λ d. packed d))))
                ∙ ap (sets o at) (sym (map-append (λ d. packed d) es fs)),
          );
      over = λ l. g.over (omega arith);
      kept = g.kept ∙ h.kept;
      outs = g.outs ∙ h.outs;
      stacks = g.stacks ∙ h.stacks;
    }

-- entries that do not fit: neither do they and more
pub built-over : {es : List Entry} {most at t : ℕ} {o o₁ s s₁ : List ℕ} (fs : List Entry) → Built es most at None t o o₁ s s₁ → Built (es ++ fs) most at None t o o₁ s s₁
built-over {es} {most} {at} fs b =
    let many = none-given (λ f. (b.fits f).0) in
    record {
      fits = λ g. absurd (omega (arith, length-append es fs));
      over = λ g. refl;
      kept = b.kept;
      outs = b.outs;
      stacks = b.stacks;
    }
