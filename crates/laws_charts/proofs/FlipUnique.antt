-- A flip does not depend on the order in which the shared side is searched for: two triangles with D > 0 share one at most.
-- The idea: a second one makes two corners of a triangle equal, or one triangle the reverse of the other.
-- Assumes nothing.
use mathlib.Core.Path.{◌≡◌, refl, sym, ◌∙◌, ap, ap₂, subst}
use mathlib.Core.Bool.{false}
use mathlib.Core.List.Memᴰ
use mathlib.Core.List.{List, [], ◌∷◌, Memᴰ}
use mathlib.Core.Logic.{inl, inr}
use mathlib.Core.Option.{Option, none, some}
use Prim.Native.Nat.{ℕ, ◌<◌}
use borrow.Author.Tests.{lt-leb}
use lib.Dec.{T}
use lib.ListN.{length}
use Rattle.theory_lists.specs.Lists.{first}
use Rattle.theory_lists.proofs.ListsLaws.{Every, every-uncons}
use Rattle.theory_lists.proofs.EditedLists.{first_found, first-none, first-missed}
use Rattle.spec_plane.specs.Triangle.{Triangle, proper}
use Rattle.spec_charts.specs.Table.{Table, numbered}
use Rattle.spec_charts.specs.declared.Refusal.TheVariants.{NoFlip}
use Rattle.spec_charts.specs.Refusals.{refused, refuse_if}
use Rattle.spec_charts.specs.Edits.{triangle, rotations, shares_side, flip_as, flip_with, flip_among, flip_table}
use Rattle.laws_charts.proofs.TableLaws.{numbered-proper}
use Rattle.laws_charts.proofs.TriangleLaws.{named, reversed-proper}
use Rattle.laws_charts.proofs.RotationLaws.{three, corners-apart, rotations-same, rotations-proper, shares_side-reflects}

-- u has the side ab of t in the other direction
abbrev Facing : Triangle → Triangle → Type 0
Facing t u = (t.a ≡ u.b) × (t.b ≡ u.a)

-- of (a,b,c) and (b,a,d) no other rotations do
module _ (t u : Triangle) (ht : T (proper t)) (hu : T (proper u)) (f : Facing t u) where
  -- c is not d
  apexes : t.c ≡ u.c → ⊥
  apexes e =
      reversed-proper t.a t.b t.c (subst (λ s. T (proper s)) (named t refl refl refl) ht)
      (subst (λ s. T (proper s)) (named u (sym f.1) (sym f.0) (sym e)) hu)

  side-once : Every (λ s. Every (λ r. Facing s r → (t ≡ s) × (u ≡ r)) (rotations u)) (rotations t)
  unfolding rotations triangle
  side-once =
      let d = corners-apart t ht in
      let s₁ = triangle t.b t.c t.a in
      let s₂ = triangle t.c t.a t.b in
      three (λ s. Every (λ r. Facing s r → (t ≡ s) × (u ≡ r)) (rotations u))
      (three (λ r. Facing t r → (t ≡ t) × (u ≡ r)) (λ g. (refl, refl))
      (λ g. absurd (d.ab (f.0 ∙ sym g.1))) (λ g. absurd (d.ab (g.0 ∙ sym f.1))))
      (three (λ r. Facing s₁ r → (t ≡ s₁) × (u ≡ r)) (λ g. absurd (d.ab (f.0 ∙ sym g.0)))
      (λ g. absurd (d.ca (g.1 ∙ sym f.0))) (λ g. absurd (apexes g.1)))
      (three (λ r. Facing s₂ r → (t ≡ s₂) × (u ≡ r)) (λ g. absurd (d.ab (g.1 ∙ sym f.1)))
      (λ g. absurd (apexes g.0)) (λ g. absurd (d.bc (f.1 ∙ sym g.0))))

-- of two triangles with D > 0 at most one rotation each shares its side ab with the other's
pub flip-side-unique : (t u : Triangle) → T (proper t) → T (proper u) → {s s' r r' : Triangle}
    → Memᴰ s (rotations t) → Memᴰ s' (rotations t) → Memᴰ r (rotations u) → Memᴰ r' (rotations u)
    → T (shares_side s r) → T (shares_side s' r') → (s ≡ s') × (r ≡ r')
flip-side-unique t u ht hu {s} {s'} {r} {r'} ms ms' mr mr' h h' =
    side-once s r (rotations-proper t ht s ms) (rotations-proper u hu r mr) ((shares_side-reflects s r).to h)
    s' (rotations-same t s ms s' ms') r' (rotations-same u r mr r' mr') ((shares_side-reflects s' r').to h')

module _ (table : Table) (i j : ℕ) (us : List Triangle) where
  -- the search finds the one pair that shares a side
  among-found : (ts : List Triangle) {s r : Triangle}
      → ((s' r' : Triangle) → Memᴰ s' ts → Memᴰ r' us → T (shares_side s' r') → (s ≡ s') × (r ≡ r'))
      → Memᴰ s ts → Memᴰ r us → T (shares_side s r) → flip_among table i j us ts ≡ flip_as table i j s r
  unfolding flip_among flip_with
  among-found [] one ms mr h = absurd (Memᴰ.not-nil ms)
  among-found (t ∷ ts) {s} {r} one ms mr h =
      go (first (λ u. shares_side t u) us) refl (among-found ts (λ s' r' m. one s' r' (Memᴰ.tail m)))
    where
      go : (o : Option Triangle) → first (λ u. shares_side t u) us ≡ o
          → (Memᴰ s ts → Memᴰ r us → T (shares_side s r) → flip_among table i j us ts ≡ flip_as table i j s r)
          → flip_with table i j t o (flip_among table i j us ts) ≡ flip_as table i j s r
      go none e rest = elim (Memᴰ.cases_cons ms) [
        | inl same ↦
            let no : shares_side t r ≡ false = first-none (λ u. shares_side t u) us e r mr in
            absurd (rw no at (subst (λ x. T (shares_side x r)) same h))
        | inr m ↦ rest m mr h
      ]
      go (some u) e rest =
          let f = first_found (λ u. shares_side t u) us e in
          let g = one t u (Memᴰ.head refl) f.0 f.1 in
          sym (ap₂ (λ x y. flip_as table i j x y) g.0 g.1)

  -- and refuses where there is none
  among_none : (ts : List Triangle) → Every (λ s. Every (λ r. shares_side s r ≡ false) us) ts → flip_among table i j us ts ≡ refused NoFlip
  unfolding flip_among flip_with
  among_none [] h = refl
  among_none (t ∷ ts) h =
      let g = every-uncons h in
      ap (λ o. flip_with table i j t o (flip_among table i j us ts)) (first-missed (λ u. shares_side t u) us g.0) ∙ among_none ts g.1

-- a flip is made of any rotations of its triangles that share the side ab
pub flip-found : (i j : ℕ) (table : Table) → Every (λ t. T (proper t)) table → i < length table → j < length table → {s r : Triangle}
    → Memᴰ s (rotations (numbered table i)) → Memᴰ r (rotations (numbered table j)) → T (shares_side s r)
    → flip_table i j table ≡ flip_as table i j s r
unfolding flip_table refuse_if
flip-found i j table good hi hj {s} {r} ms mr h =
    rw (lt-leb (length table) i hi, lt-leb (length table) j hj)
    (among-found table i j (rotations (numbered table j)) (rotations (numbered table i))
    (λ s' r' ms' mr' h'.
    flip-side-unique (numbered table i) (numbered table j) (numbered-proper table good i hi) (numbered-proper table good j hj) ms ms' mr mr' h h')
    ms mr h)

-- where no rotations of them do, it is refused
pub flip-unshared : (i j : ℕ) (table : Table) → i < length table → j < length table
    → Every (λ s. Every (λ r. shares_side s r ≡ false) (rotations (numbered table j))) (rotations (numbered table i))
    → flip_table i j table ≡ refused NoFlip
unfolding flip_table refuse_if
flip-unshared i j table hi hj h =
    rw (lt-leb (length table) i hi, lt-leb (length table) j hj)
    (among_none table i j (rotations (numbered table j)) (rotations (numbered table i)) h)
