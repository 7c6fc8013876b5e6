-- The neighbour on the other side of a side: what the search for it finds is the lowest numbered, and where it finds none there is none.
-- Assumes nothing.
use mathlib.Core.Path.{◌≡◌, refl, sym, subst}
use mathlib.Core.Bool.{false}
use mathlib.Core.List.{[], ◌∷◌, Memᴰ}
use mathlib.Core.Option.{Option, none, some}
use Prim.Native.Nat.{ℕ, zero, suc, ◌+◌, ◌<◌}
use native.Mathlib.Omega.{arith}
use lib.Dec.{T}
use lib.ListN.{length}
use Rattle.theory_lists.specs.Lists.{first}
use Rattle.theory_lists.proofs.ListsLaws.{Every, every-cons}
use Rattle.theory_lists.proofs.EveryLaws.{every-nil}
use Rattle.theory_lists.proofs.EditedLists.{first_found, first-none, none-some, some_same}
use Rattle.spec_plane.specs.Triangle.{Triangle, proper}
use Rattle.spec_charts.specs.Table.{Table, numbered}
use Rattle.spec_charts.specs.Edits.{rotations, shares_side, Neighbour, neighbour_or, neighbour_from}
use Rattle.laws_charts.proofs.RotationLaws.{rotations-apart, shares_side-reflects}

-- no rotation of a triangle has the side ab of t in the other direction
abbrev Apart : Triangle → Triangle → Type 0
Apart t u = Every (λ r. shares_side t r ≡ false) (rotations u)

-- u is the lowest numbered triangle that has a rotation with the side ab of t in the other direction, and that rotation; the triangles
-- are numbered from k on
record Lowest (t : Triangle) (k : ℕ) (table : Table) (u : Neighbour) : Type 0 where
  place : ℕ
  is : u.number ≡ k + place
  below : place < length table
  rotation : Memᴰ u.rotation (rotations (numbered table place))
  shares : T (shares_side t u.rotation)
  before : (j : ℕ) → j < place → Apart t (numbered table j)

lowest-found : (t : Triangle) (k : ℕ) (table : Table) {u : Neighbour} → neighbour_from t k table ≡ some u → Lowest t k table u
unfolding neighbour_from neighbour_or numbered
lowest-found t k [] e = absurd (none-some e)
lowest-found t k (v ∷ vs) {u} e = go (first (λ r. shares_side t r) (rotations v)) refl (lowest-found t (suc k) vs) e
  where
    go : (o : Option Triangle) → first (λ r. shares_side t r) (rotations v) ≡ o → (neighbour_from t (suc k) vs ≡ some u → Lowest t (suc k) vs u)
        → neighbour_or k o (neighbour_from t (suc k) vs) ≡ some u → Lowest t k (v ∷ vs) u
    go none f later e =
        let l = later e in
        record {
          place = suc l.place;
          is = omega (arith, l.is);
          below = omega (arith, l.below);
          rotation = l.rotation;
          shares = l.shares;
          before = passed l.before;
        }
      where
        passed : {m : ℕ} → ((j : ℕ) → j < m → Apart t (numbered vs j)) → (j : ℕ) → j < suc m → Apart t (numbered (v ∷ vs) j)
        passed h zero b = first-none (λ r. shares_side t r) (rotations v) f
        passed h (suc j) b = h j (omega arith)
    go (some r) f later e =
        let g = first_found (λ r. shares_side t r) (rotations v) f in
        subst (Lowest t k (v ∷ vs)) (some_same e) (record {
          place = 0;
          is = omega arith;
          below = omega arith;
          rotation = g.0;
          shares = g.1;
          before = λ j b. absurd (omega arith);
        })

-- the lowest numbered triangle of a table that rotates to (b,a,d), where t is (a,b,c), and that rotation
pub record NeighbourOf (t : Triangle) (table : Table) (u : Neighbour) : Type 0 where
  pub below : u.number < length table
  pub rotation : Memᴰ u.rotation (rotations (numbered table u.number))
  pub ab : t.a ≡ u.rotation.b
  pub ba : t.b ≡ u.rotation.a
  pub lowest : (j : ℕ) → j < u.number → Every (λ r. shares_side t r ≡ false) (rotations (numbered table j))

-- what is found is one
pub neighbour-found : (t : Triangle) (table : Table) {u : Neighbour} → neighbour_from t 0 table ≡ some u → NeighbourOf t table u
neighbour-found t table {u} e =
    let l = lowest-found t 0 table e in
    let s = (shares_side-reflects t u.rotation).to l.shares in
    let is : l.place ≡ u.number = omega (arith, l.is) in
    record {
      below = omega (arith, l.below);
      rotation = subst (λ j. Memᴰ u.rotation (rotations (numbered table j))) is l.rotation;
      ab = s.0;
      ba = s.1;
      lowest = λ j b. l.before j (omega arith);
    }

-- where none is found, no triangle rotates so
pub neighbour-missed : (t : Triangle) (k : ℕ) (table : Table) → neighbour_from t k table ≡ none
    → Every (λ u. Every (λ r. shares_side t r ≡ false) (rotations u)) table
unfolding neighbour_from neighbour_or
neighbour-missed t k [] e = every-nil (Apart t)
neighbour-missed t k (v ∷ vs) e = go (first (λ r. shares_side t r) (rotations v)) refl (neighbour-missed t (suc k) vs) e
  where
    go : (o : Option Triangle) → first (λ r. shares_side t r) (rotations v) ≡ o → (neighbour_from t (suc k) vs ≡ none → Every (Apart t) vs)
        → neighbour_or k o (neighbour_from t (suc k) vs) ≡ none → Every (Apart t) (v ∷ vs)
    go none f later e = every-cons (first-none (λ r. shares_side t r) (rotations v) f, later e)
    go (some r) f later e = absurd (none-some (sym e))

-- "other triangles": it is not the triangle of which t is a rotation
pub neighbour-other : {t : Triangle} {table : Table} {u : Neighbour} (i : ℕ) → T (proper (numbered table i)) → Memᴰ t (rotations (numbered table i))
    → NeighbourOf t table u → u.number ≡ i → ⊥
neighbour-other {t} {table} {u} i d r n e =
    rotations-apart (numbered table i) d t r u.rotation
    (subst (λ k. Memᴰ u.rotation (rotations (numbered table k))) e n.rotation) n.ab n.ba
