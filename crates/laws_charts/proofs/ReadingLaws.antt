-- What the soundness test means.
-- Assumes nothing.
use mathlib.Core.Path.{◌≡◌}
use mathlib.Core.Bool.{Bool, true, false, not, ◌||◌}
use Prim.Native.Nat.{ℕ, ◌<◌}
use lib.Dec.{T, eqb, T_not, not_T}
use lib.ListN.{length}
use Rattle.theory_lists.specs.Lists.{up_to}
use Rattle.theory_lists.proofs.Reflects.{Reflects, reflects-iff, reflects-eqb}
use Rattle.theory_lists.proofs.ListsLaws.{Every, all-reflects, up_to-to, up_to-from}
use Rattle.spec_plane.specs.Triangle.{proper}
use Rattle.spec_plane.specs.Interior.{CommonInterior, interiors_meet}
use Rattle.laws_separation.proofs.Separation.{interiors-meet-iff}
use Rattle.spec_charts.specs.Table.{Table, numbered}
use Rattle.spec_charts.specs.Reading.{sound}
use Rattle.laws_charts.proofs.TableLaws.{numbered-proper}

-- "no two different triangle numbers of the table have a point strictly inside both"
abbrev pub Sound : Table → Type 0
Sound table =
    (i j : ℕ) → i < length table → j < length table → (i ≡ j → ⊥) → CommonInterior (numbered table i) (numbered table j) → ⊥

-- different numbers, or no common interior point
abbrev Disjoint : Table → ℕ → ℕ → Type 0
Disjoint table i j = (i ≡ j → ⊥) → T (interiors_meet (numbered table i) (numbered table j)) → ⊥

disjoint-reflects : (i j : ℕ) (b : Bool) → Reflects (eqb i j || not b) ((i ≡ j → ⊥) → T b → ⊥)
disjoint-reflects i j b = go (eqb i j) (reflects-eqb i j)
  where
    go : (e : Bool) → Reflects e (i ≡ j) → Reflects (e || not b) ((i ≡ j → ⊥) → T b → ⊥)
    go true r = record { to = λ t n u. n (r.to tt); from = λ h. tt }
    go false r = record { to = λ t n u. T_not b t u; from = λ h. not_T b (h r.from) }

every-disjoint : (table : Table) → Reflects (sound table) (Every (λ i. Every (λ j. Disjoint table i j) (up_to (length table))) (up_to (length table)))
unfolding sound
every-disjoint table =
    all-reflects _ (λ i. all-reflects _ (λ j. disjoint-reflects i j (interiors_meet (numbered table i) (numbered table j))) (up_to (length table))) (up_to (length table))

module _ (table : Table) (good : Every (λ t. T (proper t)) table) where
  -- soundness is yes exactly when no two different triangle numbers have a common interior point
  pub sound-reflects : Reflects (sound table) (Sound table)
  sound-reflects =
      reflects-iff
      (λ e i j hi hj n c. e i (up_to-from hi) j (up_to-from hj) n ((interiors-meet-iff _ _ (numbered-proper table good i hi) (numbered-proper table good j hj)).0 c))
      (λ s i mi j mj n t.
      let hi = up_to-to mi in
      let hj = up_to-to mj in
      s i j hi hj n ((interiors-meet-iff _ _ (numbered-proper table good i hi) (numbered-proper table good j hj)).1 t))
      (every-disjoint table)
