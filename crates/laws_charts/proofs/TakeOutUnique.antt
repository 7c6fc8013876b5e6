-- A take-out does not depend on the order of the other two triangles: three triangles close round a point in one order only.
-- The idea: in both orders two corners of a triangle would be equal.
-- Assumes nothing.
use mathlib.Core.Path.{◌≡◌, refl, sym, ◌∙◌}
use mathlib.Core.Bool.{Bool, true, false}
use Prim.Native.Nat.{ℕ}
use lib.Dec.{T}
use Rattle.spec_plane.specs.Triangle.{Triangle, proper}
use Rattle.spec_charts.specs.Table.{Table}
use Rattle.spec_charts.specs.declared.Refusal.TheVariants.{NotThreeAround}
use Rattle.spec_charts.specs.Refusals.{Outcome, refused, done}
use Rattle.spec_charts.specs.Edits.{triangle, closes_round, merge_around, merge_three}
use Rattle.laws_charts.proofs.RotationLaws.{corners-apart}
use Rattle.laws_charts.proofs.EditLaws.{closes}

-- three triangles close round in one order only
pub closes-once : (t u v : Triangle) → T (proper u) → T (closes_round t u v) → T (closes_round t v u) → ⊥
closes-once t u v hu h g =
    let c = closes t u v h in
    let d = closes t v u g in
    (corners-apart u hu).ab (c.ub ∙ sym d.ub ∙ c.vc)

-- so it does not matter which of the other two comes first
pub merge-either : (table : Table) (i j k : ℕ) (t u v : Triangle) → T (proper u) → merge_three table i j k t u v ≡ merge_three table i j k t v u
unfolding merge_three
merge-either table i j k t u v hu = go (closes_round t u v) (closes_round t v u) (closes-once t u v hu)
  where
    go : (b d : Bool) → (T b → T d → ⊥)
        → ◌≡◌ {A = Outcome Table}
        (elim b [
          | true ↦ done (merge_around table i j k (triangle t.a t.b u.b))
          | false ↦ elim d [ true ↦ done (merge_around table i j k (triangle t.a t.b v.b)) | false ↦ refused NotThreeAround ]
        ])
        (elim d [
          | true ↦ done (merge_around table i j k (triangle t.a t.b v.b))
          | false ↦ elim b [ true ↦ done (merge_around table i j k (triangle t.a t.b u.b)) | false ↦ refused NotThreeAround ]
        ])
    go true true n = absurd (n tt tt)
    go true false n = refl
    go false true n = refl
    go false false n = refl
