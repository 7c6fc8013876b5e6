-- Triangles listed one after another: what is beyond the places of a full list stays.
-- Assumes nothing.
use mathlib.Core.Path.{◌≡◌, refl, ◌∙◌, ap}
use mathlib.Core.Bool.{Bool, true, false, not, cond}
use mathlib.Core.List.{List, [], ◌∷◌}
use Prim.Native.Nat.{ℕ, zero, suc, ◌+◌, ◌≤◌, ◌<◌}
use native.Mathlib.Omega.{arith}
use lib.ListN.{length, set, drop, length-set}
use Rattle.theory_lists.proofs.CompactLaws.{compact-none, compact-more}
use Rattle.spec_plane.specs.Box.{Box}
use Rattle.spec_charts.specs.Table.{max_triangles}
use Rattle.laws_charts.proofs.ProperLaws.{proper-fewer}
use Rattle.window_triangles.specs.Listed.{Listable, Listed}

-- a store leaves what comes after it
drop-set : (n : ℕ) (l : List ℕ) (i x : ℕ) → i < n → drop n (set l i x) ≡ drop n l
drop-set zero l i x h = absurd (omega arith)
drop-set (suc n) [] i x h = refl
drop-set (suc n) (y ∷ l) zero x h = refl
drop-set (suc n) (y ∷ l) (suc i) x h = drop-set n l i x (omega arith)

-- fewer triangles are there too
pub listable-fewer : (table : List ℕ) {w : Box} {near : List Bool} (m n : ℕ) → m ≤ n → Listable table w near n → Listable table w near m
listable-fewer table m n h a =
    let d = a.drawn in
    record {
      drawn = record { few = omega (arith, d.few); room = omega (arith, d.room); oriented = proper-fewer table m n d.oriented h };
      marks = omega (arith, a.marks);
      framed = a.framed;
    }

not-not : (b : Bool) → b ≡ not (not b)
not-not true = refl
not-not false = refl

module _ (f : ℕ → Bool) (before : List ℕ) where
  pub listed-none : Listed f before before 0 0
  listed-none = record { compact = compact-none f before; same = refl; beyond = refl }

  pub listed_more : {list : List ℕ} {i c : ℕ} → Listed f before list i c → i < max_triangles → max_triangles ≤ length before → (list' : List ℕ) (r : ℕ)
      → list' ≡ set list c i → r ≡ cond (not (f i)) c (c + 1) → Listed f before list' (i + 1) r
  listed_more {list} {i} {c} l few room list' r e g =
      let k = l.compact.few in
      record {
        compact = compact-more f l.compact (not (f i)) (not-not (f i)) list' r (omega (arith, l.same)) e g;
        same = ap length e ∙ length-set list c i ∙ l.same;
        beyond = ap (drop max_triangles) e ∙ drop-set max_triangles list c i (omega arith) ∙ l.beyond;
      }
