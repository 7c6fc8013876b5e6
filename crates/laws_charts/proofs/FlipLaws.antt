-- What an accepted flip is: its tests, passed, and the table that it makes.
-- The idea: each test only refuses, so a flip that is done has passed them all.
-- Assumes nothing.
use mathlib.Core.Path.{◌≡◌, refl, sym}
use mathlib.Core.Bool.{not, ◌&&◌, ◌||◌}
use mathlib.Core.List.{List, [], ◌∷◌, Memᴰ}
use mathlib.Core.Logic.{inl, inr}
use mathlib.Core.Option.{Option, none, some}
use Prim.Native.Nat.{ℕ, ◌≤◌, ◌<◌}
use native.Mathlib.Omega.{arith}
use lib.Dec.{T, leb}
use lib.ListN.{length, set}
use Rattle.theory_lists.specs.Lists.{first}
use Rattle.theory_lists.proofs.Reflects.{reflects-test, reflects-and, reflects-or, reflects-leb}
use Rattle.theory_lists.proofs.EditedLists.{first_found}
use Rattle.spec_plane.specs.Triangle.{Triangle, proper}
use Rattle.spec_charts.specs.Table.{Table, numbered}
use Rattle.spec_charts.specs.declared.Refusal.TheVariants.{NoSuchTriangle, NoFlip}
use Rattle.spec_charts.specs.Refusals.{done}
use Rattle.spec_charts.specs.Edits.{triangle, rotations, shares_side, flip_as, flip_with, flip_among, flip_table}
use Rattle.laws_charts.proofs.OutcomeLaws.{refused-done, done-same, refuse_if-done, passed}
use Rattle.laws_charts.proofs.RotationLaws.{shares_side-reflects}

-- i and j flipped, where t and u are their rotations that share a side
pub record Flipped (i j : ℕ) (table next : Table) : Type 0 where
  pub below_i : i < length table
  pub below_j : j < length table
  pub t : Triangle
  pub u : Triangle
  pub rotation_i : Memᴰ t (rotations (numbered table i))
  pub rotation_j : Memᴰ u (rotations (numbered table j))
  pub ab : t.a ≡ u.b
  pub ba : t.b ≡ u.a
  pub proper_i : T (proper (triangle t.a u.c t.c))
  pub proper_j : T (proper (triangle u.c t.b t.c))
  pub is : next ≡ set (set table i (triangle t.a u.c t.c)) j (triangle u.c t.b t.c)

-- two lists of triangles with a pair that shares a side and is flipped
record Shared (table next : Table) (i j : ℕ) (us ts : List Triangle) : Type 0 where
  t : Triangle
  u : Triangle
  in_t : Memᴰ t ts
  in_u : Memᴰ u us
  shares : T (shares_side t u)
  flips : flip_as table i j t u ≡ done next

among-done : (table next : Table) (i j : ℕ) (us ts : List Triangle) → flip_among table i j us ts ≡ done next → Shared table next i j us ts
unfolding flip_among flip_with
among-done table next i j us [] e = absurd (refused-done e)
among-done table next i j us (t ∷ ts) e = go (first (λ u. shares_side t u) us) refl (among-done table next i j us ts) e
  where
    go : (o : Option Triangle) → first (λ u. shares_side t u) us ≡ o
        → (flip_among table i j us ts ≡ done next → Shared table next i j us ts)
        → flip_with table i j t o (flip_among table i j us ts) ≡ done next → Shared table next i j us (t ∷ ts)
    go none f r e =
        let s = r e in
        record { t = s.t; u = s.u; in_t = Memᴰ.tail s.in_t; in_u = s.in_u; shares = s.shares; flips = s.flips }
    go (some u) f r e =
        let s = first_found (λ u. shares_side t u) us f in
        record { t = t; u = u; in_t = Memᴰ.head refl; in_u = s.0; shares = s.1; flips = e }

-- an accepted flip is one
pub flip-done : (i j : ℕ) (table next : Table) → flip_table i j table ≡ done next → Flipped i j table next
unfolding flip_table flip_as
flip-done i j table next e =
    let f = refuse_if-done (leb (length table) i || leb (length table) j) NoSuchTriangle e in
    let s = among-done table next i j _ _ f.1 in
    let t = s.t in
    let u = s.u in
    let both = proper (triangle t.a u.c t.c) && proper (triangle u.c t.b t.c) in
    let g = refuse_if-done (not both) NoFlip s.flips in
    let b = reflects-or (reflects-leb (length table) i) (reflects-leb (length table) j) in
    let p = (reflects-and (reflects-test (proper (triangle t.a u.c t.c))) (reflects-test (proper (triangle u.c t.b t.c)))).to (passed both g.0) in
    let q = (shares_side-reflects t u).to s.shares in
    let bi : length table ≤ i → ⊥ = λ h. f.0 (b.from (inl h)) in
    let bj : length table ≤ j → ⊥ = λ h. f.0 (b.from (inr h)) in
    record {
      below_i = omega arith;
      below_j = omega arith;
      t = t;
      u = u;
      rotation_i = s.in_t;
      rotation_j = s.in_u;
      ab = q.0;
      ba = q.1;
      proper_i = p.0;
      proper_j = p.1;
      is = sym (done-same g.1);
    }
