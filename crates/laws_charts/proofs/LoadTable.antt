-- An accepted load leaves a table of document 01.
-- The idea: its length is tested, each triangle's D is tested, and its numbers are the numbers given.
-- Assumes nothing.
use mathlib.Core.Path.{◌≡◌, refl, ◌∙◌, subst}
use mathlib.Core.Bool.{Bool, true, false, not, ◌||◌}
use mathlib.Core.List.{List, [], ◌∷◌}
use Prim.Native.Nat.{ℕ, ◌*◌, ◌/◌, ◌%◌, ◌≤◌, ◌<◌}
use native.Mathlib.Omega.{arith}
use lib.Dec.{T, ltb, eqb, eqb→eq, lt→ltb}
use lib.ListN.{length}
use lib.Seq.{take-length}
use Rattle.theory_lists.proofs.Reflects.{reflects-test}
use Rattle.theory_lists.proofs.ListsLaws.{Every, all-reflects}
use Rattle.theory_lists.proofs.EveryLaws.{every-imp}
use Rattle.theory_lists.proofs.EditedLists.{places-none}
use Rattle.spec_plane.specs.Triangle.{proper}
use Rattle.spec_charts.specs.Table.{Table, IsTable, max_triangles, table_length, table_of, table_numbers, sixteen_bit, numbers_per_triangle}
use Rattle.spec_charts.specs.declared.Refusal.TheVariants.{BadLength}
use Rattle.spec_charts.specs.Refusals.{done}
use Rattle.spec_charts.specs.Edits.{faulty, refuse_faulty, given_table, load_table}
use Rattle.laws_charts.proofs.TableLaws.{table_of-length, table_numbers-take}
use Rattle.laws_charts.proofs.OutcomeLaws.{refused-done, done-same, refuse_if-done}

faulty-done : (is : List ℕ) (table next : Table) → refuse_faulty is table ≡ done next → (is ≡ []) × (table ≡ next)
unfolding refuse_faulty
faulty-done [] table next e = (refl, done-same e)
faulty-done (i ∷ is) table next e = absurd (refused-done e)

proper-not : (b : Bool) → not b ≡ false → T b
proper-not true e = tt
proper-not false e = let z : ◌≡◌ {A = ℕ} 0 1 = cc in absurd (omega arith)

or-none : (x y : Bool) → (T (not x || y) → ⊥) → T x × (T y → ⊥)
or-none true y n = (tt, n)
or-none false y n = absurd (n tt)

-- what an accepted load leaves
pub record LoadDone (ns : List ℕ) (next : Table) : Type 0 where
  pub few : length next ≤ max_triangles
  pub oriented : Every (λ t. T (proper t)) next
  pub numbers : table_numbers next ≡ ns

pub load-done : (ns : List ℕ) (next : Table) → load_table ns ≡ done next → LoadDone ns next
unfolding load_table given_table faulty
load-done ns next e =
    let n = length ns / numbers_per_triangle in
    let f = refuse_if-done (not (eqb (length ns % numbers_per_triangle) 0) || ltb table_length (length ns)) BadLength e in
    let g = or-none (eqb (length ns % numbers_per_triangle) 0) (ltb table_length (length ns)) f.0 in
    let m = eqb→eq (length ns % numbers_per_triangle) 0 g.0 in
    let few : table_length < length ns → ⊥ = λ l. g.1 (lt→ltb table_length (length ns) l) in
    let r = faulty-done _ _ _ f.1 in
    let s = places-none (λ t. not (proper t)) 0 (table_of ns n) r.0 in
    let whole : numbers_per_triangle * n ≡ length ns = omega arith in
    subst (LoadDone ns) r.1 (record {
      few = omega (arith, table_of-length ns n);
      oriented = every-imp (λ t. proper-not (proper t)) s;
      numbers = table_numbers-take ns n (omega arith) ∙ rw (whole, take-length ns);
    })

-- an accepted load of 16-bit numbers leaves a table
pub load-table : (ns : List ℕ) (next : Table) → T (sixteen_bit ns) → load_table ns ≡ done next → IsTable next
load-table ns next h e =
    let l = load-done ns next e in
    record {
      few = l.few;
      oriented = (all-reflects (λ t. proper t) (λ t. reflects-test (proper t)) next).from l.oriented;
      words = rw l.numbers h;
    }
