-- What the pairs of an overlay are: exactly the pairs of triangles that have a common interior point and are listed in
-- overlapping cells, each once, ascending.
-- The idea: the list is built from all pairs of numbers, in ascending order, by a test that decides the claim.
-- Assumes nothing.
use mathlib.Core.Path.{◌≡◌, refl}
use mathlib.Core.List.Memᴰ
use mathlib.Core.List.{List, map, Memᴰ}
use mathlib.Core.Logic.{◌↔◌, inl, inr}
use Prim.Native.Nat.{ℕ, ◌<◌}
use native.Mathlib.Omega.{arith}
use lib.Dec.{T}
use lib.ListN.{length, get_or}
use Rattle.theory_lists.specs.Lists.{filter, up_to}
use Rattle.theory_lists.proofs.Reflects.{Reflects, reflects-and}
use Rattle.theory_lists.proofs.ListsLaws.{Every, up_to-to, up_to-from}
use Rattle.theory_lists.proofs.EveryLaws.{every_map}
use Rattle.theory_lists.proofs.MemberLaws.{filter-to, filter-from, flat_map-to, flat_map-from}
use Rattle.theory_lists.proofs.Order.{Ordered, ordered-imp, ordered-map, ordered-filter}
use Rattle.theory_lists.proofs.OrderLaws.{ordered-flat_map, up_to-ordered, ordered-once, ordered-unique}
use Rattle.theory_orthtree.specs.Entries.{Entry}
use Rattle.theory_orthtree.proofs.TogetherLaws.{ListedTogether, listed_together-reflects}
use Rattle.spec_plane.specs.Triangle.{proper}
use Rattle.spec_plane.specs.Interior.{CommonInterior, interiors_meet}
use Rattle.laws_separation.proofs.Separation.{interiors-meet-iff}
use Rattle.spec_squares.specs.Square.{arity, depth}
use Rattle.spec_charts.specs.Table.{Table, numbered}
use Rattle.spec_charts.specs.Overlay.{Pair, pair, Earlier, pair_listed, pairs_listed}
use Rattle.laws_charts.proofs.TableLaws.{numbered-proper}

-- "a cell listing i and a cell listing j overlap so and some point is strictly inside both triangles", where i and j are numbers of
-- the two tables
pub record Shared (s : Table) (es : List Entry) (t : Table) (fs : List Entry) (i j : ℕ) : Type 0 where
  pub first : i < length s
  pub second : j < length t
  pub listed : ListedTogether arity depth es fs i j
  pub common : CommonInterior (numbered s i) (numbered t j)

-- of two pairs not both are the earlier one
earlier-asym : (p q : Pair) → Earlier p q → Earlier q p → ⊥
earlier-asym p q (inl h) (inl g) = omega arith
earlier-asym p q (inl h) (inr g) = omega arith
earlier-asym p q (inr h) (inl g) = omega arith
earlier-asym p q (inr h) (inr g) = omega arith

module _ (s : Table) (es : List Entry) (t : Table) (fs : List Entry) where
  -- the numbers j listed with i, and their pairs
  abbrev partners : ℕ → List ℕ
  partners i = filter (λ j. pair_listed s es t fs i j) (up_to (length t))

  abbrev row : ℕ → List Pair
  row i = map (λ j. pair i j) (partners i)

  -- the numbers of a pair that is listed are numbers of the tables that pass the test
  pub pairs-to : {p : Pair} → Memᴰ p (pairs_listed s es t fs)
      → (p.i < length s) × ((p.j < length t) × T (pair_listed s es t fs p.i p.j))
  unfolding pairs_listed
  pairs-to {p} m =
      let a = flat_map-to row (up_to (length s)) m in
      let b = Memᴰ.of_map (λ j. pair a.value j) (partners a.value) a.has in
      let c = filter-to (λ j. pair_listed s es t fs a.value j) (up_to (length t)) b.1 in
      rw (← b.2) (up_to-to a.member, (up_to-to c.0, c.1))

  -- and all such pairs are listed
  pub pairs-from : {i j : ℕ} → i < length s → j < length t → T (pair_listed s es t fs i j) → Memᴰ (pair i j) (pairs_listed s es t fs)
  unfolding pairs_listed
  pairs-from {i} {j} hi hj h =
      flat_map-from row (up_to (length s)) (up_to-from hi)
      (Memᴰ.map (λ k. pair i k) (filter-from (λ k. pair_listed s es t fs i k) (up_to (length t)) (up_to-from hj) h))

  rows-ascend : (i k : ℕ) → i < k → Every (λ p. Every (λ q. Earlier p q) (row k)) (row i)
  rows-ascend i k h =
      every_map (λ p. Every (λ q. Earlier p q) (row k)) (λ j. pair i j) (partners i) (λ j m.
      every_map (λ q. Earlier (pair i j) q) (λ l. pair k l) (partners k) (λ l n. inl h))

  row-ascends : (i : ℕ) → Ordered (λ p q. Earlier p q) (row i)
  row-ascends i =
      ordered-map (λ j. pair i j)
      (ordered-imp (λ j l h. inr (refl, h.0)) (ordered-filter (λ j. pair_listed s es t fs i j) (up_to-ordered (length t))))

  -- the pairs ascend by i, then j, whatever the tables and entries are
  pub pairs-ascend : Ordered (λ p q. Earlier p q) (pairs_listed s es t fs)
  unfolding pairs_listed
  pairs-ascend = ordered-flat_map row rows-ascend row-ascends (up_to-ordered (length s))

  -- "none twice": different places of the list hold different pairs
  pub pairs-once : (m n : ℕ) (d : Pair) → m < n → n < length (pairs_listed s es t fs)
      → get_or (pairs_listed s es t fs) m d ≡ get_or (pairs_listed s es t fs) n d → ⊥
  pairs-once = ordered-once (λ p h. earlier-asym p p h h) pairs-ascend

  module _ (good : Every (λ r. T (proper r)) s) (fine : Every (λ r. T (proper r)) t) where
    -- the test on two triangle numbers decides that the two have a common interior point and are listed in overlapping cells
    pub pair_listed-reflects : (i j : ℕ) → i < length s → j < length t
        → Reflects (pair_listed s es t fs i j) (CommonInterior (numbered s i) (numbered t j) × ListedTogether arity depth es fs i j)
    unfolding pair_listed
    pair_listed-reflects i j hi hj =
        let e = interiors-meet-iff (numbered s i) (numbered t j) (numbered-proper s good i hi) (numbered-proper t fine j hj) in
        let r : Reflects (interiors_meet (numbered s i) (numbered t j)) (CommonInterior (numbered s i) (numbered t j)) =
        record { to = e.1; from = e.0 }
        in
        reflects-and r (listed_together-reflects arity depth (omega arith) es fs i j)

    -- "A pair is listed exactly when a cell listing i and a cell listing j overlap so and some point is strictly inside both
    -- triangles"
    pub pairs-listed-iff : (i j : ℕ) → Memᴰ (pair i j) (pairs_listed s es t fs) ↔ Shared s es t fs i j
    pairs-listed-iff i j = (
      λ m.
          let h = pairs-to m in
          let c = (pair_listed-reflects i j h.0 h.1.0).to h.1.1 in
          record { first = h.0; second = h.1.0; listed = c.1; common = c.0 },
      λ h. pairs-from h.first h.second ((pair_listed-reflects i j h.first h.second).from (h.common, h.listed)),
    )

    -- the pairs that have a common interior point and their order determine the list
    pub pairs-unique : (ps : List Pair) → Ordered (λ p q. Earlier p q) ps → ((i j : ℕ) → Memᴰ (pair i j) ps ↔ Shared s es t fs i j)
        → ps ≡ pairs_listed s es t fs
    pairs-unique ps o e =
        ordered-unique earlier-asym o pairs-ascend (λ p m. (pairs-listed-iff p.i p.j).1 ((e p.i p.j).0 m))
        (λ p m. (e p.i p.j).1 ((pairs-listed-iff p.i p.j).0 m))
