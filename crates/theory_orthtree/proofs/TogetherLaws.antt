-- What it means that two items are listed together.
-- Assumes nothing.
use mathlib.Core.Path.{◌≡◌}
use mathlib.Core.List.{List, Memᴰ}
use Prim.Native.Nat.{ℕ, ◌<◌}
use lib.Dec.{eqb}
use Rattle.theory_lists.specs.Lists.{filter}
use Rattle.theory_lists.proofs.Reflects.{Reflects, reflects-iff, reflects-eqb}
use Rattle.theory_lists.proofs.ListsLaws.{Some, any-reflects}
use Rattle.theory_lists.proofs.MemberLaws.{some-filter-to, some-filter-from}
use Rattle.theory_orthtree.specs.Entries.{Entry, listed_together}
use Rattle.theory_orthtree.proofs.EntriesLaws.{CommonKey, overlaps-reflects}

-- "a cell listing i and a cell listing j overlap so": an entry of the first list has the item i, one of the second has the
-- item j, and the key ranges of their cells have a key in common
pub record ListedTogether (arity depth : ℕ) (es fs : List Entry) (i j : ℕ) : Type 0 where
  pub first : Entry
  pub second : Entry
  pub first_listed : Memᴰ first es
  pub second_listed : Memᴰ second fs
  pub first_item : first.item ≡ i
  pub second_item : second.item ≡ j
  pub common : CommonKey arity depth first second

-- the entries with an item
abbrev listing : List Entry → ℕ → List Entry
listing es i = filter (λ e. eqb e.item i) es

module _ (arity depth : ℕ) (es fs : List Entry) (i j : ℕ) where
  together-to : Some (λ e. Some (λ f. CommonKey arity depth e f) (listing fs j)) (listing es i) → ListedTogether arity depth es fs i j
  together-to s =
      let a = some-filter-to (λ e. eqb e.item i) es s in
      let b = some-filter-to (λ f. eqb f.item j) fs a.has.1 in
      record {
        first = a.value;
        second = b.value;
        first_listed = a.member;
        second_listed = b.member;
        first_item = (reflects-eqb a.value.item i).to a.has.0;
        second_item = (reflects-eqb b.value.item j).to b.has.0;
        common = b.has.1;
      }

  together-from : ListedTogether arity depth es fs i j → Some (λ e. Some (λ f. CommonKey arity depth e f) (listing fs j)) (listing es i)
  together-from t =
      some-filter-from (λ e. eqb e.item i) es (record {
        value = t.first;
        member = t.first_listed;
        has = (
          (reflects-eqb t.first.item i).from t.first_item,
          some-filter-from (λ f. eqb f.item j) fs (record {
            value = t.second;
            member = t.second_listed;
            has = ((reflects-eqb t.second.item j).from t.second_item, t.common);
          }),
        );
      })

-- the test decides it
pub listed_together-reflects : (arity depth : ℕ) → 0 < arity → (es fs : List Entry) (i j : ℕ)
    → Reflects (listed_together arity depth es fs i j) (ListedTogether arity depth es fs i j)
unfolding listed_together
listed_together-reflects arity depth pos es fs i j =
    reflects-iff (together-to arity depth es fs i j) (together-from arity depth es fs i j)
    (any-reflects _ (λ e. any-reflects _ (overlaps-reflects arity depth pos e) (listing fs j)) (listing es i))
