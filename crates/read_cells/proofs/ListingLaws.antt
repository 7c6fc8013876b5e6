-- The listing of the cell that has a key, as a part of the list of items: the two places are what two searches in the keys find.
-- The idea: the cell's entries are the part of the entries between the two places, so its items are that part of the items,
-- unless its one entry is the mark. The places of its items are those between the two.
-- Assumes nothing.
use mathlib.Core.Path.{◌≡◌, sym, ◌∙◌, ap}
use mathlib.Core.Bool.{Bool, true, not, ◌&&◌}
use mathlib.Core.List.{List, [], map}
use Prim.Native.Nat.{ℕ, ◌+◌, ◌-◌, ◌<◌}
use native.Mathlib.Omega.{arith}
use lib.Dec.{T}
use lib.ListN.{length, get_or, take, drop}
use Rattle.theory_lists.specs.Lists.{filter, places_from, count_from}
use Rattle.theory_lists.proofs.Reflects.{reflects-and, reflects-no, reflects-iff}
use Rattle.theory_lists.proofs.PartLaws.{part-map, part-places}
use Rattle.theory_orthtree.specs.Entries.{Entry, empty_mark, is_mark, span, covers, chain}
use Rattle.theory_orthtree.proofs.EntriesLaws.{no_entry}
use Rattle.theory_orthtree.proofs.ChainLaws.{is_mark-reflects}
use Rattle.spec_calls.specs.Buffers.{Roomy, zip_entries}
use Rattle.laws_calls.proofs.EntriesLaws.{first_count, first-at}
use Rattle.read_cells.specs.Keys.{Listable, Passes}
use Rattle.read_cells.proofs.CellLaws.{CellPart, chain-starts, keys-rise, cell-part}
use Rattle.theory_orthtree.proofs.MarkLaws.{all-items, all-marks, items_kept, mark-dropped}

-- three lists have n entries, which satisfy the chain rule
pub record ChainLists (arity depth count : ℕ) (ks ls is : List ℕ) (n : ℕ) : Type 0 where
  pub room : Roomy n ks ls is
  pub rule : chain arity depth count (take n (zip_entries ks ls is)) ≡ true

-- the items of entries
abbrev items_of : List Entry → List ℕ
items_of es = map (λ e. e.item) es

-- the entries that are no marks
abbrev unmarked : List Entry → List Entry
unmarked es = filter (λ e. not (is_mark e)) es

-- the entry is an item of the cell that has the key
abbrev listed_at : ℕ → ℕ → ℕ → Entry → Bool
listed_at arity depth k e = covers arity depth k e && not (is_mark e)

module _ {arity depth count : ℕ} {ks ls is : List ℕ} {n : ℕ} (pos : 0 < arity) (r : ChainLists arity depth count ks ls is n) where
  -- the entries
  abbrev es : List Entry
  es = take n (zip_entries ks ls is)

  chained : T (chain arity depth count es)
  chained = rw r.rule tt

  es-length : length es ≡ n
  es-length = first_count ks ls is n r.room.for_keys r.room.for_levels r.room.for_items

  -- by places
  es-at : (i : ℕ) → i < n → get_or es i no_entry ≡ record { key = get_or ks i 0; level = get_or ls i 0; item = get_or is i 0 }
  es-at i l = first-at ks ls is n r.room.for_keys r.room.for_levels r.room.for_items no_entry i l

  key-at : (i : ℕ) → i < n → (get_or es i no_entry).key ≡ get_or ks i 0
  key-at i l = ap (λ e. e.key) (es-at i l)

  item-at : (i : ℕ) → i < n → (get_or es i no_entry).item ≡ get_or is i 0
  item-at i l = ap (λ e. e.item) (es-at i l)

  -- the keys and items can be searched
  pub listable : Listable ks is n
  listable =
      let first = chain-starts arity depth count pos es chained no_entry in
      let some : 0 < n = omega (arith, es-length, first.0) in
      record {
        some = some;
        for_keys = r.room.for_keys;
        for_items = r.room.for_items;
        starts = sym (key-at 0 some) ∙ first.1;
        rises = keys-rise arity depth count pos es chained no_entry ks n es-length key-at;
      }

  module _ {k to : ℕ} (p : Passes ks n (k + 1) to) (low : k < span arity depth 0) where
    module _ {from : ℕ} (q : Passes ks n (get_or ks (to - 1) 0) from) where
      -- the entries of the cell that has the key
      part : CellPart arity depth k es no_entry from to
      part = cell-part arity depth count pos es chained no_entry ks n es-length key-at k to p low from q

      first-item : (get_or es from no_entry).item ≡ get_or is from 0
      first-item = item-at from (omega (arith, part.some, p.within))

      -- its items are the part of the items between the two places
      pub items-listed : (get_or is from 0 ≡ empty_mark → ⊥) → take (to - from) (drop from is) ≡ items_of (unmarked (filter (λ e. covers arity depth k e) es))
      items-listed m =
          let h = part.some in
          let w = p.within in
          part-map (λ e. e.item) es is no_entry from to (omega arith) part.within (omega (arith, r.room.for_items)) (λ i l. item-at i (omega arith))
          ∙ ap items_of (sym (items_kept arity depth count no_entry pos es chained from to h part.within part.key (λ e. m (sym first-item ∙ e))))
          ∙ ap (λ l. items_of (unmarked l)) (sym part.entries)

      -- none where the first entry is the mark
      pub none-listed : get_or is from 0 ≡ empty_mark → [] ≡ items_of (unmarked (filter (λ e. covers arity depth k e) es))
      none-listed m =
          sym (ap (λ l. items_of (unmarked l)) part.entries
          ∙ ap items_of (mark-dropped arity depth count no_entry pos es chained from to part.some part.within part.key (first-item ∙ m)))

      -- an entry is an item of the cell exactly if its place is between the two
      pub items-places : (get_or is from 0 ≡ empty_mark → ⊥) → places_from (listed_at arity depth k) 0 es ≡ count_from from (to - from)
      items-places m =
          let h = part.some in
          part-places (listed_at arity depth k) no_entry es from (to - from) (omega (arith, part.within)) (λ i l.
          reflects-iff (λ g. (g.0.0, omega (arith, g.0.1)))
          (λ g. (
            (g.0, omega (arith, g.1)),
            all-items arity depth count no_entry pos es chained from to h part.within part.key (λ e. m (sym first-item ∙ e)) i g.0 (omega (arith, g.1)),
          ))
          (reflects-and (part.places i l) (reflects-no (is_mark-reflects (get_or es i no_entry)))))

      -- none is where the first entry is the mark
      pub none-places : get_or is from 0 ≡ empty_mark → places_from (listed_at arity depth k) 0 es ≡ count_from 0 0
      none-places m =
          part-places (listed_at arity depth k) no_entry es 0 0 (omega arith) (λ i l.
          reflects-iff
          (λ g. absurd (g.1 (all-marks arity depth count no_entry pos es chained from to part.some part.within part.key (first-item ∙ m) i g.0.0 g.0.1)))
          (λ g. absurd (omega (arith, g.1)))
          (reflects-and (part.places i l) (reflects-no (is_mark-reflects (get_or es i no_entry)))))
