-- A run of entries, from a place where a list that satisfies the chain rule is cut at a key to where the keys reach the end of the
-- larger of two cells that start there, this list's or another's: the list is cut at its end too.
-- The idea: in a chain a cell ends where the next key begins, or at the tree's end. Two aligned ranges with a key in common are nested; so
-- no cell that starts in the larger one goes over its end: it would hold it, so start where it starts, but the cell that
-- starts there is no larger.
-- Assumes nothing.
use mathlib.Core.Path.{◌≡◌, refl, sym, ◌∙◌, ap}
use mathlib.Core.List.{List, Memᴰ}
use mathlib.Core.Logic.{inl, inr}
use Prim.Native.Nat.{ℕ, zero, suc, ◌-◌, ◌%◌, ◌≤◌, ◌<◌}
use native.Mathlib.Decide.{dec_le}
use native.Mathlib.Omega.{arith}
use lib.Dec.{T}
use lib.ListN.{length, get_or, take, drop}
use Rattle.theory_lists.proofs.ListsLaws.{Every, get_or-member}
use Rattle.theory_lists.proofs.PartLaws.{part-every}
use Rattle.theory_orthtree.specs.Entries.{Entry, span, range_end, chain}
use Rattle.theory_orthtree.proofs.EntriesLaws.{span-positive}
use Rattle.theory_orthtree.proofs.RangeLaws.{Within, spans-nested}
use Rattle.theory_orthtree.proofs.ChainLaws.{SameCell, same_end, Follows}
use Rattle.theory_orthtree.proofs.ChainOrderLaws.{Before, chain_fits, chain-keys-rise, chain-apart}
use Rattle.theory_orthtree.specs.KeyCells.{CellEnd, RunEnd, key_from}
use Rattle.theory_orthtree.proofs.PlaceLaws.{take-every, drop-every, take_at, drop_at, place-any}
use Rattle.theory_orthtree.proofs.ChainPlaces.{chain-step, chain-last, chain-places, chain-within}
use Rattle.theory_orthtree.proofs.KeyCellsLaws.{from_key, from_end, KeysOf, keys-at}
use Rattle.theory_orthtree.proofs.CutLaws.{Cut}

module _ (arity depth : ℕ) (pos : 0 < arity) where
  -- a cell ends after it starts
  pub starts-before : (e : Entry) → e.key < range_end arity depth e
  unfolding range_end
  starts-before e = let p = span-positive arity depth e.level pos in omega arith

  -- a later entry with the same key is of the same cell
  same_key : {e f : Entry} → Before arity depth e f → e.key ≡ f.key → SameCell e f
  same_key (inl n) h = n.cell
  same_key {e} {f} (inr l) h = absurd (let s = starts-before e in omega arith)

  -- the range of the cell that starts at k and ends at e, of the one list or of the other
  pub record Larger (k e : ℕ) : Type 0 where
    pub cell : Entry
    pub aligned : cell.key % span arity depth cell.level ≡ 0
    pub starts : cell.key ≡ k
    pub ends : range_end arity depth cell ≡ e
    pub in_tree : e ≤ span arity depth 0

  module _ (count : ℕ) (es : List Entry) (rule : T (chain arity depth count es)) (d : Entry) where
    -- the entry at a place
    abbrev at : ℕ → Entry
    at i = get_or es i d

    -- equal keys are of one cell, and so end at one key
    same_ends : (i j : ℕ) → i ≤ j → j < length es → (at j).key ≡ (at i).key → range_end arity depth (at j) ≡ range_end arity depth (at i)
    same_ends i j h l e = elim (dec_le j i) [
      | yes g ↦ let q : j ≡ i = omega arith in ap (λ n. range_end arity depth (at n)) q
      | no g ↦ sym (same_end arity depth (same_key (chain-places arity depth d count pos es rule i j (omega arith) l) (sym e)))
    ]

    next-end : (e f : Entry) → Follows arity depth e f → (f.key ≡ e.key → ⊥) → f.key ≡ range_end arity depth e
    next-end e f (inl n) h = absurd (h (sym n.cell.key))
    next-end e f (inr q) h = q

    module _ {ks : List ℕ} {n : ℕ} (keys : KeysOf ks n es) where
      -- the key at the end of a cell is where its range ends
      pub cell-ends : (a p : ℕ) → CellEnd ks n a p → key_from ks n (span arity depth 0) p ≡ range_end arity depth (at a)
      cell-ends a zero c = absurd (omega (arith, c.after))
      cell-ends a (suc j) c =
          let low : a ≤ j = omega (arith, c.after) in
          let inner : j < n = omega (arith, c.within) in
          let within : j < length es = omega (arith, keys.count) in
          let same = c.same j low (omega arith) in
          let at_a = keys-at keys d a (omega arith) in
          let at_j = keys-at keys d j inner in
          let e = same_ends a j low within (omega arith) in
          elim (dec_le n (suc j)) [
            | yes h ↦ let s : suc j ≡ length es = omega (arith, keys.count) in
                from_end ks n (span arity depth 0) (suc j) h ∙ sym (chain-last arity depth d count pos es rule j s) ∙ e
            | no h ↦ let l : suc j < n = omega arith in
                let at_next = keys-at keys d (suc j) l in
                let s = next-end (at j) (at (suc j)) (chain-step arity depth d count pos es rule j (omega (arith, keys.count)))
                (λ q. c.other l (omega arith)) in
                from_key ks n (span arity depth 0) (suc j) l ∙ at_next ∙ s ∙ e
          ]

      module _ {k a : ℕ} (cut : Cut arity depth k a es) (more : a < length es) {e : ℕ} (g : Larger k e) (reach : range_end arity depth (at a) ≤ e) where
        -- the cell at a, the first from the key on
        at-start : (at a).key ≡ k
        at-start = cut.starts d more

        -- a cell that starts in the larger range does not go over its end
        ends-in : (x : Entry) → Memᴰ x es → k ≤ x.key → x.key < e → range_end arity depth x ≤ e
        unfolding range_end
        ends-in x m h l =
            let fit = chain_fits arity depth count pos es rule x m in
            let u = starts-before x in
            let inner : Within x.key (span arity depth x.level) x.key = record { starts = omega arith; ends = u } in
            let outer : Within g.cell.key (span arity depth g.cell.level) x.key =
            record { starts = omega (arith, g.starts); ends = omega (arith, g.ends) } in
            elim (dec_le g.cell.level x.level) [
              | yes deep ↦ let i = spans-nested arity depth x.level g.cell.level deep fit.aligned g.aligned inner outer in
                  omega (arith, i.ends, g.ends)
              | no high ↦ let i = spans-nested arity depth g.cell.level x.level (omega arith) g.aligned fit.aligned outer inner in
                  let low : x.key ≤ k = omega (arith, i.starts, g.starts) in
                  let v = starts-before (at a) in
                  let c = chain-apart arity depth count pos es rule m (get_or-member es a d more) (record {
                    key = k;
                    first = record { starts = low; ends = omega arith };
                    second = record { starts = omega (arith, at-start); ends = omega (arith, at-start) };
                  }) in
                  omega (arith, same_end arity depth c)
            ]

        module _ {r : ℕ} (run : RunEnd ks n a e r) where
          -- the entries of the run start in the larger range
          run-starts : (i : ℕ) → a ≤ i → i < r → (k ≤ (at i).key) × ((at i).key < e)
          run-starts i h l =
              let w : i < n = omega (arith, run.within) in (
                drop_at (λ x. k ≤ x.key) es d a cut.later i h (omega (arith, keys.count)),
                omega (arith, run.below i h l, keys-at keys d i w),
              )

          -- the run has an entry
          pub run-grows : a < r
          run-grows = elim (dec_le r a) [
            | yes h ↦ absurd (
                let q : r ≡ a = omega (arith, run.from) in
                let w : r < n = omega (arith, keys.count) in
                omega (arith, run.reached w, keys-at keys d r w, ap (λ i. (at i).key) q, at-start, starts-before (at a)))
            | no h ↦ omega arith
          ]

          -- the entries before the end of the run end in the larger range
          run-ended : (i : ℕ) → i < r → range_end arity depth (at i) ≤ e
          run-ended i l = elim (dec_le a i) [
            | yes h ↦ let s = run-starts i h l in
                ends-in (at i) (get_or-member es i d (omega (arith, run.within, keys.count))) s.0 s.1
            | no h ↦ omega (arith, take_at (λ x. range_end arity depth x ≤ k) es d a cut.ended i (omega arith) (omega arith), at-start, starts-before (at a))
          ]

          -- those from there on start where it ends or after that
          run-later : (i : ℕ) → r ≤ i → i < length es → e ≤ (at i).key
          run-later i h l =
              let w : r < n = omega (arith, keys.count) in
              let z = run.reached w in
              let y = keys-at keys d r w in
              elim (dec_le i r) [
                | yes g ↦ let q : i ≡ r = omega arith in omega (arith, ap (λ j. (at j).key) q)
                | no g ↦ omega (arith, chain-keys-rise arity depth count pos es rule r i d (omega arith) l)
              ]

          step-key : (j : ℕ) → suc j ≡ r → suc j < length es → Follows arity depth (at j) (at (suc j)) → (at (suc j)).key ≡ e
          step-key j q l (inl n) =
              absurd (let s = run-starts j (omega (arith, run-grows)) (omega arith) in omega (arith, n.cell.key, run-later (suc j) (omega arith) l))
          step-key j q l (inr h) = omega (arith, run-later (suc j) (omega arith) l, run-ended j (omega arith))

          -- the next one starts at its end
          run-next : r < length es → (at r).key ≡ e
          run-next l =
              let q : suc (r - 1) ≡ r = omega (arith, run-grows) in
              let w : suc (r - 1) < length es = omega arith in
              ap (λ i. (at i).key) (sym q) ∙ step-key (r - 1) q w (chain-step arity depth d count pos es rule (r - 1) w)

          -- and if there is none, it is the tree's end
          run-last : r ≡ length es → e ≡ span arity depth 0
          run-last h =
              let q : suc (r - 1) ≡ length es = omega (arith, run-grows) in
              omega (arith, chain-last arity depth d count pos es rule (r - 1) q, run-ended (r - 1) (omega arith), g.in_tree)

          -- the list is cut at the end of the run
          pub run-cut : Cut arity depth e r es
          run-cut =
              let w : r ≤ length es = omega (arith, run.within, keys.count) in
              record {
                within = w;
                ended = take-every (λ x. range_end arity depth x ≤ e) es d r w run-ended;
                later = drop-every (λ x. e ≤ x.key) es d r w run-later;
                starts = λ c l. ap (λ x. x.key) (place-any es r c d l) ∙ run-next l;
                last = run-last;
              }

          -- the entries of the run start in the larger range
          pub run-part : Every (λ x. (k ≤ x.key) × (x.key < e)) (take (r - a) (drop a es))
          run-part =
              part-every es a r run.from (omega (arith, run.within, keys.count)) (λ x. (k ≤ x.key) × (x.key < e)) d run-starts

          -- and are of the larger cell, if that is in this list
          pub run-cell : e ≡ range_end arity depth (at a) → Every (λ x. (x.key ≡ k) × (range_end arity depth x ≡ e)) (take (r - a) (drop a es))
          run-cell q =
              part-every es a r run.from (omega (arith, run.within, keys.count)) (λ x. (x.key ≡ k) × (range_end arity depth x ≡ e)) d (λ i h l.
              let s = run-starts i h l in
              let w : i < length es = omega (arith, run.within, keys.count) in
              let c = chain-apart arity depth count pos es rule (get_or-member es i d w) (get_or-member es a d more) (record {
                key = (at i).key;
                first = record { starts = omega arith; ends = starts-before (at i) };
                second = record { starts = omega (arith, at-start); ends = omega arith };
              }) in
              (omega (arith, c.key, at-start), omega (arith, same_end arity depth c)))

    -- the cell at a place where the list is cut
    pub larger-at : {k a : ℕ} → Cut arity depth k a es → a < length es → Larger k (range_end arity depth (at a))
    larger-at {k} {a} cut more = record {
      cell = at a;
      aligned = (chain_fits arity depth count pos es rule (at a) (get_or-member es a d more)).aligned;
      starts = cut.starts d more;
      ends = refl;
      in_tree = chain-within arity depth d count pos es rule a more;
    }
