-- From marks to a filled list: the entries of a chart that passes the chain rule can be marked, the marks say what is listed near the
-- window, and the triangles listed with zeros after them are the list of document 02.
-- Assumes nothing.
use mathlib.Core.Path.{◌≡◌, refl, sym, ◌∙◌, ap, ap₂}
use mathlib.Core.Bool.{Bool, true, false, ◌&&◌}
use mathlib.Core.List.{List, [], ◌∷◌, ◌++◌}
use Prim.Native.Nat.{ℕ, zero, suc, ◌+◌, ◌-◌, ◌≤◌, ◌<◌, min}
use native.Mathlib.Omega.{arith}
use lib.Dec.{T, eqb}
use lib.ListN.{length, get_or, take, drop, replicate, length-take, length-replicate, get_or-replicate}
use lib.Seq.{sets, sets-eq}
use Rattle.theory_lists.specs.Lists.{any, filter, up_to}
use Rattle.theory_lists.proofs.Reflects.{reflects-eqb, reflects-iff}
use Rattle.theory_lists.proofs.IndexLaws.{reflects-same}
use Rattle.theory_lists.proofs.ListsLaws.{up_to-to}
use Rattle.theory_lists.proofs.FilterLaws.{filter-agree}
use Rattle.theory_orthtree.specs.Entries.{Entry, entry, span, range_end, chain}
use Rattle.theory_orthtree.proofs.EntriesLaws.{span-positive}
use Rattle.theory_orthtree.proofs.ChainLaws.{Fits, entry_fits-reflects}
use Rattle.theory_orthtree.proofs.ChainPlaceLaws.{places-reflect}
use Rattle.theory_orthtree.proofs.ChainPlaces.{chain-within}
use Rattle.spec_plane.specs.Box.{Box, triangle_meets}
use Rattle.spec_squares.specs.Square.{arity, depth}
use Rattle.spec_charts.specs.Table.{max_triangles, table_of, triangle_at, numbered}
use Rattle.spec_window.specs.Window.{cell_touches, listed_near, window_of, window_length}
use Rattle.spec_calls.specs.Buffers.{Roomy, zip_entries, padded}
use Rattle.laws_charts.proofs.TableLaws.{table_of-length, numbered-at}
use Rattle.laws_calls.proofs.EntriesLaws.{first_count, first-at}
use Rattle.overlay_marks.specs.PairMarks.{place_of}
use Rattle.window_cells.specs.Marks.{marks_length, Markable, place_near, Marked}
use Rattle.window_triangles.specs.Listed.{is_in, Listed}
use Rattle.call_window.specs.Filled.{Filled}

-- ---- entries that pass the chain rule can be marked

module _ (keys levels items : List ℕ) (n count : ℕ) (room : Roomy n keys levels items) (rule : T (chain arity depth count (take n (zip_entries keys levels items)))) where
  abbrev es : List Entry
  es = take n (zip_entries keys levels items)

  abbrev none : Entry
  none = entry 0 0 0

  many : length es ≡ n
  many = first_count keys levels items n room.for_keys room.for_levels room.for_items

  at : (k : ℕ) → k < n → get_or es k none ≡ entry (get_or keys k 0) (get_or levels k 0) (get_or items k 0)
  at = first-at keys levels items n room.for_keys room.for_levels room.for_items none

  fits : (k : ℕ) → k < n → Fits arity depth count (entry (get_or keys k 0) (get_or levels k 0) (get_or items k 0))
  fits k l =
      rw (at k l) at
      ((entry_fits-reflects arity depth count (get_or es k none)).to
      (((places-reflect arity depth count none es (n - 1) (omega (arith, many))).to rule).fits k (omega arith)))

  pub markable : Markable keys levels items n
  unfolding range_end
  markable = record {
    room = room;
    small = λ k l.
        let p = span-positive arity depth (get_or levels k 0) (omega arith) in
        omega (arith, rw (at k l) at (chain-within arity depth none count (omega arith) es rule k (omega (arith, many))));
    deep = λ k l. (fits k l).level;
    aligned = λ k l. (fits k l).aligned;
  }

-- ---- marks

-- before the first entry
pub marked-none : (w : Box) (keys levels items : List ℕ) → Marked w keys levels items 0 (replicate marks_length false)
unfolding any
marked-none w keys levels items = record { length = length-replicate marks_length false; marks = λ p l. get_or-replicate marks_length p false false l }

any-agree : (f g : Entry → Bool) → ((e : Entry) → f e ≡ g e) → (es : List Entry) → any f es ≡ any g es
any-agree f g h es = ap (λ k. any k es) (λ i e. h e i)

-- a triangle's place is its own
own-place : (t i : ℕ) → i < max_triangles → eqb (place_of t) i ≡ eqb t i
own-place t i h =
    reflects-same (reflects-eqb (place_of t) i) (reflects-iff (λ e. omega arith) (λ e. omega arith) (reflects-eqb t i))

near-listed : (w : Box) (es : List Entry) (i : ℕ) → i < max_triangles → place_near w es i ≡ listed_near es w i
unfolding listed_near
near-listed w es i h = any-agree _ _ (λ e. ap (λ b. b && cell_touches w e) (own-place e.item i h)) es

and_comm : (a b : Bool) → a && b ≡ b && a
and_comm true true = refl
and_comm true false = refl
and_comm false true = refl
and_comm false false = refl

-- the marked triangles that meet the window are those in it
marked-window : (table : List ℕ) (w : Box) (keys levels items : List ℕ) (n m : ℕ) (near : List Bool) → n ≤ max_triangles
    → Marked w keys levels items m near
    → filter (is_in table w near) (up_to n) ≡ window_of (table_of table n) (take m (zip_entries keys levels items)) w
unfolding window_of
marked-window table w keys levels items n m near few marked =
    let es = take m (zip_entries keys levels items) in
    let p : ℕ → Bool = λ i. triangle_meets (numbered (table_of table n) i) w && listed_near es w i in
    filter-agree (is_in table w near) p (up_to n) (λ i l.
    let below = up_to-to l in
    ap₂ ◌&&◌ (marked.marks i (omega arith) ∙ near-listed w es i (omega arith)) (ap (λ t. triangle_meets t w) (sym (numbered-at table n i below)))
    ∙ and_comm (listed_near es w i) (triangle_meets (numbered (table_of table n) i) w))
    ∙ ap (λ k. filter p (up_to k)) (sym (table_of-length table n))

-- ---- the list

-- what is listed, zeros after it, and what was beyond
listed-filled : (f : ℕ → Bool) (before list list' is : List ℕ) (n r : ℕ) → n ≤ max_triangles → window_length ≤ length before
    → Listed f before list n r → list' ≡ sets list r (replicate (window_length - r) 0) → filter f (up_to n) ≡ is → Filled is before list' r
unfolding padded
listed-filled f before list list' is n r few room l e same =
    let least = l.compact.few in
    let shown : take r list ≡ is = l.compact.listed ∙ same in
    let count : r ≡ length is = omega (arith, length-take r list, ap length shown, l.same) in
    let zs : List ℕ = replicate (window_length - r) 0 in
    let zeros : length zs ≡ window_length - r = length-replicate (window_length - r) 0 in
    let end : r + length zs ≡ window_length = omega arith in
    record {
      count = count;
      filled =
          e ∙ sets-eq zs list r (omega (arith, l.same))
          ∙ ap₂ (λ k x. x ++ zs ++ drop k list) end shown
          ∙ ap₂ (λ m x. is ++ replicate (window_length - m) 0 ++ x) count l.beyond;
    }

-- a list of the marked triangles that meet the window, with zeros after them, is filled with what lies in it
pub window-list : (table : List ℕ) (w : Box) (keys levels items : List ℕ) (n m : ℕ) {near : List Bool} {before list list' : List ℕ} {r : ℕ}
    → n ≤ max_triangles → window_length ≤ length before → Marked w keys levels items m near → Listed (is_in table w near) before list n r
    → list' ≡ sets list r (replicate (window_length - r) 0)
    → Filled (window_of (table_of table n) (take m (zip_entries keys levels items)) w) before list' r
window-list table w keys levels items n m {near} {before} {list} {list'} {r} few room marked l e =
    listed-filled (is_in table w near) before list list' _ n r few room l e (marked-window table w keys levels items n m near few marked)
