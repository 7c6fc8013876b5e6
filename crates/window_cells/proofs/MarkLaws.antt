-- Marks, one entry more at a time: the entry's own place is marked where its cell touches the window, the others stay.
-- Assumes nothing.
use mathlib.Core.Path.{◌≡◌, refl, sym, ◌∙◌, ap, ap₂}
use mathlib.Core.Bool.{Bool, true, false, ◌&&◌, ◌||◌}
use mathlib.Core.List.{List, [], ◌∷◌, ◌++◌}
use Prim.Native.Nat.{ℕ, zero, suc, ◌+◌, ◌≤◌, ◌<◌}
use native.Mathlib.Nat.{add-zero, add-suc}
use native.Mathlib.Numerals.{add-one}
use native.Mathlib.Omega.{arith}
use lib.Dec.{eqb}
use lib.ListN.{length, get_or, set, take, length-set, length-take}
use lib.Seq.{take-suc, get_or-take, get_or-set_same, get_or-set_other}
use Rattle.theory_lists.specs.Lists.{any}
use Rattle.theory_lists.proofs.Reflects.{reflects-eqb}
use Rattle.theory_orthtree.specs.Entries.{Entry, entry}
use Rattle.spec_plane.specs.Box.{Box}
use Rattle.spec_calls.specs.Buffers.{Roomy, zip_entries}
use Rattle.spec_window.specs.Window.{cell_touches}
use Rattle.laws_calls.proofs.BufferLaws.{roomy-fewer}
use Rattle.laws_calls.proofs.EntriesLaws.{first-at, first_count}
use Rattle.chart_links.specs.Links.{entry_at}
use Rattle.overlay_marks.specs.PairMarks.{place_of}
use Rattle.window_cells.specs.Marks.{marks_length, Markable, place_near, Marked}

any-one : {A : Type 0} (f : A → Bool) (x : A) → any f (x ∷ []) ≡ f x
unfolding any
any-one f x = go (f x)
  where
    go : (b : Bool) → elim b [ true ↦ true | false ↦ false ] ≡ b
    go true = refl
    go false = refl

any_append : {A : Type 0} (f : A → Bool) (xs ys : List A) → any f (xs ++ ys) ≡ any f xs || any f ys
unfolding any
any_append f [] ys = refl
any_append f (x ∷ xs) ys = go (f x) (any_append f xs ys)
  where
    go : (b : Bool) → any f (xs ++ ys) ≡ any f xs || any f ys
        → elim b [ true ↦ true | false ↦ any f (xs ++ ys) ] ≡ elim b [ true ↦ true | false ↦ any f xs ] || any f ys
    go true e = refl
    go false e = e

or-false : (b : Bool) → b || false ≡ b
or-false true = refl
or-false false = refl

and-false : (b : Bool) → b && false ≡ false
and-false true = refl
and-false false = refl

-- fewer entries are of squares of the tree too
pub markable-fewer : {keys levels items : List ℕ} (m n : ℕ) → m ≤ n → Markable keys levels items n → Markable keys levels items m
markable-fewer m n h a = record {
  room = roomy-fewer h a.room;
  small = λ k l. a.small k (omega arith);
  deep = λ k l. a.deep k (omega arith);
  aligned = λ k l. a.aligned k (omega arith);
}

module _ (w : Box) (keys levels items : List ℕ) where
  -- the entries of three lists, and the one at a place
  abbrev entries : ℕ → List Entry
  entries n = take n (zip_entries keys levels items)

  module _ (k n : ℕ) (h : k < n) (room : Roomy n keys levels items) where
    entries-more : entries (suc k) ≡ entries k ++ (entry_at keys levels items k ∷ [])
    unfolding entry_at
    entries-more =
        let d : Entry = entry 0 0 0 in
        let es = zip_entries keys levels items in
        let long : k < length es =
        omega (arith, first_count keys levels items n room.for_keys room.for_levels room.for_items, length-take n es) in
        take-suc es k d long
        ∙ ap (λ e. take k es ++ (e ∷ []))
        (sym (get_or-take n es k d h) ∙ first-at keys levels items n room.for_keys room.for_levels room.for_items d k h)

    near-more : (p : ℕ) → place_near w (entries (suc k)) p
        ≡ place_near w (entries k) p || (eqb (place_of (get_or items k 0)) p && cell_touches w (entry_at keys levels items k))
    unfolding entry_at
    near-more p =
        let f : Entry → Bool = λ e. eqb (place_of e.item) p && cell_touches w e in
        ap (any f) entries-more ∙ any_append f (entries k) (entry_at keys levels items k ∷ [])
        ∙ ap (λ b. any f (entries k) || b) (any-one f (entry_at keys levels items k))

    -- the entry at place k, marked by its item's place
    pub marked_more : (near near' : List Bool)
        → near' ≡ set near (place_of (get_or items k 0)) (get_or near (place_of (get_or items k 0)) false || cell_touches w (entry_at keys levels items k))
        → Marked w keys levels items k near → Marked w keys levels items (k + 1) near'
    marked_more near near' e m =
        let q = place_of (get_or items k 0) in
        let v = get_or near q false || cell_touches w (entry_at keys levels items k) in
        let long : length near' ≡ length near = ap length e ∙ length-set near q v in
        record {
          length = long ∙ m.length;
          marks = λ p l. rw (add-one k) (go p l (eqb q p) refl ∙ sym (near-more p));
        }
      where
        go : (p : ℕ) → p < marks_length → (b : Bool) → eqb (place_of (get_or items k 0)) p ≡ b
            → get_or near' p false ≡ place_near w (entries k) p || (eqb (place_of (get_or items k 0)) p && cell_touches w (entry_at keys levels items k))
        go p l true h =
            let q = place_of (get_or items k 0) in
            let same : q ≡ p = (reflects-eqb q p).to (rw h tt) in
            let v = get_or near q false || cell_touches w (entry_at keys levels items k) in
            ap (λ x. get_or x p false) e ∙ ap (λ x. get_or (set near q v) x false) (sym same)
            ∙ get_or-set_same near q v false (omega (arith, m.length))
            ∙ ap (λ x. get_or near x false || cell_touches w (entry_at keys levels items k)) same
            ∙ ap₂ (λ a b. a || (b && cell_touches w (entry_at keys levels items k))) (m.marks p l) (sym h)
        go p l false h =
            let q = place_of (get_or items k 0) in
            let v = get_or near q false || cell_touches w (entry_at keys levels items k) in
            let other : p ≡ q → ⊥ = λ x. rw h at ((reflects-eqb q p).from (sym x)) in
            ap (λ x. get_or x p false) e ∙ get_or-set_other near q p v false other ∙ m.marks p l
            ∙ sym (or-false (place_near w (entries k) p))
            ∙ ap (λ b. place_near w (entries k) p || (b && cell_touches w (entry_at keys levels items k))) (sym h)

    -- an entry that does not touch the window changes no mark
    near-kept : cell_touches w (entry_at keys levels items k) ≡ false → (p : ℕ) → place_near w (entries (suc k)) p ≡ place_near w (entries k) p
    near-kept e p =
        near-more p
        ∙ ap (λ b. place_near w (entries k) p || (eqb (place_of (get_or items k 0)) p && b)) e
        ∙ ap (λ b. place_near w (entries k) p || b) (and-false (eqb (place_of (get_or items k 0)) p))
        ∙ or-false (place_near w (entries k) p)

  -- nor do several one after another
  near-skip : (j m n : ℕ) → j + m ≤ n → Roomy n keys levels items → ((k : ℕ) → k < m → cell_touches w (entry_at keys levels items (j + k)) ≡ false)
      → (p : ℕ) → place_near w (entries (j + m)) p ≡ place_near w (entries j) p
  near-skip j zero n h room none p = ap (λ i. place_near w (entries i) p) (add-zero j)
  near-skip j (suc m) n h room none p =
      ap (λ i. place_near w (entries i) p) (add-suc j m)
      ∙ near-kept (j + m) n (omega arith) room (none m (omega arith)) p
      ∙ near-skip j m n (omega arith) room (λ k l. none k (omega arith)) p

  pub marked-skip : (j m n : ℕ) → j + m ≤ n → Roomy n keys levels items → ((k : ℕ) → k < m → cell_touches w (entry_at keys levels items (j + k)) ≡ false)
      → (near : List Bool) → Marked w keys levels items j near → Marked w keys levels items (j + m) near
  marked-skip j m n h room none near a = record { length = a.length; marks = λ p l. a.marks p l ∙ sym (near-skip j m n h room none p) }
