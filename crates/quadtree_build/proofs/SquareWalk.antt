-- One square of the recursion: the candidates that pass are its triangles, and as a leaf it leaves their entries.
-- Assumes nothing.
use mathlib.Core.Path.{◌≡◌, refl, sym, ◌∙◌, ap, subst}
use mathlib.Core.Bool.{true}
use mathlib.Core.List.{List, [], ◌∷◌, map, Memᴰ}
use Prim.Native.Nat.{ℕ, zero, suc, ◌+◌, ◌*◌, ◌-◌, ◌≤◌, ◌<◌}
use native.Mathlib.Nat.{suc-mul, le_refl}
use Rattle.std.proofs.Common.{None, Option, Some}
use native.Mathlib.Omega.{arith}
use lib.ListN.{length, get_or, take, length-map}
use lib.Seq.{sets}
use Rattle.theory_lists.specs.Lists.{filter, part}
use Rattle.theory_lists.proofs.ListsLaws.{Every, get_or-member, sets-length}
use Rattle.theory_lists.proofs.FilterLaws.{filter-agree, filter-length}
use Rattle.theory_lists.proofs.PartLaws.{part_length, part-every}
use Rattle.theory_lists.proofs.StoredLaws.{part-stored, take-before}
use Rattle.theory_orthtree.specs.Entries.{Entry}
use Rattle.spec_plane.specs.Box.{triangle_meets}
use Rattle.spec_squares.specs.declared.Square.{Square}
use Rattle.spec_squares.specs.Square.{depth, square_key, square_box}
use Rattle.spec_squares.proofs.SquareLaws.{square_box-framed}
use Rattle.spec_charts.specs.Table.{Table, numbered}
use Rattle.spec_charts.specs.Cells.{stopped, triangles_meeting, or_mark, entry_of, cell_entries, entries_in}
use Rattle.laws_charts.proofs.EntriesOfTable.{entries_in-stopped}
use Rattle.laws_charts.proofs.TableLaws.{table_of-length}
use Rattle.base_entries.specs.Packed.{head_of, packed}
use Rattle.quadtree_shapes.specs.declared.shapes.Frame.{Frame}
use Rattle.quadtree_shapes.specs.Shape.{coordinates, frame_box, triangle_meets_at}
use Rattle.quadtree_shapes.proofs.ShapeLaws.{triangle-meets-at}
use Rattle.quadtree_cells.specs.declared.quarters.KeyedSquare.{KeyedSquare}
use Rattle.quadtree_cells.specs.Stack.{Ready, Narrowable, Narrowing}
use Rattle.quadtree_cells.specs.Quarters.{FrameOf}
use Rattle.quadtree_cells.proofs.ReadyLaws.{ready-fits, ready-stored}
use Rattle.quadtree_stopping.specs.Stopping.{triangle_total, corner_table}
use Rattle.quadtree_stopping.proofs.StopLaws.{corners-small, meeting-below}
use Rattle.quadtree_build.specs.Build.{levels_from, Buildable, Built}

-- ---- the candidates, narrowed

-- room for one list of the levels
room-one : (m n d t l : ℕ) → 1 ≤ m → d ≤ n → t + m * n ≤ l → t + d ≤ l
room-one (suc m) n d t l h e r = omega (arith, suc-mul m n)
room-one zero n d t l h e r = absurd (omega arith)

-- and for the others after it
room-less : (m n d t l : ℕ) → d ≤ n → t + suc m * n ≤ l → (t + d) + m * n ≤ l
room-less m n d t l e r = omega (arith, suc-mul m n)

-- the triangles of the square stand on the stack from t up to top, with room for the lists of its quarters; what is below t is kept
pub record Narrowed (t top : ℕ) (corners shape offsets stack stack' : List ℕ) (s : Square) : Type 0 where
  pub ready : Ready (triangle_total corners) t top (coordinates corners) shape offsets stack'
  pub triangles : part t top stack' ≡ triangles_meeting (corner_table corners) s
  pub kept : take t stack' ≡ take t stack
  pub same : length stack' ≡ length stack
  pub few : top - t ≤ triangle_total corners
  pub room : top + (depth - s.level) * triangle_total corners ≤ length stack'

module _ {f t : ℕ} {cs sh o l : List ℕ} {s : KeyedSquare} (b : Buildable f t cs sh o l s) where
  abbrev n : ℕ
  n = triangle_total cs

  abbrev ns : List ℕ
  ns = coordinates cs

  below : Every (λ i. i < n) (triangles_meeting (corner_table cs) s.square)
  below i m = rw (table_of-length ns n) at (meeting-below (corner_table cs) s.square i m)

  -- the candidates that pass are the triangles that meet the square
  passing : {fr : Frame} → FrameOf s.square fr
      → filter (λ i. triangle_meets_at sh o i (frame_box fr)) (part f t l) ≡ triangles_meeting (corner_table cs) s.square
  passing e =
      let r = b.ready in
      ap (λ x. filter (λ i. triangle_meets_at sh o i x) (part f t l)) e.box
      ∙ filter-agree (λ i. triangle_meets_at sh o i (square_box s.square)) (λ i. triangle_meets (numbered (corner_table cs) i) (square_box s.square)) (part f t l)
      (λ i m.
      triangle-meets-at (corner_table cs) sh o b.prepared.shaped i
      (rw (table_of-length ns n) (part-every l f t r.order r.within (λ k. k < n) 0 r.held i m))
      (corners-small ns n b.prepared.small) (square_box s.square) (square_box-framed s.square b.keyed.aligned))
      ∙ b.candidates.among

  -- there is room to narrow them
  pub narrowable : {fr : Frame} → FrameOf s.square fr → Narrowable f t sh o l (frame_box fr)
  narrowable e = record {
    fits = ready-fits b.ready;
    room = room-one (levels_from s.square.level) n (t - f) t (length l) (omega (arith, b.keyed.aligned.deep)) b.candidates.few b.room;
    framed = e.framed;
  }

  -- so they are ready, one after another
  pub among-ready : {l' : List ℕ} {top : ℕ} → Narrowed t top cs sh o l l' s.square → Ready n 0 (length (part t top l')) ns sh o (part t top l')
  among-ready {l'} {top} w =
      let is = part t top l' in
      record {
        order = omega arith;
        within = le_refl (length is);
        held = λ k a h. below (get_or is k 0) (subst (λ x. Memᴰ (get_or is k 0) x) w.triangles (get_or-member is k 0 h));
        tables = w.ready.tables;
        shapes = w.ready.shapes;
        offs = w.ready.offs;
      }

  pub after-narrow : {fr : Frame} {l' : List ℕ} {top : ℕ} → FrameOf s.square fr
      → Narrowing (λ i. triangle_meets_at sh o i (frame_box fr)) l l' f t t top → Narrowed t top cs sh o l l' s.square
  after-narrow {fr} e w =
      let deep = b.keyed.aligned.deep in
      let v = filter (λ i. triangle_meets_at sh o i (frame_box fr)) (part f t l) in
      let p = passing e in
      let few : length v ≤ n =
      omega (arith, filter-length (λ i. triangle_meets_at sh o i (frame_box fr)) (part f t l), part_length f t l b.ready.within, b.candidates.few) in
      let fit : t + length v ≤ length l = room-one (levels_from s.square.level) n (length v) t (length l) (omega (arith, deep)) few b.room in
      let same = sets-length l t v w.stored in
      let m : levels_from s.square.level ≡ suc (depth - s.square.level) = omega (arith, deep) in
      record {
        ready = rw (w.stored, w.end) (ready-stored v b.ready fit (λ i k. below i (rw p at k)));
        triangles = rw (w.stored, w.end) (part-stored l v t fit ∙ p);
        kept = rw w.stored (take-before l t v t (omega arith));
        same = same;
        few = omega (arith, w.end);
        room = rw (same, w.end) (room-less (depth - s.square.level) n (length v) t (length l) few (rw m at b.room));
      }

-- ---- a leaf

module _ (table : Table) (s : Square) where
  -- the packed entries of the square as a cell
  packed-cell : (head : ℕ) → head ≡ head_of (square_key s) s.level
      → map (λ i. head + i) (or_mark (triangles_meeting table s)) ≡ map (λ e. packed e) (cell_entries table s)
  unfolding cell_entries entry_of packed
  packed-cell head e = rw e (go (or_mark (triangles_meeting table s)))
    where
      go : (is : List ℕ) → map (λ i. head_of (square_key s) s.level + i) is
          ≡ map (λ (x : Entry). head_of x.key x.level + x.item) (map {B = Entry} (λ i. record { key = square_key s; level = s.level; item = i }) is)
      go [] = refl
      go (i ∷ is) = ap (λ r. (head_of (square_key s) s.level + i) ∷ r) (go is)

  -- what a leaf leaves: the place after its entries, if they fit
  pub built-leaf : {most at t : ℕ} {r : Option ℕ} {out out' l l' is : List ℕ} {head : ℕ}
      → stopped table s ≡ true
      → is ≡ triangles_meeting table s
      → head ≡ head_of (square_key s) s.level
      → (at + length (or_mark is) ≤ most → (r ≡ Some (at + length (or_mark is))) × (out' ≡ sets out at (map (λ i. head + i) (or_mark is))))
      → (most < at + length (or_mark is) → r ≡ None)
      → take t l' ≡ take t l → length out' ≡ length out → length l' ≡ length l
      → Built (entries_in table s) most at r t out out' l l'
  built-leaf {most} {at} {out = out} {is = is} {head = head} st ei eh fits over kept outs stacks =
      let pc = packed-cell head eh in
      let len : length (or_mark is) ≡ length (cell_entries table s) =
      ap (λ x. length (or_mark x)) ei
      ∙ sym (length-map (or_mark (triangles_meeting table s)) (λ i. head + i))
      ∙ ap length pc
      ∙ length-map (cell_entries table s) (λ e. packed e)
      in
      rw (entries_in-stopped table s st)
      (record {
        fits = λ g.
            let x = fits (omega arith) in (
              x.0 ∙ ap (λ n. Some (at + n)) len,
              x.1 ∙ ap (λ y. sets out at (map (λ i. head + i) (or_mark y))) ei ∙ ap (sets out at) pc,
            );
        over = λ g. over (omega arith);
        kept = kept;
        outs = outs;
        stacks = stacks;
      })
