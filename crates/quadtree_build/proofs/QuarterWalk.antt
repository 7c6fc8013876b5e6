-- The quarters of a square in the recursion.
-- The idea: a triangle that meets a quarter meets the square, so the square's triangles are candidates enough for its quarters.
-- Assumes nothing.
use mathlib.Core.Path.{◌≡◌, refl, sym, ◌∙◌, ap}
use mathlib.Core.Bool.{false, ◌||◌, true≢false}
use mathlib.Core.List.{List, [], ◌∷◌, ◌++◌, flat_map, append-nil, Memᴰ}
use Prim.Native.Nat.{ℕ, suc, ◌+◌, ◌-◌, ◌<◌}
use native.Mathlib.Numerals.{add-one}
use native.Mathlib.Decide.{dec_le}
use native.Mathlib.Omega.{arith}
use borrow.Author.Tests.{eq-eqb}
use lib.ListN.{length, get_or, take, drop}
use Rattle.std.proofs.Common.{Option, None}
use Rattle.std.proofs.lemmas.List.{take-append-drop}
use lib.Seq.{take-suc, take-length}
use Rattle.theory_lists.specs.Lists.{filter}
use Rattle.theory_lists.proofs.ListsLaws.{get_or-member}
use Rattle.theory_lists.proofs.FlatMapLaws.{flat_map-append}
use Rattle.theory_lists.proofs.StoredLaws.{part-kept, take_less}
use Rattle.theory_orthtree.specs.Entries.{Entry}
use Rattle.spec_plane.specs.Box.{triangle_meets}
use Rattle.spec_squares.specs.declared.Square.{Square}
use Rattle.spec_squares.specs.Square.{arity, depth, quarters, top_left, top_right, bottom_left, bottom_right, square_key, square_box, Aligned}
use Rattle.spec_squares.proofs.SquareLaws.{quarters-aligned, quarters-level}
use Rattle.spec_charts.specs.Table.{Table, numbered}
use Rattle.spec_charts.specs.Cells.{common_end, sides_meeting, stopped, entries_in}
use Rattle.laws_charts.proofs.EntriesOfTable.{entries_in-split, meeting-narrow, quarter-within}
use Rattle.quadtree_cells.specs.declared.quarters.KeyedSquare.{KeyedSquare}
use Rattle.quadtree_cells.proofs.ReadyLaws.{ready-kept}
use Rattle.quadtree_stopping.specs.Stopping.{corner_table}
use Rattle.quadtree_build.specs.Build.{levels_from, Buildable, Built}
use Rattle.quadtree_build.proofs.WalkLaws.{built-over}
use Rattle.quadtree_build.proofs.SquareWalk.{Narrowed}

quarters-four : (s : Square) → length (quarters s) ≡ arity
unfolding quarters
quarters-four s = refl

-- a square that is not stopped has quarters
pub level-below : (table : Table) (s : Square) → Aligned s → stopped table s ≡ false → s.level < depth
unfolding stopped
level-below table s p st = elim (dec_le (suc s.level) depth) [
  | yes g ↦ g
  | no g ↦
      let e : s.level ≡ depth = omega (arith, p.deep) in
      absurd (true≢false (sym (ap (λ b. b || common_end (sides_meeting table s)) (eq-eqb s.level depth e)) ∙ st))
]

-- quarter k of a square
module _ (s : Square) (k : ℕ) (lt : k < arity) where
  in-quarters : Memᴰ (get_or (quarters s) k s) (quarters s)
  in-quarters = get_or-member (quarters s) k s (rw (quarters-four s) lt)

  pub quarter-level : (get_or (quarters s) k s).level ≡ suc s.level
  quarter-level = quarters-level s (get_or (quarters s) k s) in-quarters

  -- its entries come after those of the quarters before it
  pub quarters-more : (table : Table) → flat_map (λ x. entries_in table x) (take (k + 1) (quarters s))
      ≡ flat_map (λ x. entries_in table x) (take k (quarters s)) ++ entries_in table (get_or (quarters s) k s)
  unfolding flat_map
  quarters-more table =
      let q = get_or (quarters s) k s in
      ap (λ m. flat_map (λ x. entries_in table x) (take m (quarters s))) (add-one k)
      ∙ ap (flat_map (λ x. entries_in table x)) (take-suc (quarters s) k s (rw (quarters-four s) lt))
      ∙ flat_map-append (λ x. entries_in table x) (take k (quarters s)) (q ∷ [])
      ∙ ap (λ r. flat_map (λ x. entries_in table x) (take k (quarters s)) ++ r) (append-nil (entries_in table q))

-- the entries of all four are the square's
pub quarters-all : (table : Table) (s : Square) → s.level < depth → stopped table s ≡ false
    → flat_map (λ x. entries_in table x) (take arity (quarters s)) ≡ entries_in table s
unfolding flat_map quarters
quarters-all table s lev st =
    ap (λ r. entries_in table (top_left s) ++ (entries_in table (top_right s) ++ (entries_in table (bottom_left s) ++ r))) (append-nil (entries_in table (bottom_right s)))
    ∙ sym (entries_in-split table s lev st)

-- if those of the first quarters do not fit, neither do all
pub quarters-over : (s : Square) (k : ℕ) → k < arity → (table : Table) → s.level < depth → stopped table s ≡ false
    → {most at t : ℕ} {o o₁ l l₁ : List ℕ}
    → Built (flat_map (λ x. entries_in table x) (take k (quarters s)) ++ entries_in table (get_or (quarters s) k s)) most at None t o o₁ l l₁
    → Built (entries_in table s) most at None t o o₁ l l₁
quarters-over s k lt table lev st b =
    let rest = flat_map (λ x. entries_in table x) (drop (k + 1) (quarters s)) in
    let e = ap (λ r. r ++ rest) (sym (quarters-more s k lt table))
    ∙ sym (flat_map-append (λ x. entries_in table x) (take (k + 1) (quarters s)) (drop (k + 1) (quarters s)))
    ∙ ap (flat_map (λ x. entries_in table x)) (take-append-drop (k + 1) (quarters s) ∙ sym (ap (λ m. take m (quarters s)) (sym (quarters-four s)) ∙ take-length (quarters s)))
    ∙ quarters-all table s lev st
    in
    rw e at (built-over rest b)

-- what is built above the square's triangles is kept below them too
pub built-below : {es : List Entry} {most at t top : ℕ} {r : Option ℕ} {cs sh o l l₁ l₂ out out' : List ℕ} {s : Square}
    → Narrowed t top cs sh o l l₁ s → Built es most at r top out out' l₁ l₂ → Built es most at r t out out' l l₂
built-below {t = t} w b = record {
  fits = b.fits;
  over = b.over;
  kept = take_less t _ _ _ w.ready.order b.kept ∙ w.kept;
  outs = b.outs;
  stacks = b.stacks ∙ w.same;
}

-- what building quarter k asks, on a stack that is kept up to the square's triangles
pub quarter-buildable : {f t top : ℕ} {cs sh o l l₁ l₂ : List ℕ} {s q : KeyedSquare} (k : ℕ) → k < arity → s.square.level < depth
    → Buildable f t cs sh o l s → Narrowed t top cs sh o l l₁ s.square
    → q.square ≡ get_or (quarters s.square) k s.square → q.key ≡ square_key q.square
    → take top l₂ ≡ take top l₁ → length l₂ ≡ length l₁ → Buildable t top cs sh o l₂ q
quarter-buildable {t = t} {top = top} {cs = cs} {l₁ = l₁} {l₂ = l₂} {s = s} {q = q} k lt lev b w e key kept same =
    let sq = s.square in
    let m = in-quarters sq k lt in
    let level = ap (λ x. x.level) e ∙ quarter-level sq k lt in
    let left : levels_from q.square.level ≡ depth - sq.level = omega (arith, level) in
    record {
      ready = ready-kept kept same w.ready;
      prepared = b.prepared;
      candidates = record {
        few = w.few;
        among = rw e
            (ap (filter (λ i. triangle_meets (numbered (corner_table cs) i) (square_box (get_or (quarters sq) k sq)))) (part-kept t top l₁ l₂ w.ready.order kept ∙ w.triangles)
            ∙ meeting-narrow (corner_table cs) sq (get_or (quarters sq) k sq) (quarter-within sq lev (get_or (quarters sq) k sq) m));
      };
      keyed = record { aligned = rw e (quarters-aligned sq b.keyed.aligned lev (get_or (quarters sq) k sq) m); key = key };
      room = rw (left, same) w.room;
    }
