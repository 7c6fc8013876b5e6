-- Entries that lie beyond a side do not touch the window, and change no mark.
use mathlib.Core.Path.{◌≡◌, sym, ◌∙◌}
use mathlib.Core.Bool.{Bool, true}
use mathlib.Core.List.{List}
use Prim.Native.Nat.{ℕ, ◌+◌, ◌-◌, ◌<◌}
use native.Mathlib.Omega.{arith}
use lib.ListN.{get_or, take, drop}
use lib.Seq.{get_or-take, get_or-drop}
use Rattle.theory_lists.specs.Lists.{all, up_to}
use Rattle.theory_lists.proofs.IndexLaws.{all-below-at}
use Rattle.theory_orthtree.specs.Entries.{span}
use Rattle.base_geometry.specs.Bounds.{bounds_box}
use Rattle.chart_links.specs.Links.{entry_at}
use Rattle.window_keys.specs.Sides.{beyond}
use Rattle.window_keys.proofs.BeyondLaws.{beyond-apart}
use Rattle.window_cells.specs.Marks.{lanes}
use Rattle.window_cells.proofs.MarkLaws.{marked-skip}
use Rattle.window_cells.proofs.mark_lanes.Goals as goal

-- what lane k of those from place j on holds
lane : (l : List ℕ) (j k : ℕ) → k < lanes → get_or (take (j + lanes - j) (drop j l)) k 0 ≡ get_or l (j + k) 0
lane l j k h = get_or-take (j + lanes - j) (drop j l) k 0 (omega arith) ∙ get_or-drop j l k 0

pub returns-else-not-lanes_beyond : goal.returns-else-not-lanes_beyond
unfolding entry_at span
returns-else-not-lanes_beyond c =
    let a = c.args in
    let m = c.requires.markable.0 in
    let keys = a.keys.now in
    let levels = a.levels.now in
    let part : List ℕ → List ℕ = λ l. take (a.j + lanes - a.j) (drop a.j l) in
    let f : ℕ → Bool = λ k. beyond a.s (get_or (part keys) k 0) (get_or (part levels) k 0) in
    let e : all f (up_to lanes) ≡ true = sym c.lanes_beyond.ensures ∙ c.if-not-lanes_beyond.false in
    marked-skip (bounds_box a.w) keys levels a.items.now a.j lanes (a.j + lanes) (omega arith) m.room
    (λ k l.
    beyond-apart (bounds_box a.w) (get_or keys (a.j + k) 0) (get_or levels (a.j + k) 0) (m.small (a.j + k) (omega arith)) (m.deep (a.j + k) (omega arith))
    (m.aligned (a.j + k) (omega arith)) (omega (arith, c.well_formed)) (omega (arith, c.well_formed)) (get_or a.items.now (a.j + k) 0)
    (rw (← c.requires.markable.1, ← lane keys a.j k l, ← lane levels a.j k l) (all-below-at f e l)))
    a.near.now c.requires.marked
