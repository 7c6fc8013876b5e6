-- The entries that pass the chain rule are marked, the marked triangles tested and listed, and zeros put after them.
use mathlib.Core.Path.{◌≡◌}
use native.Mathlib.Omega.{arith}
use Rattle.spec_plane.specs.Box.{Framed}
use Rattle.spec_calls.specs.Buffers.{Chart, chart_table, chart_entries}
use Rattle.spec_calls.specs.Lent.{viewed}
use Rattle.laws_calls.proofs.BufferLaws.{ruled, rule-drawn, searchable}
use Rattle.laws_calls.proofs.PaddedLaws.{zeros-stored}
use Rattle.laws_calls.proofs.WindowCalls.{window-full}
use Rattle.base_geometry.specs.Bounds.{bounds_box}
use Rattle.call_window.proofs.FillLaws.{markable, marked-none, window-list}
use borrow.Author.Rules.{rules}
use Rattle.call_window.proofs.fill.Goals as goal

pub mark_near-requires : goal.mark_near-requires
unfolding chart_entries
mark_near-requires c =
    let a = c.args in
    let chart = viewed a.chart in
    let p = c.requires.chart in
    record {
      markable = markable a.chart.keys.now a.chart.levels.now a.chart.items.now a.chart.entries a.chart.triangles (searchable chart p.0 p.1).0 (ruled chart p.1).chained;
      marked = marked-none (bounds_box a.w) a.chart.keys.now a.chart.levels.now a.chart.items.now;
    }

pub list_window-listed-requires : goal.list_window-listed-requires
list_window-listed-requires c =
    let a = c.args in
    let chart = viewed a.chart in
    let p = c.requires.chart in
    let d = rule-drawn chart p.0 p.1 in
    let full = window-full (bounds_box a.w) c.requires.window.0 in
    let framed : Framed (bounds_box a.w) = record { wide = full.0; tall = full.1; right = omega arith; bottom = omega arith } in
    (record { drawn = d; marks = omega (arith, c.mark_near.ensures.length, d.few); framed = framed }, c.requires.window.1)

pub offset_bounds-list-listed : goal.offset_bounds-list-listed
offset_bounds-list-listed c =
    let p = c.requires.chart in
    let l = c.list_window-listed.ensures in
    let d = rule-drawn (viewed c.args.chart) p.0 p.1 in
    omega (arith, l.compact.few, d.few, l.same, c.requires.window.1)

pub slice_bounds-fill-count : goal.slice_bounds-fill-count
slice_bounds-fill-count c =
    let p = c.requires.chart in
    let l = c.list_window-listed.ensures in
    let d = rule-drawn (viewed c.args.chart) p.0 p.1 in
    omega (arith, l.compact.few, d.few, l.same, c.requires.window.1)

pub slice_bounds-fill-start : goal.slice_bounds-fill-start
slice_bounds-fill-start c =
    let p = c.requires.chart in
    let l = c.list_window-listed.ensures in
    let d = rule-drawn (viewed c.args.chart) p.0 p.1 in
    omega (arith, l.compact.few, d.few, l.same, c.requires.window.1)

pub returns : goal.returns
unfolding chart_table chart_entries
returns c =
    let a = c.args in
    let chart = viewed a.chart in
    let p = c.requires.chart in
    let d = rule-drawn chart p.0 p.1 in
    window-list a.chart.table.now (bounds_box a.w) a.chart.keys.now a.chart.levels.now a.chart.items.now a.chart.triangles a.chart.entries d.few c.requires.window.1
    c.mark_near.ensures c.list_window-listed.ensures
    (let l = c.list_window-listed.ensures in zeros-stored _ (omega (arith, l.compact.few, d.few)) (omega (arith, l.same, c.requires.window.1)) (c.fill.ensures.after (λ y e. e)))
