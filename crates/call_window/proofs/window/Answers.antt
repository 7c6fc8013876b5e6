-- Refusal 1 of all buffers, then 2, then 15, then what lies in the window: each return is a case of `window_call`.
use mathlib.Core.Path.{◌≡◌, sym, ◌∙◌, ap}
use mathlib.Core.Bool.{Bool, false, ◌||◌}
use mathlib.Core.List.{List}
use Prim.Native.Nat.{ℕ}
use lib.Dec.{ltb}
use lib.ListN.{length}
use Rattle.spec_window.specs.Window.{empty_window, window_length}
use Rattle.spec_calls.specs.Buffers.{Chart, too_short}
use Rattle.spec_calls.specs.Lent.{viewed}
use Rattle.base_geometry.specs.Bounds.{bounds_box}
use Rattle.call_window.proofs.AnswerLaws.{window-short, chart-long, list-long, window-broken, window-empty, window-filled}
use Rattle.call_window.proofs.window.Goals as goal

-- refusal 1 as it is tested: of the chart's buffers, then of the list
judged : (chart : Chart) (list : List ℕ) {b : Bool} → b ≡ too_short chart
    → b || ltb (length list) window_length ≡ too_short chart || ltb (length list) window_length
judged chart list e = ap (λ b. b || ltb (length list) window_length) e

pub returns-then-too_short-list : goal.returns-then-too_short-list
returns-then-too_short-list c =
    let chart = viewed c.args.chart in
    let l = c.args.list.now in
    window-short chart (bounds_box c.args.w) l (sym (judged chart l c.too_short.ensures) ∙ c.if-too_short-list.true)

pub returns-then-not-chain_rule : goal.returns-then-not-chain_rule
returns-then-not-chain_rule c =
    let chart = viewed c.args.chart in
    let l = c.args.list.now in
    let long = sym (judged chart l c.too_short.ensures) ∙ c.if-too_short-list.false in
    window-broken chart (bounds_box c.args.w) l long (sym c.chain_rule.ensures ∙ c.if-not-chain_rule.true)

pub returns-then-w : goal.returns-then-w
unfolding empty_window
returns-then-w c =
    let chart = viewed c.args.chart in
    let l = c.args.list.now in
    let long = sym (judged chart l c.too_short.ensures) ∙ c.if-too_short-list.false in
    window-empty chart (bounds_box c.args.w) l long (sym c.chain_rule.ensures ∙ c.if-not-chain_rule.false) c.if-w.true

pub fill-requires : goal.fill-requires
unfolding empty_window
fill-requires c =
    let chart = viewed c.args.chart in
    let w = bounds_box c.args.w in
    let l = c.args.list.now in
    let long = sym (judged chart l c.too_short.ensures) ∙ c.if-too_short-list.false in
    record { chart = (chart-long chart w l long, sym c.chain_rule.ensures ∙ c.if-not-chain_rule.false); window = (c.if-w.false, list-long chart w l long) }

pub returns : goal.returns
unfolding empty_window
returns c =
    let chart = viewed c.args.chart in
    let l = c.args.list.now in
    let long = sym (judged chart l c.too_short.ensures) ∙ c.if-too_short-list.false in
    window-filled chart (bounds_box c.args.w) l long (sym c.chain_rule.ensures ∙ c.if-not-chain_rule.false) c.if-w.false c.fill.ensures
