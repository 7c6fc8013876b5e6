-- Every list of events comes to the same end as one that 16-bit numbers write.
-- The idea: an event with a number beyond 16 bits is refused, but for the numbers of a load, and so is what is written in its place.
-- Assumes nothing.
use mathlib.Core.Path.{◌≡◌, refl, sym, ◌∙◌, ap}
use mathlib.Core.Bool.{Bool, true, false, cond}
use mathlib.Core.List.{List, [], ◌∷◌, map}
use Prim.Native.Nat.{ℕ, ◌<◌, min}
use native.Mathlib.Omega.{arith}
use borrow.Author.Tests.{ltb-true}
use lib.Dec.{T, ltb}
use lib.ListN.{length}
use Rattle.theory_lists.specs.Lists.{all}
use Rattle.theory_lists.proofs.Reflects.{reflects-test}
use Rattle.theory_lists.proofs.ListsLaws.{Every, every-cons, every-uncons, all-reflects}
use Rattle.theory_lists.proofs.EveryLaws.{every-nil, every-imp, every_map}
use Rattle.spec_plane.specs.declared.Point.{Point}
use Rattle.spec_plane.proofs.ExtremeLaws.{OnGrid}
use Rattle.spec_charts.specs.Table.{Table, IsTable, sixteen_bit}
use Rattle.spec_charts.specs.Refusals.{done_or}
use Rattle.spec_charts.specs.Edits.{Event, load, insert, take_out, flip, sixteen_bit_event, after_event, after_events, plain_table}
use Rattle.spec_charts.proofs.Evaluate.{evaluate}
use Rattle.laws_charts.proofs.GridLaws.{sixteen_bit-reflects}
use Rattle.laws_charts.proofs.EventTable.{after-event-table, plain-table}
use Rattle.laws_charts.proofs.EventPoint.{PointOnGrid, off-grid-stays}
use Rattle.spec_calls.specs.Buffers.{Chart, too_short, indexed_chart}
use Rattle.spec_calls.specs.History.{chart_after}
use Rattle.laws_calls.proofs.HistoryLaws.{events-short}
use Rattle.laws_histories.proofs.ChartHistory.{history-chart}
use Rattle.replay_calls.specs.Encoding.{decode, call_numbers, encode, expressible, refused_load, shortened, point_fits, clipped}
use Rattle.replay_calls.proofs.EncodeLaws.{decode-encode, encode-words}
use Rattle.replay_calls.proofs.ShortenedLaws.{shortened_same}

-- ---- any event

-- a point that fits is on the grid
fits-grid : (p : Point) → OnGrid p → T (sixteen_bit (p.x ∷ p.y ∷ []))
fits-grid p g =
    let x = g.x in
    let y = g.y in
    (sixteen_bit-reflects (p.x ∷ p.y ∷ [])).from (every-cons (omega arith, every-cons (omega arith, every-nil (λ n. n < 65536))))

point-fits : (e : Event) → PointOnGrid e → T (point_fits e)
unfolding point_fits
point-fits (load ns) g = tt
point-fits (insert p) g = fits-grid p g
point-fits (take_out p) g = fits-grid p g
point-fits (flip i j) g = tt

-- the load that is refused changes nothing
refused-stays : (table : Table) → after_event refused_load table ≡ table
unfolding evaluate
refused-stays table = refl

-- what is written makes of a table what the event makes of it
pub clipped-after : (e : Event) (table : Table) → IsTable table → after_event (clipped e) table ≡ after_event e table
unfolding clipped after_event
clipped-after e table h = go (point_fits e) refl
  where
    go : (b : Bool) → point_fits e ≡ b → after_event (cond b (shortened e) refused_load) table ≡ after_event e table
    go true f = ap (done_or table) (shortened_same table h.few e)
    go false f = refused-stays table ∙ sym (off-grid-stays h e (λ g. rw f at (point-fits e g)))

-- the load that is refused is expressible
refused-expressible : T (expressible refused_load)
unfolding expressible call_numbers sixteen_bit all
refused-expressible = tt

-- a command and a point
point-expressible : (k : ℕ) (p : Point) → k < 65536 → T (sixteen_bit (p.x ∷ p.y ∷ [])) → T (sixteen_bit (k ∷ p.x ∷ p.y ∷ []))
point-expressible k p h f =
    (sixteen_bit-reflects (k ∷ p.x ∷ p.y ∷ [])).from (every-cons (h, (sixteen_bit-reflects (p.x ∷ p.y ∷ [])).to f))

-- and is expressible
shortened-expressible : (e : Event) → T (sixteen_bit_event e) → T (point_fits e) → T (expressible (shortened e))
unfolding shortened point_fits expressible call_numbers sixteen_bit_event
shortened-expressible (load ns) w f = go (ltb (length ns) 65536) refl
  where
    go : (b : Bool) → ltb (length ns) 65536 ≡ b → T (sixteen_bit (call_numbers (cond b (load ns) refused_load)))
    go true e =
        let l = ltb-true (length ns) 65536 e in
        (sixteen_bit-reflects (2 ∷ length ns ∷ ns)).from (every-cons (omega arith, every-cons (l, (sixteen_bit-reflects ns).to w)))
    go false e = refused-expressible
shortened-expressible (insert p) w f = point-expressible 3 p (omega arith) f
shortened-expressible (take_out p) w f = point-expressible 4 p (omega arith) f
shortened-expressible (flip i j) w f =
    (sixteen_bit-reflects (5 ∷ min i 65535 ∷ min j 65535 ∷ [])).from
    (every-cons (omega arith, every-cons (omega arith, every-cons (omega arith, every-nil (λ n. n < 65536)))))

pub clipped-expressible : (e : Event) → T (sixteen_bit_event e) → T (expressible (clipped e))
unfolding clipped
clipped-expressible e w = go (point_fits e) refl
  where
    go : (b : Bool) → point_fits e ≡ b → T (expressible (cond b (shortened e) refused_load))
    go true f = shortened-expressible e w (rw f tt)
    go false f = refused-expressible

-- ---- any list of events

-- of an expressible event the numbers of a load are 16-bit
expressible-words : (e : Event) → T (expressible e) → T (sixteen_bit_event e)
unfolding expressible call_numbers sixteen_bit_event
expressible-words (load ns) h =
    (sixteen_bit-reflects ns).from (every-uncons (every-uncons ((sixteen_bit-reflects (2 ∷ length ns ∷ ns)).to h)).1).1
expressible-words (insert p) h = tt
expressible-words (take_out p) h = tt
expressible-words (flip i j) h = tt

clipped-table : (es : List Event) (table : Table) → Every (λ e. T (sixteen_bit_event e)) es → IsTable table
    → after_events (map (λ e. clipped e) es) table ≡ after_events es table
unfolding after_events
clipped-table [] table w h = refl
clipped-table (e ∷ es) table w h =
    let g = every-uncons w in
    ap (after_events (map (λ e. clipped e) es)) (clipped-after e table h) ∙ clipped-table es (after_event e table) g.1 (after-event-table e table g.0 h)

-- the numbers ms are 16-bit, and their calls bring every chart, begun by a load of the empty table, to where the events es bring it
pub record Written (es : List Event) (ms : List ℕ) : Type 0 where
  pub words : T (sixteen_bit ms)
  pub same : (c : Chart) → chart_after (load [] ∷ decode ms) c ≡ chart_after (load [] ∷ es) c

-- every list of events whose loads have 16-bit numbers is written so
pub all-written : (es : List Event) → T (all (λ e. sixteen_bit_event e) es) → Written es (encode (map (λ e. clipped e) es))
unfolding plain_table after_events all
all-written es w =
    let fs = map (λ e. clipped e) es in
    let each = (all-reflects (λ e. sixteen_bit_event e) (λ e. reflects-test (sixteen_bit_event e)) es).to w in
    let short = every_map (λ e. T (expressible e)) (λ e. clipped e) es (every-imp clipped-expressible each) in
    let v = (all-reflects (λ e. sixteen_bit_event e) (λ e. reflects-test (sixteen_bit_event e)) fs).from (every-imp expressible-words short) in
    record {
      words = encode-words fs ((all-reflects (λ e. expressible e) (λ e. reflects-test (expressible e)) fs).from short);
      same = λ c. ap (λ gs. chart_after (load [] ∷ gs) c) (decode-encode fs) ∙ go c v (clipped-table es [] each (plain-table [] tt)) (too_short c) refl;
    }
  where
    go : (c : Chart) → T (all (λ e. sixteen_bit_event e) (map (λ e. clipped e) es)) → after_events (map (λ e. clipped e) es) [] ≡ after_events es []
        → (b : Bool) → too_short c ≡ b → chart_after (load [] ∷ map (λ e. clipped e) es) c ≡ chart_after (load [] ∷ es) c
    go c v e true s = events-short c s (load [] ∷ map (λ e. clipped e) es) ∙ sym (events-short c s (load [] ∷ es))
    go c v e false s = history-chart c s (map (λ e. clipped e) es) v ∙ ap (indexed_chart c) e ∙ sym (history-chart c s es w)
