-- The position stands after the triangle, or 65535 alone.
use mathlib.Core.Path.{sym, ◌∙◌, ap}
use native.Mathlib.Omega.{arith}
use Rattle.spec_plane.specs.Position.{position_number}
use Rattle.log_lines.proofs.LineLaws.{wrote_as}
use Rattle.log_events.proofs.EventLaws.{room-three, room-four}
use Rattle.call_locate.proofs.CallLaws.{located-number}
use Rattle.log_readers.proofs.ReaderCommandLaws.{found-line, nowhere-line}
use Rattle.log_readers.proofs.put_located.Goals as goal

pub put_line-requires : goal.put_line-requires
put_line-requires c =
    omega (arith, c.requires, room-four 6 c.from-number.result c.from-triangle.result c.from-position.result (omega arith) (omega arith) (omega arith) (omega arith))

pub returns-then-is_found : goal.returns-then-is_found
returns-then-is_found c =
    wrote_as
    (found-line c.args.located (sym c.is_found.ensures ∙ c.if-is_found.true) (c.from-number.ensures ∙ c.number.ensures ∙ located-number c.args.located)
    (c.from-triangle.ensures ∙ c.located_triangle.ensures)
    (c.from-position.ensures ∙ c.position_number.ensures ∙ ap position_number c.located_position-q.ensures))
    c.put_line.ensures

pub put_line-requires-2 : goal.put_line-requires-2
put_line-requires-2 c =
    omega (arith, c.requires, room-three 6 c.from-number.result c.from-triangle.result (omega arith) (omega arith) (omega arith))

pub returns : goal.returns
returns c =
    wrote_as
    (nowhere-line c.args.located (sym c.is_found.ensures ∙ c.if-is_found.false) (c.from-number.ensures ∙ c.number.ensures ∙ located-number c.args.located)
    (c.from-triangle.ensures ∙ c.located_triangle.ensures))
    c.put_line-2.ensures
