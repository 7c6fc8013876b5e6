-- So far the sum is that of the triangles before i, each of them below 2^34, so it fits 64 bits.
use mathlib.Core.Path.{◌≡◌}
use Prim.Native.Nat.{◌*◌, ◌≤◌, ◌-◌}
use Rattle.spec_charts.specs.Table.{table_of}
use Rattle.spec_charts.specs.Reading.{total_area}
use Rattle.call_area.proofs.sum.Given as goal

abbrev pub invariant-loop-i : goal.invariant-loop-i
invariant-loop-i l = (l.s ≤ 17179869184 * l.i) × (l.s ≡ total_area (table_of l.table l.i))
