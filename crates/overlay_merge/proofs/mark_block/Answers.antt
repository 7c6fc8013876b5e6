-- Both runs go up to where the larger of the two cells ends, and each item of the one is marked with each of the other.
use mathlib.Core.Path.{◌∙◌, ap₂}
use Prim.Native.Nat.{◌*◌, max}
use Rattle.overlay_merge.proofs.mark_block.Goals as goal

pub returns : goal.returns
returns c =
    let p = c.cell_end-p in
    let q = c.cell_end-q in
    let s = c.run_end-s.ensures in
    let t = c.run_end-t.ensures in
    record {
      end = c.max-end.result;
      ends = record {
        p = p.result;
        q = q.result;
        first = p.ensures;
        second = q.ensures;
        end = c.max-end.ensures ∙ ap₂ max c.key_from-first_end.ensures c.key_from-second_end.ensures;
      };
      first = s.ends;
      second = t.ends;
      count = ap₂ ◌*◌ (s.count _ p.ensures) (t.count _ q.ensures);
      marks = c.mark_parts.ensures;
    }
