use Rattle.quadtree_shapes.proofs.MaskLaws.{missed-none}
use Rattle.quadtree_shapes.proofs.side_masks.missed.Goals as goal

pub returns : goal.returns
returns c =
    missed-none c.args.m c.args.p c.args.a c.args.b c.args.c c.requires
