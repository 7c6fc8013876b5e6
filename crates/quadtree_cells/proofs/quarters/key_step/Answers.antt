use Rattle.quadtree_cells.proofs.StepLaws.{key-step-is}
use Rattle.quadtree_cells.proofs.quarters.key_step.Goals as goal

pub returns : goal.returns
returns c =
    key-step-is c.args.level c.requires
