use Rattle.quadtree_stopping.proofs.CoordinateLaws.{triangle-kept}
use Rattle.quadtree_stopping.proofs.Shapes.corners_at.Goals as goal

pub returns : goal.returns
returns c = triangle-kept c.args.self.corners.now c.args.i
