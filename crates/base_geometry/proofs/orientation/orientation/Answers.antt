use mathlib.Core.Path.{ap₂}
use Prim.Native.Nat.{◌+◌}
use Rattle.base_geometry.proofs.Sums.{sums-orient}
use Rattle.base_geometry.proofs.orientation.orientation.Goals as goal

pub returns-clause-low_value : goal.returns-clause-low_value
returns-clause-low_value c =
    let a = c.args in sums-orient a.p a.q a.r
    (ap₂ ◌+◌ (ap₂ ◌+◌ c.product.ensures.0 c.product-2.ensures.0) c.product-3.ensures.0)
    (ap₂ ◌+◌ (ap₂ ◌+◌ c.product-4.ensures.0 c.product-5.ensures.0) c.product-6.ensures.0)
