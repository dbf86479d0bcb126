use Rattle.std.proofs.Common.{arith}
use Rattle.tables.specs.Bits.{or_zero, gathers_none, gathers_more}
use Rattle.tables.specs.Tells.{tells_as, tells_equal}
use Rattle.tables.proofs.objects.zero_from.Goals as goal

pub loop-j-init : goal.loop-j-init
loop-j-init c = (omega arith, omega arith, gathers_none _ _)

pub loop-j-preserved : goal.loop-j-preserved
loop-j-preserved c = let inv = c.loop-j.invariant in
    (omega arith, omega arith, gathers_more _ _ _ _ inv.0 inv.2)

pub returns : goal.returns
returns c = let gathers = c.loop-j.invariant.2 in
    tells_as _ (tells_equal _ _)
    (λ e j h k. (or_zero _ _).0 (gathers.0 e j (omega arith) k))
    (λ f. gathers.1 (λ j h k. (or_zero _ _).1 (f j (omega arith) k)))
