use Rattle.std.proofs.Common.{refl, arith}
use Rattle.rules.specs.Sets.{collect}
use Rattle.lookups.proofs.Growing.{below_next, grows}
use Rattle.lookups.proofs.places_where.Goals as goal

pub loop-p-init : goal.loop-p-init
unfolding collect
loop-p-init g c = (omega arith, omega arith, λ test says. refl)

pub loop-p-preserved : goal.loop-p-preserved
loop-p-preserved g c = let loop = c.loop-p in (
  omega arith,
  below_next loop.p loop.set c.and_place-set.result c.passes.result loop.invariant.1 c.and_place-set.ensures,
  λ test says.
      grows test loop.p loop.set c.and_place-set.result c.passes.result (loop.invariant.2 test says) c.and_place-set.ensures
      (says _ _ c.passes.ensures),
)
