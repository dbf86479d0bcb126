use Rattle.std.proofs.Common.{◌≡◌, refl, ap, ◌∙◌, add-one, arith}
use Rattle.rules.specs.Tests.{row}
use Rattle.frames.specs.Parts.{digit_values}
use Rattle.frames.proofs.Stretches.{character_at}
use Rattle.frames.proofs.digits.Digits.new.Invariants.{marked}
use Rattle.frames.proofs.digits.Digits.new.Goals as goal

-- the table's rule, computed
all_marked : marked 16 ≡ digit_values
unfolding marked digit_values row
all_marked = refl

pub loop-number-init : goal.loop-number-init
unfolding marked
loop-number-init c = (refl, refl)

pub loop-number-preserved : goal.loop-number-preserved
unfolding marked
loop-number-preserved c = (
  c.loop-number.invariant.0,
  rw (add-one, character_at c.loop-number.number c.loop-number-test.true, c.loop-number.invariant.1),
)

pub invariant_of-result : goal.invariant_of-result
invariant_of-result c = let all_passed : c.loop-number.number ≡ 16 = omega arith in
    record { each = c.loop-number.invariant.1 ∙ ap marked all_passed ∙ all_marked }
