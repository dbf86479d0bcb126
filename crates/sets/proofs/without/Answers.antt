-- `sets::without` meets its contract. A member that is there takes its bit away; one that is not changes nothing.
use Rattle.std.proofs.Common.{◌≡◌, ◌+◌, sym, ◌∙◌, arith}
use Rattle.rules.specs.Sets.{without_member}
use Rattle.sets.proofs.Members.{bit, without_old, without_new}
use Rattle.sets.proofs.without.Goals.{Then-has}
use Rattle.sets.proofs.without.Goals as goal

-- what the bit leaves where i was a member
taken : (c : Then-has) → c.args.s ≡ without_member c.args.s c.args.i + bit c.args.i
taken c = without_old c.args.s c.args.i c.requires.0 c.requires.1 (sym c.has.ensures ∙ c.if-has.true)

pub overflow_sub-result : goal.overflow_sub-result
overflow_sub-result c = omega (arith, taken (goal.at.overflow_sub-result c).Then-has)

pub returns-then-has : goal.returns-then-has
returns-then-has c = omega (arith, taken (goal.at.returns-then-has c).Then-has)

pub returns-else-has : goal.returns-else-has
returns-else-has c = without_new c.args.s c.args.i c.requires.0 c.requires.1 (sym c.has.ensures ∙ c.if-has.false)
