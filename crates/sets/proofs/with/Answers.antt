-- `sets::with` meets its contract. A member that is there changes nothing; one that is not adds its bit, and the set that
-- this makes fits the width.
use Rattle.std.proofs.Common.{◌≡◌, ◌+◌, sym, ◌∙◌, arith}
use Rattle.rules.specs.Sets.{with_member}
use Rattle.basics.specs.Sets.{with_member_lt}
use Rattle.sets.proofs.Members.{bit, with_old, with_new}
use Rattle.sets.proofs.with.Goals.{Else-has}
use Rattle.sets.proofs.with.Goals as goal

-- what the bit makes where i was no member
added : (c : Else-has) → c.args.s + bit c.args.i ≡ with_member c.args.s c.args.i
added c = with_new c.args.s c.args.i c.requires.0 c.requires.1 (sym c.has.ensures ∙ c.if-has.false)

pub overflow_add-result : goal.overflow_add-result
overflow_add-result c = omega (arith, added (goal.at.overflow_add-result c).Else-has, with_member_lt c.args.s c.args.i)

pub returns-then-has : goal.returns-then-has
returns-then-has c = with_old c.args.s c.args.i c.requires.0 c.requires.1 (sym c.has.ensures ∙ c.if-has.true)

pub returns-else-has : goal.returns-else-has
returns-else-has c = added (goal.at.returns-else-has c).Else-has
