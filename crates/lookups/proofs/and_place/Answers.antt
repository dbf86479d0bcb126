-- `lookups::and_place` meets its contract. The shifted bit is 2 to the p, which the width keeps in range.
-- Assumes nothing.
use Rattle.std.proofs.Common.{ap, sym, ◌∙◌, Bool, cond, ℕ, ◌+◌, ◌^◌, arith}
use lib.Pow.{pow-lt}
use Rattle.sets.proofs.Members.{bit_is}
use Rattle.lookups.proofs.and_place.Goals as goal

pub overflow_add-result : goal.overflow_add-result
overflow_add-result c = omega (arith, bit_is c.args.p c.requires.1, pow-lt c.requires.1)

pub returns-then-passes : goal.returns-then-passes
returns-then-passes c = ap (λ (n : ℕ). c.args.s + n)
    (bit_is c.args.p c.requires.1
    ∙ sym (ap (λ (b : Bool). cond b (2 ^ c.args.p) 0) c.if-passes.true))

pub returns-else-passes : goal.returns-else-passes
returns-else-passes c = omega (arith, ap (λ (b : Bool). cond b (2 ^ c.args.p) 0) c.if-passes.false)
