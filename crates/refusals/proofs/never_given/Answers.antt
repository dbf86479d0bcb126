-- `refusals::never_given` meets its contract. Word 0 is the next number, and 0 names nobody.
-- Assumes nothing.
use Rattle.std.proofs.Common.{sym, arith}
use Rattle.std.proofs.lemmas.Bool.Decides.{nat_tests}
use Rattle.refusals.proofs.Readings.{saying}
use Rattle.refusals.proofs.never_given.Goals as goal

pub returns-else-eq : goal.returns-else-eq
returns-else-eq c = rw (sym c.if-eq.ensures) (grind (arith, nat_tests, (saying c.args.t.now.words.now c.args.t.now.sound).next))
