-- `sets::count` meets its contract. Every 32-bit number is a set of the width, and its set bits are its members.
use Rattle.std.proofs.Common.{sym, rules}
use Rattle.rules.specs.Sets.{width}
use Rattle.counting_laws.specs.Counting.{count_is_ones}
use Rattle.sets.proofs.count.Goals as goal

pub returns : goal.returns
returns c = sym (count_is_ones width c.args.s (search rules))
