-- `sets::lowest` meets its contract. Below the lowest member are the trailing zeros.
use Rattle.std.proofs.Common.{sym}
use Rattle.rules.specs.Sets.{width}
use Rattle.counting_laws.specs.Counting.{lowest_is_trailing_zeros}
use Rattle.sets.proofs.lowest.Goals as goal

pub returns : goal.returns
returns c = sym (lowest_is_trailing_zeros width c.args.s)
