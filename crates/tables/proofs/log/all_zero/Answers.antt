-- `tables::log::all_zero` meets its contract: what is gathered is 0 exactly where each word is. Assumes nothing.
use Rattle.std.proofs.Common.{rules}
use Rattle.tables.specs.Bits.{tells_gathered}
use Rattle.tables.proofs.log.all_zero.Goals as goal

pub returns : goal.returns
returns c = tells_gathered _ _ (search rules)
