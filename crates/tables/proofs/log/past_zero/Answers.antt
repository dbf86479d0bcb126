-- `tables::log::past_zero` meets its contract: the part past the last record is what it tells of. Assumes nothing.
use Rattle.std.proofs.Common.{arith}
use Rattle.tables.specs.Bits.{rest_zero}
use Rattle.tables.specs.Tells.{tells_as}
use Rattle.tables.proofs.log.past_zero.Goals as goal

pub returns : goal.returns
returns c = let zero = rest_zero c.args.words.now 2 _ 512 (omega arith) in
    tells_as _ c.all_zero.ensures zero.0 zero.1
