-- `lookups::seat` meets its contract: a scan finds no more than it looks at. Assumes nothing.
use Rattle.std.proofs.Common.{arith}
use Rattle.lookups.proofs.Scanning.{first_at_most}
use Rattle.lookups.proofs.seat.Goals as goal

pub place-requires : goal.place-requires
place-requires c = omega (arith, c.scan.ensures, first_at_most c.args.words.now 514 32 c.args.x.num)
