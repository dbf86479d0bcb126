-- `lookups::place_of` meets its contract. The place is what `seat` finds among the live transactions' numbers.
-- Assumes nothing.
use Rattle.std.proofs.Common.{◌∙◌}
use Rattle.lookups.proofs.Scanning.{first_place}
use Rattle.lookups.proofs.place_of.Goals as goal

pub returns : goal.returns
returns c = c.seat.ensures ∙ first_place c.args.t.now.words.now c.args.x.num
