-- `sets::within` meets its contract. The `&` of the two is the first just where the first lies within the second.
use Rattle.sets.proofs.Both.{and_is_within}
use Rattle.sets.proofs.within.Goals as goal

pub returns : goal.returns
returns c = and_is_within c.args.s c.args.t c.requires.0
