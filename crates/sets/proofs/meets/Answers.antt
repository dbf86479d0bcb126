-- `sets::meets` meets its contract. The `&` of the two has a member just where they meet.
use Rattle.sets.proofs.Both.{and_is_meets}
use Rattle.sets.proofs.meets.Goals as goal

pub returns : goal.returns
returns c = and_is_meets c.args.s c.args.t c.requires.0
