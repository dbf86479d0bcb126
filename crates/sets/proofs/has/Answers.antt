-- `sets::has` meets its contract. The shift by i and the remainder by 2 are the rules' own test.
use Rattle.std.proofs.Common.{refl}
use Rattle.rules.specs.Sets.{has}
use Rattle.sets.proofs.has.Goals as goal

pub returns : goal.returns
unfolding has
returns c = refl
