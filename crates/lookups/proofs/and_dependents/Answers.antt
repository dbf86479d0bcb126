-- `lookups::and_dependents` meets its contract: all places are asked about the set as it was when the round began.
-- Assumes nothing.
use Rattle.std.proofs.Common.{rules}
use Rattle.rules.specs.Layout.{unpack}
use Rattle.rules.specs.Falls.{and_dependents}
use Rattle.lookups.specs.Rounds.{joins_in}
use Rattle.lookups.proofs.and_dependents.Goals as goal

pub returns : goal.returns
unfolding and_dependents
returns c =
    c.places_where.ensures (joins_in (unpack c.args.t.now.words.now).live c.args.s) (λ p b answers. search rules)
