-- `maruvoog::ask` meets its contract: it is `one` at the call that has this kind and these fields.
-- Assumes nothing.
use Rattle.maruvoog.specs.Unused.{as_ruled}
use Rattle.maruvoog.proofs.ask.Goals as goal

pub invariant_of-c : goal.invariant_of-c
invariant_of-c c = record { unused = as_ruled c.args.kind c.args.txn c.args.object c.args.value c.requires }
