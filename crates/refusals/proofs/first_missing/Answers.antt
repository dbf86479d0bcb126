-- `refusals::first_missing` meets its contract. An object lacks its writer's entry by the words where it does by the tables, over
-- all the entries of its chain.
-- Assumes nothing.
use Rattle.std.proofs.Common.{◌∙◌, true}
use Rattle.refusals.proofs.Entries.{first_lacking_says}
use Rattle.refusals.proofs.first_missing.Goals as goal

pub returns : goal.returns
returns c = c.first_lacking.ensures ∙ first_lacking_says c.args.t.now.words.now c.args.t.now.sound c.args.live c.requires true
