-- `refusals::first_unsaved` meets its contract. An object lacks its writer's entry by the words where it does by the tables, over
-- the saved entries of its chain.
-- Assumes nothing.
use Rattle.std.proofs.Common.{◌∙◌, false}
use Rattle.refusals.proofs.Entries.{first_lacking_says}
use Rattle.refusals.proofs.first_unsaved.Goals as goal

pub returns : goal.returns
returns c = c.first_lacking.ensures ∙ first_lacking_says c.args.t.now.words.now c.args.t.now.sound c.args.live c.requires false
