-- `ends::fresh` meets its contract. Words with 1 first and zero behind it are fresh tables.
-- Assumes nothing.
use Rattle.std.proofs.Common.{◌∙◌}
use Rattle.ends_laws.specs.Fresh.{fresh_packs}
use Rattle.ends.proofs.fresh.Goals as goal

pub returns : goal.returns
returns c = fresh_packs c.zero_rest.new.words (c.zero_rest.auto.words ∙ c.fresh_log.auto.words ∙ c.requires) c.zero_rest.ensures
