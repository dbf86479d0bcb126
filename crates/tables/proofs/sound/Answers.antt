-- `tables::sound` meets its contract. Words whose counts are out of range are not sound (`counts_fail`); of the others
-- the rest's answer is the answer (`rest_answers`). That each value fits a word is the slice's own rule. Assumes
-- nothing.
use Rattle.std.proofs.Common.{◌∙◌, rules}
use Rattle.tables.specs.Told.{counts_fail, rest_answers}
use Rattle.tables.proofs.sound.Goals as goal

pub returns-then-counts_sound : goal.returns-then-counts_sound
returns-then-counts_sound c = rest_answers _ (λ k. (c.type_inv.words k).fits) (search rules) _ c.rest_sound.ensures

pub returns-else-counts_sound : goal.returns-else-counts_sound
returns-else-counts_sound c = c.if-counts_sound.false ∙ counts_fail _ (λ k. (c.type_inv.words k).fits) (search rules)
