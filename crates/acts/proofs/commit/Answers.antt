-- `acts::commit` meets its contract: the record that commit adds is the next after those that the log counts.
-- Assumes nothing.
use Rattle.std.proofs.Common.{ap, ◌∙◌, suc, add-one, arith}
use Rattle.rules.specs.Tables.{lsn}
use Rattle.rules.specs.Layout.{log_count_at, word}
use Rattle.words_laws.specs.Words.{sound_words_say}
use Rattle.lookups.proofs.Fitting.{fitting}
use Rattle.acts.proofs.commit.Goals as goal

pub overflow_add-number : goal.overflow_add-number
overflow_add-number c = omega (arith, fitting c.args.words.now c.requires.0)

pub returns-clause-given : goal.returns-clause-given
returns-clause-given c = let ws = c.args.words.now in
    ap lsn (add-one (word ws log_count_at) ∙ ap suc (sound_words_say ws c.requires.0).log_count)
