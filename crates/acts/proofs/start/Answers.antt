-- `acts::start` meets its contract: the word read before is the next number, which start gives out.
-- Assumes nothing.
use Rattle.std.proofs.Common.{ap}
use Rattle.rules.specs.Tables.{txn}
use Rattle.words_laws.specs.Words.{sound_words_say}
use Rattle.acts.proofs.start.Goals as goal

pub returns-clause-given : goal.returns-clause-given
returns-clause-given c = ap txn (sound_words_say c.args.words.now c.requires.0).next
