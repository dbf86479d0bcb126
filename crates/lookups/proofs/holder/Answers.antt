-- `lookups::holder` meets its contract. In sound words the word that is read is the holder's number in the tables.
-- Assumes nothing.
use Rattle.std.proofs.Common.{ap}
use Rattle.rules.specs.Tables.{txn}
use Rattle.words_laws.specs.Says.{holder}
use Rattle.words_laws.specs.Words.{sound_words_say}
use Rattle.lookups.proofs.holder.Goals as goal

pub returns-clause-sound : goal.returns-clause-sound
returns-clause-sound c = λ s. ap txn ((sound_words_say c.args.words.now s).column holder c.args.o.num c.args.o.exists)
