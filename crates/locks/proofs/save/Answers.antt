-- `locks::save` meets its contract: its two writes are `saved_words`, which `saved_right` says are what save leaves.
-- Assumes nothing.
use Rattle.words_laws.specs.Says.{queued_count}
use Rattle.locks_laws.specs.Fields.{shown}
use Rattle.locks_laws.specs.Saved.{saved_right}
use Rattle.locks.proofs.save.Goals as goal

pub returns : goal.returns
returns c = let ws = c.args.words.now in (
  (shown ws c.requires).column queued_count c.args.o.num c.args.o.exists,
  saved_right ws c.requires c.args.o.num c.args.o.exists,
)
