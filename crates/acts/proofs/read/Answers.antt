-- `acts::read` meets its contract: packed tables have each working value at its word.
-- Assumes nothing.
use Rattle.std.proofs.Common.{ap, ◌∙◌, List, ℕ, ◌+◌}
use Rattle.rules.specs.Tables.{txn, obj}
use Rattle.rules.specs.Steps.{access, read}
use Rattle.rules.specs.Layout.{working_at, word, unpack}
use Rattle.words_laws.specs.Says.{working, pack_says}
use Rattle.acts.proofs.read.Goals as goal

pub returns-clause-given : goal.returns-clause-given
unfolding read
returns-clause-given c = let o = c.args.o in
    ap (λ (ws : List ℕ). word ws (working_at + o.num)) c.access.ensures
    ∙ (pack_says (access (unpack c.args.words.now) (txn c.args.live.who.num) (obj o.num))).column working o.num o.exists

pub returns-clause-left : goal.returns-clause-left
unfolding read
returns-clause-left c = c.access.ensures
