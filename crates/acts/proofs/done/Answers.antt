-- `acts::done` meets its contract: a call that nothing refuses is answered with 00 and what its kind gives.
-- Assumes nothing.
use Rattle.std.proofs.Common.{sym}
use Rattle.calls.specs.Calls.{call_of}
use Rattle.acts.proofs.Answered.{done_acts}
use Rattle.acts.proofs.done.Goals as goal

pub returns : goal.returns
returns c = done_acts c.args.words.now (call_of c.args.c) _ _ (sym c.requires.1) c.done.ensures c.give-value.ensures
