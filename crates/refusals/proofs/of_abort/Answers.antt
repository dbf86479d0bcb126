-- `refusals::of_abort` meets its contract. An abort is refused only where its transaction is not live.
-- Assumes nothing.
use Rattle.std.proofs.Common.{[]}
use Rattle.std.proofs.Math.Option.{none}
use Rattle.rules.specs.Answers.{is_abort}
use Rattle.calls.specs.Meaning.{txn_of}
use Rattle.refusals.proofs.Deciding.{handed_up, no_reason}
use Rattle.refusals.proofs.Ending.{ending, aborts, unlive, then}
use Rattle.refusals.proofs.of_abort.Goals as goal

pub returns-in_err-of_transaction : goal.returns-in_err-of_transaction
returns-in_err-of_transaction c = rw (handed_up c.from_residual.ensures) (unlive c.args.s.now.tables aborts c.in_err-of_transaction.ensures)

pub returns : goal.returns
returns c = then c.args.s.now.tables aborts c.in_ok-of_transaction.ensures none
    (no_reason c.args.s.now.tables.words.now (ending is_abort (txn_of c.in_ok-of_transaction.field-0.who)) [] tt)
