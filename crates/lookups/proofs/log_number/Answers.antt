-- `lookups::log_number` meets its contract. The log number is one more than what a scan of the records finds.
-- Assumes nothing.
use Rattle.std.proofs.Common.{ap, ◌∙◌, List, ℕ, suc, one-add, arith}
use Rattle.rules.specs.Tables.{lsn}
use Rattle.rules.specs.Layout.{log_count_at, log_at, word}
use Rattle.lookups.proofs.Fitting.{log_fits}
use Rattle.lookups.proofs.Scanning.{first_at_most, first_record}
use Rattle.lookups.proofs.log_number.Goals as goal

pub overflow_add-number : goal.overflow_add-number
overflow_add-number c = let ws : List ℕ = c.args.t.now.words.now in
    omega (arith, log_fits ws c.args.t.now.sound, first_at_most ws log_at (word ws log_count_at) c.args.x.num, c.scan.ensures)

pub returns : goal.returns
returns c = let ws : List ℕ = c.args.t.now.words.now in
    ap lsn
    (one-add c.scan.result ∙ ap suc c.scan.ensures ∙ first_record ws c.args.x.num (log_fits ws c.args.t.now.sound))
