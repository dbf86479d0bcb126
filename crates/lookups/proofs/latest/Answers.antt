-- `lookups::latest` meets its contract. The saved and the queued entries stand in one row, so the chain's last entry stands
-- one before their count, and where the count is 0 the stable version is the latest.
-- Assumes nothing.
use Rattle.std.proofs.Common.{◌∙◌}
use Rattle.lookups.proofs.Fitting.{fitting}
use Rattle.lookups.proofs.Chains.{latest_stable, latest_chained}
use Rattle.lookups.proofs.latest.Goals as goal

pub returns-then-count-eq0 : goal.returns-then-count-eq0
returns-then-count-eq0 c = let a = c.args in
    c.entry_at.ensures
    ∙ latest_stable a.t.now.words.now (fitting a.t.now.words.now c.args.t.now.sound) a.o.num a.o.exists c.if-count-eq0.true

pub returns-else-count-eq0 : goal.returns-else-count-eq0
returns-else-count-eq0 c = let a = c.args in
    c.entry_at-else-count-eq0.ensures
    ∙ latest_chained a.t.now.words.now (fitting a.t.now.words.now c.args.t.now.sound) a.o.num a.o.exists c.if-count-eq0.false
