-- `ends::settle_all` meets its contract. The loop's invariant: the words hold the tables with the first objects
-- settled.
-- Assumes nothing.
use Rattle.std.proofs.Common.{◌≡◌, ◌≤◌}
use Rattle.rules.specs.Tables.{object_count}
use Rattle.rules.specs.Layout.{pack, unpack}
use Rattle.ends_laws.specs.Restart.{settle_first}
use Rattle.ends.proofs.settle_all.Given as goal

abbrev pub invariant-loop-i : goal.invariant-loop-i
invariant-loop-i l = (l.i ≤ object_count) × (l.words ≡ pack (settle_first l.i (unpack l.initial.words)))
