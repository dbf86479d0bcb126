-- `ends::crash` meets its contract. The loop's invariant: the words are those after so many turns, and so many entries
-- were dropped.
-- Assumes nothing.
use Rattle.std.proofs.Common.{◌≡◌, ◌*◌, ◌≤◌}
use Rattle.rules.specs.Tests.{sum}
use Rattle.rules.specs.Tables.{chain_room}
use Rattle.ends_laws.specs.Loops.{Turned}
use Rattle.ends_laws.specs.Crash.{crash_object}
use Rattle.ends_laws.specs.Leaves.{dropped as dropped-in}
use Rattle.ends.proofs.crash.Given as goal

abbrev pub invariant-loop-i : goal.invariant-loop-i
invariant-loop-i l = Turned (crash_object l.objects) l.initial.words l.words l.i
    × (l.dropped ≡ sum l.i (dropped-in l.initial.words l.objects))
    × (l.dropped ≤ chain_room * l.i)
