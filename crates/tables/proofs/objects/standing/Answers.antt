-- `tables::objects::standing` meets its contract. A logged transaction has no place (`logged_no_seat`). Assumes
-- nothing.
use Rattle.std.proofs.Common.{sym, arith}
use Rattle.tables.specs.Standing.{logged_no_seat}
use Rattle.tables.proofs.objects.standing.Goals as goal

pub returns-in-Some : goal.returns-in-Some
returns-in-Some c = record { number_is = c.in-Some.ensures; seat_is = sym (logged_no_seat _ _ c.requires.unlogged (omega (arith, c.in-Some.found.exists, c.in-Some.ensures))) }
