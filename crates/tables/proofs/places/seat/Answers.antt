-- `tables::places::seat` meets its contract: nobody has no place, and of somebody the scan finds the lowest. Assumes nothing.
use Rattle.std.proofs.Common.{◌≡◌, ℕ, Option, Some, None, rules, sym, ◌∙◌}
use Rattle.calls.specs.declared.existing.Place.{Place}
use Rattle.lookups.specs.Places.{seat_number}
use Rattle.lookups.specs.Scans.{first_at}
use Rattle.tables.specs.Test.{IsSeat}
use Rattle.tables.specs.Seats.{seat_nobody, seat_somebody}
use Rattle.tables.proofs.places.seat.Goals as goal

numbered : (r : Option Place) (n : ℕ) → seat_number r ≡ n → IsSeat r n
numbered None n e = sym e
numbered (Some p) n e = e

pub returns-then-eq : goal.returns-then-eq
returns-then-eq c = seat_nobody _ _ (search rules)

pub returns : goal.returns
unfolding first_at
returns c = numbered c.seat.result _ (c.seat.ensures ∙ sym (seat_somebody _ _ (search rules)))
