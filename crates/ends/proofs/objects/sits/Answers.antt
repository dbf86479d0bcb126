-- `ends::objects::sits` meets its contract. The place is found, or there is none.
-- Assumes nothing.
use Rattle.std.proofs.Common.{ap, sym, ◌∙◌, le_refl}
use Rattle.lookups.specs.Places.{seat_number}
use Rattle.lookups.specs.Scans.{first_at}
use Rattle.ends_laws.specs.Scans.{seat, sits_there, sits_nowhere}
use Rattle.ends.proofs.objects.sits.Goals as goal

pub returns-in-Some : goal.returns-in-Some
unfolding seat first_at
returns-in-Some c = let p = c.in-Some.p in
    sits_there c.args.words.now c.args.f c.args.x.num p.num (ap seat_number (sym c.in-Some.is) ∙ c.seat.ensures) p.exists _ c.has.ensures

pub returns-in-None : goal.returns-in-None
unfolding seat first_at
returns-in-None c =
    sits_nowhere c.args.words.now c.args.f c.args.x.num 32 (ap seat_number (sym c.in-None.is) ∙ c.seat.ensures) (le_refl 32)
