-- `stepping::session` meets its contract: fresh words are sound, and from them, with nothing kept, all of the input is answered.
-- Assumes nothing.
use Rattle.std.proofs.lemmas.Result.{on_ok_weaker}
use Rattle.stepping.specs.Whole.{writes_session}
use Rattle.stepping.proofs.Starting.{starts_sound}
use Rattle.stepping.proofs.session.Goals as goal

pub invariant_of-answerer : goal.invariant_of-answerer
invariant_of-answerer g c = record { sound = starts_sound c.fresh.ensures }

pub returns : goal.returns
returns g c = on_ok_weaker _ (writes_session _ _ _ _ _ c.fresh.ensures) c.serve.ensures
