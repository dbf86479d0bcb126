-- `refusals::of_set` meets its contract. Sound words refuse a crash only for a set over 32 bits.
-- Assumes nothing.
use Rattle.std.proofs.Common.{refl, [], ◌∷◌}
use Rattle.std.proofs.Math.Option.{none, some}
use Rattle.rules.specs.Answers.{is_crash, kind_number, Call, no_such_object, order}
use Rattle.rules.specs.Layout.{unpack}
use Rattle.decisions.specs.Ends.{set_first, set_none}
use Rattle.refusals.specs.Reasons.{asking}
use Rattle.refusals.proofs.Deciding.{because, no_reason, decides}
use Rattle.refusals.proofs.of_set.Goals as goal

pub returns-then-too_large : goal.returns-then-too_large
unfolding order kind_number
returns-then-too_large c = λ ws s.
    let call : Call = asking is_crash 0 0 c.args.v in
    decides ws call (no_such_object ∷ []) s refl (some no_such_object)
    (because ws call (no_such_object ∷ []) no_such_object (set_first (unpack ws) call refl c.if-too_large.true))

pub returns-else-too_large : goal.returns-else-too_large
unfolding order kind_number
returns-else-too_large c = λ ws s.
    let call : Call = asking is_crash 0 0 c.args.v in
    decides ws call (no_such_object ∷ []) s refl none
    (no_reason ws call (no_such_object ∷ []) (set_none (unpack ws) call refl c.if-too_large.false))
