-- `refusals::of_status` meets its contract. The number was given out or not, and nothing else refuses a status.
-- Assumes nothing.
use Rattle.std.proofs.Common.{refl, inl, List, [], ◌∷◌, ℕ}
use Rattle.std.proofs.Math.Option.{none, some}
use Rattle.rules.specs.Answers.{is_status, Call, never_given_out, order, fact}
use Rattle.refusals.specs.Reasons.{asking}
use Rattle.refusals.proofs.Readings.{set_passes, unset_fails}
use Rattle.refusals.proofs.Deciding.{because, no_reason, decides}
use Rattle.refusals.proofs.of_status.Goals as goal

pub returns-then-never_given : goal.returns-then-never_given
unfolding order fact
returns-then-never_given c = let ws : List ℕ = c.args.t.now.words.now in
    let call : Call = asking is_status c.args.x.num 0 0 in
    decides ws call (never_given_out ∷ []) c.args.t.now.sound refl (some never_given_out)
    (because ws call (never_given_out ∷ []) never_given_out
    (inl (refl, set_passes c.never_given.result _ c.never_given.ensures c.if-never_given.true)))

pub returns-else-never_given : goal.returns-else-never_given
unfolding order fact
returns-else-never_given c = let ws : List ℕ = c.args.t.now.words.now in
    let call : Call = asking is_status c.args.x.num 0 0 in
    decides ws call (never_given_out ∷ []) c.args.t.now.sound refl none
    (no_reason ws call (never_given_out ∷ []) (unset_fails c.never_given.result _ c.never_given.ensures c.if-never_given.false, tt))
