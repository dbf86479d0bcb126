-- `acts::fall` meets its contract: whoever depends on one that falls falls too, as undo asks.
-- Assumes nothing.
use Rattle.std.proofs.Common.{ap, sym, subst, ◌∙◌}
use Rattle.rules.specs.Falls.{how_many}
use Rattle.rules.specs.Layout.{unpack}
use Rattle.falls_laws.specs.Falls.{falls_along}
use Rattle.ends.specs.Closed.{Closed}
use Rattle.acts.proofs.fall.Goals as goal

pub undo-requires : goal.undo-requires
undo-requires c = let ls = (unpack c.args.words.now).live in
    (c.requires, subst (Closed ls) (sym c.fallen-f.ensures) (falls_along ls c.args.p.num c.args.p.exists))

pub returns-clause-fell : goal.returns-clause-fell
unfolding how_many
returns-clause-fell c = c.count.ensures ∙ ap how_many c.fallen-f.ensures
