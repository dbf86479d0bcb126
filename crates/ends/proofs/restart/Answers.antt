-- `ends::restart` meets its contract. It is what its callees leave, one after another, which `restart_leaves` says is
-- the step.
-- Assumes nothing.
use Rattle.std.proofs.Common.{List, ◌∙◌, ℕ, rules}
use Rattle.ends_laws.specs.Places.{free_words}
use Rattle.ends_laws.specs.Restart.{wipe}
use Rattle.ends_laws.specs.Leaves.{size, used_is, restart_leaves}
use Rattle.ends.proofs.restart.Goals as goal

pub count_used-used-requires : goal.count_used-used-requires
count_used-used-requires c = size c.args.words.now c.requires

pub each_object-requires : goal.each_object-requires
each_object-requires c = (c.settle_all.auto.words ∙ size c.args.words.now c.requires, search rules)

pub each_place-requires : goal.each_place-requires
each_place-requires c = (c.each_object.auto.words ∙ c.settle_all.auto.words ∙ size c.args.words.now c.requires, search rules)

pub returns : goal.returns
returns c = let ws : List ℕ = c.args.words.now in (
  c.count_used-used.ensures ∙ used_is ws c.requires,
  restart_leaves ws c.requires c.settle_all.ensures
      (c.each_object.ensures wipe (λ ws vs o n e. search rules))
      (c.each_place.ensures free_words (λ ws vs p n e. search rules)),
)
