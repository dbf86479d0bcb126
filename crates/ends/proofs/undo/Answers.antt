-- `ends::undo` meets its contract. It is what its two loops leave, one after the other, which `undo_leaves` says is the
-- step.
-- Assumes nothing.
use Rattle.std.proofs.Common.{◌∙◌, rules}
use Rattle.ends_laws.specs.Undo.{undo_object, undo_place}
use Rattle.ends_laws.specs.Leaves.{size, undo_leaves}
use Rattle.ends.proofs.undo.Goals as goal

pub each_object-requires : goal.each_object-requires
each_object-requires c = (size c.args.words.now c.requires.0, search rules)

pub each_place-requires : goal.each_place-requires
each_place-requires c = (c.each_object.auto.words ∙ size c.args.words.now c.requires.0, search rules)

pub returns : goal.returns
returns c = let f = c.args.f in
    undo_leaves c.args.words.now c.requires.0 f c.requires.1
    (c.each_object.ensures (undo_object f) (λ ws vs o n e. search rules))
    (c.each_place.ensures (undo_place f) (λ ws vs p n e. search rules))
