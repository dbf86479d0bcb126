use Rattle.std.proofs.Common.{refl, ◌∙◌, arith}
use Rattle.rules.specs.Sets.{collect}
use Rattle.tables.specs.Seats.{used_fits, used_added, used_left, used_all}
use Rattle.tables.proofs.places.used_places.Goals as goal
use Rattle.tables.proofs.places.used_places.Goals.{then-words-q-ne0, else-words-q-ne0}

pub loop-q-init : goal.loop-q-init
unfolding collect
loop-q-init c = refl

pub overflow_add-used : goal.overflow_add-used
overflow_add-used c = record { fits = used_fits c.args.words.now _ _ c.loop-q-test.true c.loop-q.invariant }

pub loop-q-preserved : goal.loop-q-preserved
loop-q-preserved c = let ws = c.args.words.now in
    let below = c.loop-q-test.true in
    elim c.if-words-q-ne0.branch [
      | then-words-q-ne0 w ↦ w.used-is ∙ used_added ws _ _ below c.loop-q.invariant w.if-words-q-ne0.true
      | else-words-q-ne0 w ↦ w.used-is ∙ used_left ws _ _ below c.loop-q.invariant w.if-words-q-ne0.false
    ]

pub returns : goal.returns
returns c = c.loop-q.invariant ∙ used_all c.args.words.now _ (omega arith)
