use Rattle.std.proofs.Common.{List, ◌≡◌, refl, ap, ◌∙◌, ℕ, arith}
use Rattle.rules.specs.Tests.{sum}
use Rattle.rules.specs.Tables.{object_count}
use Rattle.rules.specs.Steps.{crash_count}
use Rattle.ends_laws.specs.Loops.{turned_none, turned_more, turned_all}
use Rattle.ends_laws.specs.Crash.{crash_words}
use Rattle.ends_laws.specs.Leaves.{size, crash_leaves, dropped as dropped-in, dropped_more, drops, drops_few}
use Rattle.ends.proofs.crash.Goals as goal

pub loop-i-init : goal.loop-i-init
unfolding sum
loop-i-init c = (turned_none, refl, omega arith)

pub crash_object-dropped-requires : goal.crash_object-dropped-requires
crash_object-dropped-requires c = c.loop-i.auto.words ∙ size c.args.words.now c.requires

pub overflow_add-dropped : goal.overflow_add-dropped
overflow_add-dropped c = let turn = c.loop-i in
    let ws : List ℕ = c.args.words.now in
    let now =
    c.crash_object-dropped.ensures.0
    ∙ drops ws c.requires c.args.objects turn.i (omega arith) turn.words turn.invariant.0.left in
    omega (arith, drops_few ws c.requires c.args.objects turn.i (omega arith))

pub loop-i-preserved : goal.loop-i-preserved
loop-i-preserved c = let turn = c.loop-i in
    let crash_object_call = c.crash_object-dropped in
    let ws : List ℕ = c.args.words.now in
    let objects = c.args.objects in
    let now =
    crash_object_call.ensures.0
    ∙ drops ws c.requires objects turn.i (omega arith) turn.words turn.invariant.0.left in (
      turned_more turn.invariant.0 crash_object_call.ensures.1,
      dropped_more ws objects turn.i turn.dropped crash_object_call.result turn.invariant.1 now,
      omega (arith, drops_few ws c.requires objects turn.i (omega arith)),
    )

pub returns : goal.returns
unfolding crash_words crash_count
returns c = let turn = c.loop-i in
    let ws : List ℕ = c.args.words.now in
    let objects = c.args.objects in
    let all : turn.i ≡ object_count = omega arith in (
      turn.invariant.1 ∙ ap (λ (n : ℕ). sum n (dropped-in ws objects)) all,
      turned_all turn.invariant.0 all ∙ crash_leaves ws c.requires objects,
    )
