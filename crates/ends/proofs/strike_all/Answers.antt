use Rattle.std.proofs.Common.{List, ap, ◌∙◌, ℕ, ◌+◌, arith}
use Rattle.rules.specs.Layout.{word, depends_at}
use Rattle.ends_laws.specs.Loops.{turned_none, turned_more}
use Rattle.ends_laws.specs.Commit.{strike_later}
use Rattle.ends.proofs.strike_all.Goals as goal

pub loop-q-init : goal.loop-q-init
loop-q-init c = turned_none

pub strike-requires : goal.strike-requires
strike-requires c = let turn = c.loop-q in
    let q = turn.q in
    let ws : List ℕ = c.args.words.now in (
      turn.auto.words ∙ c.requires.0,
      omega (
        arith,
        c.requires.1 q (omega arith),
        ap (λ (vs : List ℕ). word vs (depends_at + q)) turn.invariant.left,
        strike_later c.args.p.num ws q q (omega arith),
      ),
    )

pub loop-q-preserved : goal.loop-q-preserved
loop-q-preserved c = turned_more c.loop-q.invariant c.strike.ensures
