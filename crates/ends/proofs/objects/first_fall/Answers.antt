use Rattle.std.proofs.Common.{rules, ◌≡◌, subst, sym, ◌∙◌, Bool, ℕ, arith, below_more, T}
use Rattle.rules.specs.Tables.{chain_room}
use Rattle.rules.specs.Layout.{word}
use Rattle.basics.specs.Logic.{from_true}
use Rattle.ends_laws.specs.Entries.{writer_place}
use Rattle.ends_laws.specs.Scans.{found, falls_in, first_fall}
use Rattle.ends.proofs.objects.first_fall.Goals.{After-falls, Start}
use Rattle.ends.proofs.objects.first_fall.Goals as goal

-- entry k's writer falls
abbrev test : Start → ℕ → Bool
test c k = falls_in c.args.words.now c.args.f (word c.args.words.now (writer_place c.args.o.num k))

-- the answer of a turn
answer : (c : After-falls)
    → c.falls.result ≡ test (goal.at.After-falls c).Start c.loop-j.j
answer c = search rules

pub returns-then-falls : goal.returns-then-falls
unfolding first_fall
returns-then-falls c = let turn = c.loop-j in
    let entry = test (goal.at.returns-then-falls c).Start in
    found chain_room entry turn.j
    (record {
      at_most = omega arith;
      none_below = turn.invariant.1;
      passes = λ l. from_true (entry turn.j) (sym (answer (goal.at.returns-then-falls c).After-falls) ∙ c.if-falls.true);
    })

pub loop-j-preserved : goal.loop-j-preserved
loop-j-preserved c = let turn = c.loop-j in
    (omega arith, below_more _ _ turn.invariant.1 (λ t. subst T (sym (answer (goal.at.loop-j-preserved c).After-falls) ∙ c.if-falls.false) t))

pub returns : goal.returns
unfolding first_fall
returns c = let turn = c.loop-j in
    found chain_room (test (goal.at.returns c).Start) chain_room
    (record {
      at_most = omega arith;
      none_below = λ k l. turn.invariant.1 k (omega arith);
      passes = λ l. absurd (omega arith);
    })
