use Rattle.std.proofs.Common.{◌≡◌, ap, sym, ◌∙◌, add-one, arith, eqb}
use Rattle.rules.specs.Sets.{collect}
use Rattle.rules.specs.Tables.{place_count}
use Rattle.rules.specs.Layout.{unpack}
use Rattle.rules.specs.Falls.{and_dependents, rounds, fallen}
use Rattle.sets.proofs.Members.{only_member}
use Rattle.lookups.proofs.Growing.{bit_is}
use Rattle.lookups.proofs.Settling.{settled_rounds}
use Rattle.lookups.proofs.fallen.Goals.{After-and_dependents-next}
use Rattle.lookups.proofs.fallen.Invariants.{after}
use Rattle.lookups.proofs.fallen.Goals as goal

-- a turn makes one round more
one_more : (c : After-and_dependents-next)
    → c.and_dependents-next.result
    ≡ and_dependents (unpack c.args.t.now.words.now).live
    (after c.args.t.now.words.now c.args.p.num
    c.loop.counter)
one_more c =
    c.and_dependents-next.ensures
    ∙ ap (and_dependents (unpack c.args.t.now.words.now).live) c.loop.invariant.1

pub loop-init : goal.loop-init
unfolding rounds
loop-init c = (omega arith, bit_is c.args.p.num c.args.p.exists ∙ sym (only_member place_count c.args.p.num c.args.p.exists))

pub returns-then-next-s : goal.returns-then-next-s
unfolding fallen
returns-then-next-s c = let loop = c.loop in
    loop.invariant.1
    ∙ settled_rounds (unpack c.args.t.now.words.now).live (collect place_count (λ q. eqb q c.args.p.num))
    loop.counter place_count loop.invariant.0 (sym (one_more (goal.at.returns-then-next-s c).After-and_dependents-next) ∙ c.if-next-s.true ∙ loop.invariant.1)

pub loop-preserved : goal.loop-preserved
unfolding rounds
loop-preserved c = (omega arith, rw (add-one c.loop.counter) (one_more (goal.at.loop-preserved c).After-and_dependents-next))

pub returns : goal.returns
unfolding fallen
returns c = let last : c.loop.counter ≡ place_count = omega arith in
    c.loop.invariant.1 ∙ ap (after c.args.t.now.words.now c.args.p.num) last
