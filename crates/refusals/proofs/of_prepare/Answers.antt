-- `refusals::of_prepare` meets its contract. Each return cites the law of its reason with the tests that led there.
-- Assumes nothing.
use Rattle.std.proofs.Common.{arith, T}
use Rattle.std.proofs.Math.Option.{none, some}
use Rattle.std.proofs.lemmas.Bool.Decides.{nat_tests}
use Rattle.rules.specs.Sets.{has}
use Rattle.rules.specs.Answers.{lost, not_accessed, prepared_before, chain_full}
use Rattle.refusals.proofs.Readings.{asker}
use Rattle.refusals.proofs.Deciding.{handed_up}
use Rattle.refusals.proofs.Naming.{alive, prepares, unnamed, then}
use Rattle.refusals.proofs.Preparing.{Open, unaccessed, was_accessed, twice, not_yet, lost_before, full, room, unwritten}
use Rattle.refusals.proofs.of_prepare.Goals.{After-holder, Else-not-has}
use Rattle.refusals.proofs.of_prepare.Goals as goal

-- the call names an object and a live transaction, which accessed it
accessed : (c : Else-not-has) → T (has (asker c.args.s.now.tables.words.now c.in_ok-live.live).accessed c.in_ok-live.o.num)
accessed c = was_accessed (alive c.args.s.now.tables c.in_ok-live.ensures) c.in_ok-live.o c.has.result c.has.ensures c.if-not-has.false

-- and has not prepared it
still_open : (c : After-holder) → Open c.args.s.now.tables.words.now c.in_ok-live.live c.in_ok-live.o c.holder.result
still_open c =
    let n = alive c.args.s.now.tables c.in_ok-live.ensures in
    let a = accessed (goal.at.After-holder c).Else-not-has in
    record {
      alive = n;
      accessed = a;
      open_still = not_yet n c.in_ok-live.o a c.has-2.result c.has-2.ensures c.if-has.false;
      held_by = c.holder.ensures.sound c.args.s.now.tables.sound;
    }

pub returns-in_err-live : goal.returns-in_err-live
returns-in_err-live c = rw (handed_up c.from_residual.ensures) (unnamed c.args.s.now.tables prepares 0 c.in_err-live.ensures)

pub returns-then-not-has : goal.returns-then-not-has
returns-then-not-has c = then c.args.s.now.tables prepares 0 c.in_ok-live.ensures (some not_accessed)
    (unaccessed (alive c.args.s.now.tables c.in_ok-live.ensures) c.in_ok-live.o c.has.result c.has.ensures c.if-not-has.true)

pub returns-then-has : goal.returns-then-has
returns-then-has c = then c.args.s.now.tables prepares 0 c.in_ok-live.ensures (some prepared_before)
    (twice (alive c.args.s.now.tables c.in_ok-live.ensures) c.in_ok-live.o (accessed (goal.at.returns-then-has c).Else-not-has) c.has-2.result c.has-2.ensures c.if-has.true)

pub returns-then-ne : goal.returns-then-ne
returns-then-ne c = let u = still_open (goal.at.returns-then-ne c).After-holder in
    then c.args.s.now.tables prepares 0 c.in_ok-live.ensures (some lost) (lost_before u (grind (arith, nat_tests)))

pub returns-then-full : goal.returns-then-full
returns-then-full c = let u = still_open (goal.at.returns-then-full c).After-holder in
    then c.args.s.now.tables prepares 0 c.in_ok-live.ensures (some chain_full)
    (full u (grind (arith, nat_tests)) c.has-3.result c.has-3.ensures c.if-has-2.true (omega (arith, c.counted-full.ensures, c.if-full.true)))

pub returns-else-full : goal.returns-else-full
returns-else-full c = let u = still_open (goal.at.returns-else-full c).After-holder in
    then c.args.s.now.tables prepares 0 c.in_ok-live.ensures none
    (room u (grind (arith, nat_tests)) c.has-3.result c.has-3.ensures (omega (arith, c.counted-full.ensures, c.if-full.false)))

pub returns-else-has-2 : goal.returns-else-has-2
returns-else-has-2 c = let u = still_open (goal.at.returns-else-has-2 c).After-holder in
    then c.args.s.now.tables prepares 0 c.in_ok-live.ensures none
    (unwritten u (grind (arith, nat_tests)) c.has-3.result c.has-3.ensures c.if-has-2.false)
