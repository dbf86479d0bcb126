-- `refusals::of_access` meets its contract. Each return cites the law of its reason with the tests that led there, for a read
-- and a write alike.
-- Assumes nothing.
use Rattle.std.proofs.Common.{arith}
use Rattle.std.proofs.Math.Option.{none, some}
use Rattle.std.proofs.lemmas.Bool.Decides.{nat_tests}
use Rattle.rules.specs.Answers.{after_a_prepare, lost, wait, died}
use Rattle.refusals.proofs.Deciding.{handed_up}
use Rattle.refusals.proofs.Naming.{alive}
use Rattle.refusals.proofs.Accessing.{Unprepared, neither, both, after_prepare, held, lost_lock, free, waits, dies}
use Rattle.refusals.proofs.of_access.Goals.{After-has}
use Rattle.refusals.proofs.of_access.Goals as goal

-- the call names an object and a live transaction, which has prepared nothing
unprepared : (c : After-has) → Unprepared c.args.s.now.tables.words.now c.in_ok-live.live c.in_ok-live.o c.holder-holder.result c.has.result
unprepared c = record {
  alive = alive c.args.s.now.tables c.in_ok-live.ensures;
  none_prepared = c.if-t-p-ne0.false;
  held_by = c.holder-holder.ensures.sound c.args.s.now.tables.sound;
  tested = c.has.ensures;
}

pub returns-in_err-live : goal.returns-in_err-live
returns-in_err-live c = rw (handed_up c.from_residual.ensures) (neither c.args.s.now.tables c.in_err-live.ensures)

pub returns-then-t-p-ne0 : goal.returns-then-t-p-ne0
returns-then-t-p-ne0 c = both c.args.s.now.tables c.in_ok-live.ensures (some after_a_prepare)
    (λ k a v. after_prepare (alive c.args.s.now.tables c.in_ok-live.ensures) c.in_ok-live.o k v c.if-t-p-ne0.true)

pub returns-then-held : goal.returns-then-held
returns-then-held c = let u = unprepared (goal.at.returns-then-held c).After-has in
    both c.args.s.now.tables c.in_ok-live.ensures none (λ k a v. held u a v c.if-has.true (grind (arith, nat_tests)))

pub returns-then-has : goal.returns-then-has
returns-then-has c = let u = unprepared (goal.at.returns-then-has c).After-has in
    both c.args.s.now.tables c.in_ok-live.ensures (some lost) (λ k a v. lost_lock u a v c.if-has.true (grind (arith, nat_tests)))

pub returns-then-eq : goal.returns-then-eq
returns-then-eq c = let u = unprepared (goal.at.returns-then-eq c).After-has in
    both c.args.s.now.tables c.in_ok-live.ensures none (λ k a v. free u a v c.if-has.false (grind (arith, nat_tests)))

pub returns-then-older : goal.returns-then-older
returns-then-older c = let u = unprepared (goal.at.returns-then-older c).After-has in
    both c.args.s.now.tables c.in_ok-live.ensures (some wait) (λ k a v. waits u a v c.if-has.false (grind (arith, nat_tests)) (grind (arith, nat_tests)))

pub returns-else-older : goal.returns-else-older
returns-else-older c = let u = unprepared (goal.at.returns-else-older c).After-has in
    both c.args.s.now.tables c.in_ok-live.ensures (some died) (λ k a v. dies u a v c.if-has.false (grind (arith, nat_tests)) (grind (arith, nat_tests)))
