-- `refusals::of_commit` meets its contract. Each return cites the law of its reason with the tests that led there.
-- Assumes nothing.
use Rattle.std.proofs.Common.{arith, T}
use Rattle.std.proofs.Math.Option.{none, some}
use Rattle.rules.specs.Sets.{within}
use Rattle.rules.specs.Answers.{unprepared, lost, unsaved, dependency_live, log_full}
use Rattle.lookups.proofs.Fitting.{sets_fit}
use Rattle.refusals.proofs.Readings.{asker}
use Rattle.refusals.proofs.Deciding.{handed_up}
use Rattle.refusals.proofs.Ending.{Whole, commits, unlive, then, alive, not_prepared, all_prepared, missing, queued_still, depends_still, full, commit_done}
use Rattle.refusals.proofs.of_commit.Goals.{After-first_unsaved, Else-not-within}
use Rattle.refusals.proofs.of_commit.Goals as goal

-- the call names a live transaction, and every object that it accessed is prepared
prepared : (c : Else-not-within) → T (within (asker c.args.s.now.tables.words.now c.in_ok-live.live).accessed (asker c.args.s.now.tables.words.now c.in_ok-live.live).prepared)
prepared c = all_prepared (alive c.args.s.now.tables c.in_ok-live.ensures) c.within.result c.within.ensures c.if-not-within.false

-- and every written one has its entry
whole : (c : After-first_unsaved) → Whole c.args.s.now.tables.words.now c.in_ok-live.live c.first_unsaved.result.num
whole c = record {
  alive = alive c.args.s.now.tables c.in_ok-live.ensures;
  prepared = prepared (goal.at.After-first_unsaved c).Else-not-within;
  none_missing = omega (arith, c.first_missing.ensures, c.if-first_missing-lt-OBJECTS.false);
  first_unsaved = c.first_unsaved.ensures;
}

pub returns-in_err-live : goal.returns-in_err-live
returns-in_err-live c = rw (handed_up c.from_residual.ensures) (unlive c.args.s.now.tables commits c.in_err-live.ensures)

pub within-requires : goal.within-requires
within-requires c = let sets = sets_fit c.args.s.now.tables.words.now c.args.s.now.tables.sound c.in_ok-live.live.place.num c.in_ok-live.live.place.exists in
    (omega (arith, sets), omega (arith, sets))

pub returns-then-not-within : goal.returns-then-not-within
returns-then-not-within c = then c.args.s.now.tables commits c.in_ok-live.ensures (some unprepared)
    (not_prepared (alive c.args.s.now.tables c.in_ok-live.ensures) c.within.result c.within.ensures c.if-not-within.true)

pub returns-then-first_missing-lt-OBJECTS : goal.returns-then-first_missing-lt-OBJECTS
returns-then-first_missing-lt-OBJECTS c = let p = prepared (goal.at.returns-then-first_missing-lt-OBJECTS c).Else-not-within in
    then c.args.s.now.tables commits c.in_ok-live.ensures (some lost)
    (missing (alive c.args.s.now.tables c.in_ok-live.ensures) p c.first_missing.result.num c.first_missing.ensures c.if-first_missing-lt-OBJECTS.true)

pub returns-then-first_unsaved-lt-OBJECTS : goal.returns-then-first_unsaved-lt-OBJECTS
returns-then-first_unsaved-lt-OBJECTS c = let w = whole (goal.at.returns-then-first_unsaved-lt-OBJECTS c).After-first_unsaved in
    then c.args.s.now.tables commits c.in_ok-live.ensures (some unsaved) (queued_still w c.if-first_unsaved-lt-OBJECTS.true)

pub returns-then-t-p-ne0 : goal.returns-then-t-p-ne0
returns-then-t-p-ne0 c = let w = whole (goal.at.returns-then-t-p-ne0 c).After-first_unsaved in
    then c.args.s.now.tables commits c.in_ok-live.ensures (some dependency_live) (depends_still w c.if-first_unsaved-lt-OBJECTS.false c.if-t-p-ne0.true)

pub returns-then-full : goal.returns-then-full
returns-then-full c = let w = whole (goal.at.returns-then-full c).After-first_unsaved in
    then c.args.s.now.tables commits c.in_ok-live.ensures (some log_full) (full w c.if-first_unsaved-lt-OBJECTS.false c.if-t-p-ne0.false c.if-full.true)

pub returns : goal.returns
returns c = let w = whole (goal.at.returns c).After-first_unsaved in
    then c.args.s.now.tables commits c.in_ok-live.ensures none (commit_done w c.if-first_unsaved-lt-OBJECTS.false c.if-t-p-ne0.false c.if-full.false)
