-- `acts::decide` meets its contract: the call is the one that its used fields make, and each arm refuses that.
-- Assumes nothing.
use Rattle.std.proofs.Common.{◌≡◌, refl, ap, []}
use Rattle.std.proofs.Math.Option.{none}
use Rattle.rules.specs.Answers.{is_restart, order}
use Rattle.rules.specs.Frames.{fields_of}
use Rattle.calls.specs.declared.Kind.{Kind}
use Rattle.lent.specs.Held.{held}
use Rattle.calls.specs.Calls.{call_of}
use Rattle.calls.specs.Meaning.{kind_of}
use Rattle.std.specs.Prelude.{Result, Ok}
use Rattle.calls.specs.declared.Refusal.{Refusal}
use Rattle.refusals.specs.Reasons.{asking, Refuses}
use Rattle.refusals.proofs.Deciding.{no_reason, decides}
use Rattle.acts.proofs.Asked.{of_kind, bare, refused_as}
use Rattle.acts.proofs.decide.Goals.{Start}
use Rattle.acts.proofs.decide.Goals as goal

-- the call's kind is the arm's
for : (c : Start) {k : Kind} → c.args.c.kind ≡ k → (w : Result Unit Refusal)
    → Refuses (held c.args.t.now) (bare (fields_of (kind_of k)) (of_kind (kind_of k) (call_of c.args.c))) w
    → Refuses (held c.args.t.now) (call_of c.args.c) w
for c {k} e w h = refused_as (held c.args.t.now) (call_of c.args.c) (kind_of k) w (ap kind_of e) c.args.c.unused h

pub returns-in-Start : goal.returns-in-Start
unfolding fields_of
returns-in-Start c = let start : Start = (goal.at.returns-in-Start c).Start in
    for start c.in-Start.is c.of_start.result c.of_start.ensures

pub returns-in-Read : goal.returns-in-Read
unfolding fields_of
returns-in-Read c = for (goal.at.returns-in-Read c).Start c.in-Read.is c.of_access.result (c.of_access.ensures 0).0

pub returns-in-Write : goal.returns-in-Write
unfolding fields_of
returns-in-Write c = let start : Start = (goal.at.returns-in-Write c).Start in
    for start c.in-Write.is c.of_access-in-Write.result (c.of_access-in-Write.ensures c.args.c.value).1

pub returns-in-Prepare : goal.returns-in-Prepare
unfolding fields_of
returns-in-Prepare c = for (goal.at.returns-in-Prepare c).Start c.in-Prepare.is c.of_prepare.result c.of_prepare.ensures

pub returns-in-Save : goal.returns-in-Save
unfolding fields_of
returns-in-Save c = let start : Start = (goal.at.returns-in-Save c).Start in
    for start c.in-Save.is c.of_object.result (c.of_object.ensures c.args.t.now.words.now c.args.t.now.sound).0

pub returns-in-Commit : goal.returns-in-Commit
unfolding fields_of
returns-in-Commit c = for (goal.at.returns-in-Commit c).Start c.in-Commit.is c.of_commit.result c.of_commit.ensures

pub returns-in-Abort : goal.returns-in-Abort
unfolding fields_of order
returns-in-Abort c = let start : Start = (goal.at.returns-in-Abort c).Start in
    for start c.in-Abort.is c.of_abort.result c.of_abort.ensures

pub returns-in-Settle : goal.returns-in-Settle
unfolding fields_of
returns-in-Settle c = let start : Start = (goal.at.returns-in-Settle c).Start in
    for start c.in-Settle.is c.of_object-in-Settle.result (c.of_object-in-Settle.ensures c.args.t.now.words.now c.args.t.now.sound).1

pub returns-in-Crash : goal.returns-in-Crash
unfolding fields_of
returns-in-Crash c = let start : Start = (goal.at.returns-in-Crash c).Start in
    for start c.in-Crash.is c.of_set.result (c.of_set.ensures c.args.t.now.words.now c.args.t.now.sound)

pub returns-in-Restart : goal.returns-in-Restart
unfolding fields_of order
returns-in-Restart c = let start : Start = (goal.at.returns-in-Restart c).Start in
    for start c.in-Restart.is (Ok tt)
    (decides c.args.t.now.words.now (asking is_restart 0 0 0) [] c.args.t.now.sound refl none
    (no_reason c.args.t.now.words.now (asking is_restart 0 0 0) [] tt))

pub returns-in-Status : goal.returns-in-Status
unfolding fields_of
returns-in-Status c = for (goal.at.returns-in-Status c).Start c.in-Status.is c.of_status.result c.of_status.ensures

pub returns-in-Look : goal.returns-in-Look
unfolding fields_of
returns-in-Look c = let start : Start = (goal.at.returns-in-Look c).Start in
    for start c.in-Look.is c.of_object-in-Look.result (c.of_object-in-Look.ensures c.args.t.now.words.now c.args.t.now.sound).2
