-- `acts::give` meets its contract: since no fact refuses the call, each step may be taken, and it gives and leaves what the
-- rules say of its kind.
-- Assumes nothing.
use Rattle.std.specs.Prelude.{IsSome}
use Rattle.std.proofs.Common.{◌≡◌, refl, ap, sym, ◌∙◌, List, ℕ, ◌<◌, arith, T}
use Rattle.rules.specs.Tables.{Txn, Lsn, Tables, object_count, place_of, is_live}
use Rattle.rules.specs.Falls.{fallen, how_many}
use Rattle.rules.specs.Steps.{undo, abort, fall_count, look}
use Rattle.rules.specs.Answers.{Kind, is_look, Call, done_value, done_leaves}
use Rattle.rules.specs.Layout.{pack, unpack}
use Rattle.words_laws.specs.Says.{stable_value}
use Rattle.words_laws.specs.Words.{sound_words_say, words_again}
use Rattle.lookups.proofs.Fitting.{words_length}
use Rattle.sound_laws.specs.Access.{MayAccess}
use Rattle.sound_laws.specs.Means.{Sound}
use Rattle.calls.specs.declared.existing.Live.{Live}
use Rattle.calls.specs.declared.Kind as calls
use Rattle.calls.specs.Calls.{call_of}
use Rattle.calls.specs.Meaning.{kind_of, IsLive}
use Rattle.lookups.specs.Places.{seat_number}
use Rattle.lookups.proofs.Living.{placed_somewhere, there_live, below_live}
use Rattle.acts.specs.Acted.{Did}
use Rattle.acts.proofs.Accessed.{sound_in}
use Rattle.acts.proofs.Allowed.{start_may, read_may, write_may, prepare_object, prepare_live, prepare_room, save_object, commit_live, commit_room, abort_live, settle_object, crash_set, look_object}
use Rattle.acts.proofs.Answered.{did}
use Rattle.acts.proofs.give.Goals.{Start}
use Rattle.acts.proofs.give.Goals as goal

abbrev tables : Start → Tables
tables c = unpack c.args.words.now

abbrev asked : Start → Call
asked c = call_of c.args.c

abbrev kind : Start → Kind
kind c = (asked c).kind

sound_at : (c : Start) → Sound (tables c)
sound_at c = sound_in c.args.words.now c.requires.0

unchanged : (c : Start) → c.args.words.now ≡ pack (tables c)
unchanged c = sym (words_again c.args.words.now c.requires.0)

-- the call's kind is the arm's
for : (c : Start) {k : calls.Kind} → c.args.c.kind ≡ k → {r : ℕ} {vs : List ℕ} → r ≡ done_value (kind_of k) (tables c) (asked c)
    → vs ≡ pack (done_leaves (kind_of k) (tables c) (asked c)) → Did c.args.words.now (asked c) r vs
for c {k} e {r} {vs} = did c.args.words.now (asked c) (kind_of k) (ap kind_of e) r vs

-- where the transaction is live, the place is one
at_place : (c : Start) → T (is_live (tables c).live (asked c).who) → IsSome c.args.seat
at_place c l =
    placed_somewhere c.args.seat (below_live (tables c).live (asked c).who (seat_number c.args.seat) c.requires.2 l)

there : (c : Start) → T (is_live (tables c).live (asked c).who) → seat_number c.args.seat ≡ place_of (tables c).live (asked c).who
there c = there_live (tables c).live (asked c).who (seat_number c.args.seat) c.requires.2

looked : (c : Start) → kind c ≡ is_look → (asked c).what.num < object_count
looked c e = look_object (tables c) (asked c) (sound_at c) e c.requires.1

-- and it is live there
placed : (c : Start) (l : Live) → l.who ≡ c.args.c.who → l.place.num ≡ seat_number c.args.seat → T (is_live (tables c).live (asked c).who)
    → IsLive (tables c) l
placed c l who place live = rw (who, place) (live, there c live)

pub start-requires : goal.start-requires
start-requires c = let start : Start = (goal.at.start-requires c).Start in
    let may = start_may (tables start) (asked start) (ap kind_of c.in-Start.is) c.requires.1 in
    (c.requires.0, may.0, may.1)

-- what read, write, prepare, commit and abort may do
reading : (c : Start) → c.args.c.kind ≡ calls.TheVariants.Read → MayAccess (tables c) (asked c).who (asked c).what.num
reading c e = read_may (tables c) (asked c) (sound_at c) (ap kind_of e) c.requires.1

writing : (c : Start) → c.args.c.kind ≡ calls.TheVariants.Write → MayAccess (tables c) (asked c).who (asked c).what.num
writing c e = write_may (tables c) (asked c) (sound_at c) (ap kind_of e) c.requires.1

preparing : (c : Start) → c.args.c.kind ≡ calls.TheVariants.Prepare → T (is_live (tables c).live (asked c).who)
preparing c e = prepare_live (tables c) (asked c) (ap kind_of e) c.requires.1

committing : (c : Start) → c.args.c.kind ≡ calls.TheVariants.Commit → T (is_live (tables c).live (asked c).who)
committing c e = commit_live (tables c) (asked c) (ap kind_of e) c.requires.1

aborting : (c : Start) → c.args.c.kind ≡ calls.TheVariants.Abort → T (is_live (tables c).live (asked c).who)
aborting c e = abort_live (tables c) (asked c) (ap kind_of e) c.requires.1

pub live-requires : goal.live-requires
live-requires c = let start : Start = (goal.at.live-requires c).Start in at_place start (reading start c.in-Read.is).live

pub invariant_of-read : goal.invariant_of-read
invariant_of-read c = record { exists = (reading (goal.at.invariant_of-read c).Start c.in-Read.is).below }

pub read-requires : goal.read-requires
read-requires c = let start : Start = (goal.at.read-requires c).Start in
    let may = reading start c.in-Read.is in
    let here = c.live.ensures in
    (c.requires.0, rw here.who may, placed start c.live.result here.who here.place may.live)

pub live-requires-in-Write : goal.live-requires-in-Write
live-requires-in-Write c = let start : Start = (goal.at.live-requires-in-Write c).Start in at_place start (writing start c.in-Write.is).live

pub invariant_of-write : goal.invariant_of-write
invariant_of-write c = record { exists = (writing (goal.at.invariant_of-write c).Start c.in-Write.is).below }

pub write-requires : goal.write-requires
write-requires c = let start : Start = (goal.at.write-requires c).Start in
    let may = writing start c.in-Write.is in
    let here = c.live-in-Write.ensures in
    (c.requires.0, rw here.who may, placed start c.live-in-Write.result here.who here.place may.live)

pub live-requires-in-Prepare : goal.live-requires-in-Prepare
live-requires-in-Prepare c = let start : Start = (goal.at.live-requires-in-Prepare c).Start in at_place start (preparing start c.in-Prepare.is)

pub invariant_of-prepare : goal.invariant_of-prepare
invariant_of-prepare c = let start : Start = (goal.at.invariant_of-prepare c).Start in
    record { exists = prepare_object (tables start) (asked start) (sound_at start) (ap kind_of c.in-Prepare.is) c.requires.1 }

pub prepare-requires : goal.prepare-requires
prepare-requires c = let start : Start = (goal.at.prepare-requires c).Start in
    let here = c.live-in-Prepare.ensures in (
      c.requires.0,
      placed start c.live-in-Prepare.result here.who here.place (preparing start c.in-Prepare.is),
      rw here.who (prepare_room (tables start) (asked start) (ap kind_of c.in-Prepare.is) c.requires.1),
    )

pub invariant_of-save : goal.invariant_of-save
invariant_of-save c = let start : Start = (goal.at.invariant_of-save c).Start in
    record { exists = save_object (tables start) (asked start) (sound_at start) (ap kind_of c.in-Save.is) c.requires.1 }

pub live-requires-in-Commit : goal.live-requires-in-Commit
live-requires-in-Commit c = let start : Start = (goal.at.live-requires-in-Commit c).Start in at_place start (committing start c.in-Commit.is)

pub commit-requires : goal.commit-requires
commit-requires c = let start : Start = (goal.at.commit-requires c).Start in
    let here = c.live-in-Commit.ensures in (
      c.requires.0,
      placed start c.live-in-Commit.result here.who here.place (committing start c.in-Commit.is),
      commit_room (tables start) (asked start) (ap kind_of c.in-Commit.is) c.requires.1,
    )

pub live-requires-in-Abort : goal.live-requires-in-Abort
live-requires-in-Abort c = let start : Start = (goal.at.live-requires-in-Abort c).Start in at_place start (aborting start c.in-Abort.is)

pub invariant_of-settle : goal.invariant_of-settle
invariant_of-settle c = let start : Start = (goal.at.invariant_of-settle c).Start in
    record { exists = settle_object (tables start) (asked start) (sound_at start) (ap kind_of c.in-Settle.is) c.requires.1 }

pub overflow_cast-c : goal.overflow_cast-c
overflow_cast-c c = let start : Start = (goal.at.overflow_cast-c c).Start in
    record { fits = crash_set (tables start) (asked start) (ap kind_of c.in-Crash.is) c.requires.1 }

pub overflow_add-result : goal.overflow_add-result
overflow_add-result c = omega (arith, looked (goal.at.overflow_add-result c).Start (ap kind_of c.in-Look.is))

pub offset_bounds-words-i : goal.offset_bounds-words-i
offset_bounds-words-i c = omega (arith, looked (goal.at.offset_bounds-words-i c).Start (ap kind_of c.in-Look.is))

pub bounds-words-i : goal.bounds-words-i
bounds-words-i c = omega (arith, words_length c.args.words.now c.requires.0, looked (goal.at.bounds-words-i c).Start (ap kind_of c.in-Look.is))

pub returns-in-Start : goal.returns-in-Start
unfolding done_value done_leaves
returns-in-Start c = for (goal.at.returns-in-Start c).Start c.in-Start.is (ap (λ (x : Txn). x.num) c.start.ensures.given) c.start.ensures.left

pub returns-in-Read : goal.returns-in-Read
unfolding done_value done_leaves
returns-in-Read c = let who = c.live.ensures.who in
    for (goal.at.returns-in-Read c).Start c.in-Read.is (rw who at c.read.ensures.given) (rw who at c.read.ensures.left)

pub returns-in-Write : goal.returns-in-Write
unfolding done_value done_leaves
returns-in-Write c = for (goal.at.returns-in-Write c).Start c.in-Write.is refl (rw c.live-in-Write.ensures.who at c.write.ensures)

pub returns-in-Prepare : goal.returns-in-Prepare
unfolding done_value done_leaves
returns-in-Prepare c = for (goal.at.returns-in-Prepare c).Start c.in-Prepare.is refl (rw c.live-in-Prepare.ensures.who at c.prepare.ensures)

pub returns-in-Save : goal.returns-in-Save
unfolding done_value done_leaves
returns-in-Save c = for (goal.at.returns-in-Save c).Start c.in-Save.is c.save.ensures.0 c.save.ensures.1

pub returns-in-Commit : goal.returns-in-Commit
unfolding done_value done_leaves
returns-in-Commit c = for (goal.at.returns-in-Commit c).Start c.in-Commit.is
    (ap (λ (n : Lsn). n.num) c.commit.ensures.given) (rw c.live-in-Commit.ensures.who at c.commit.ensures.left)

pub returns-in-Abort : goal.returns-in-Abort
unfolding done_value done_leaves fall_count abort
returns-in-Abort c = let start : Start = (goal.at.returns-in-Abort c).Start in
    let told = c.in-Abort.is in
    let at = c.live-in-Abort.ensures.place ∙ there start (aborting start told) in
    let ls = (tables start).live in
    for start told
    (c.fall.ensures.fell ∙ ap (λ (p : ℕ). how_many (fallen ls p)) at)
    (c.fall.ensures.left ∙ ap (λ (p : ℕ). pack (undo (tables start) (fallen ls p))) at)

pub returns-in-Settle : goal.returns-in-Settle
unfolding done_value done_leaves
returns-in-Settle c = for (goal.at.returns-in-Settle c).Start c.in-Settle.is c.settle.ensures.0 c.settle.ensures.1

pub returns-in-Crash : goal.returns-in-Crash
unfolding done_value done_leaves
returns-in-Crash c = for (goal.at.returns-in-Crash c).Start c.in-Crash.is c.crash.ensures.0 c.crash.ensures.1

pub returns-in-Restart : goal.returns-in-Restart
unfolding done_value done_leaves
returns-in-Restart c = for (goal.at.returns-in-Restart c).Start c.in-Restart.is c.restart.ensures.0 c.restart.ensures.1

pub returns-in-Status : goal.returns-in-Status
unfolding done_value done_leaves
returns-in-Status c = for (goal.at.returns-in-Status c).Start c.in-Status.is (c.from.ensures ∙ c.status.ensures) (unchanged (goal.at.returns-in-Status c).Start)

pub returns-in-Look : goal.returns-in-Look
unfolding done_value done_leaves look
returns-in-Look c = let start : Start = (goal.at.returns-in-Look c).Start in
    let told = c.in-Look.is in
    for start told
    ((sound_words_say c.args.words.now c.requires.0).column stable_value _ (looked start (ap kind_of told))) (unchanged start)
