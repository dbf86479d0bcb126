-- `acts::refusal_value` meets its contract: the reason tells that the transaction is live, or that the object is one, so that
-- the words that are read are its own.
-- Assumes nothing.
use Rattle.std.specs.Prelude.{IsSome}
use Rattle.std.proofs.Common.{◌≡◌, ap, sym, ◌∙◌, cond, ℕ, ◌<◌, T}
use mathlib.Core.Logic.{◌⊎◌, ⊎_elim}
use Rattle.std.proofs.Math.Option.{some}
use Rattle.rules.specs.Tests.{lowest, least}
use Rattle.rules.specs.Sets.{has}
use Rattle.rules.specs.Tables.{Txn, Tables, object_count, place_count, place, place_of, is_live}
use Rattle.rules.specs.Answers.{Call, lost, refusal_value, refusal}
use Rattle.words_laws.specs.Says.{depends}
use Rattle.words_laws.specs.Words.{sound_words_say}
use Rattle.lent.specs.Held.{held}
use Rattle.calls.specs.declared.Refusal.{Refusal}
use Rattle.calls.specs.declared.Refusal.TheVariants.{Wait, Died, Unprepared, Unsaved, DependencyLive}
use Rattle.calls.specs.Calls.{call_of}
use Rattle.calls.specs.Meaning.{refusal_of}
use Rattle.lookups.specs.Places.{seat_number}
use Rattle.lookups.proofs.Living.{placed_somewhere, there_live, below_live}
use Rattle.acts.specs.Acted.{is_open}
use Rattle.acts.proofs.Ordered.{wait_object, died_object, unprepared_live, unsaved_live, dependency_live_live}
use Rattle.acts.proofs.Reasons.{Plain, plain_value}
use Rattle.acts.proofs.refusal_value.Goals.{Start}
use Rattle.acts.proofs.refusal_value.Goals as goal

abbrev tables : Start → Tables
tables c = held c.args.t.now

abbrev asked : Start → Call
asked c = call_of c.args.c

-- the reason is the rules'
is_reason : (c : Start) {w : Refusal} → c.args.why ≡ w → some (refusal_of w) ≡ refusal (tables c) (asked c)
is_reason c e = sym (ap (λ (w : Refusal). some (refusal_of w)) e) ∙ c.requires.0

at_place : (c : Start) → T (is_live (tables c).live (asked c).who) → IsSome c.args.seat
at_place c l =
    placed_somewhere c.args.seat (below_live (tables c).live (asked c).who (seat_number c.args.seat) c.requires.1 l)

there : (c : Start) → T (is_live (tables c).live (asked c).who) → seat_number c.args.seat ≡ place_of (tables c).live (asked c).who
there c = there_live (tables c).live (asked c).who (seat_number c.args.seat) c.requires.1

-- who has unprepared or unsaved objects, or live dependencies, is live
unprepared_one : (c : Start) → c.args.why ≡ Unprepared → T (is_live (tables c).live (asked c).who)
unprepared_one c e = unprepared_live (tables c) (asked c) (is_reason c e)

unsaved_one : (c : Start) → c.args.why ≡ Unsaved → T (is_live (tables c).live (asked c).who)
unsaved_one c e = unsaved_live (tables c) (asked c) (is_reason c e)

depending_one : (c : Start) → c.args.why ≡ DependencyLive → T (is_live (tables c).live (asked c).who)
depending_one c e = dependency_live_live (tables c) (asked c) (is_reason c e)

-- what a reason's arm gives is the value for that reason
given_for : (c : Start) {w : Refusal} → c.args.why ≡ w → {v : ℕ} → v ≡ refusal_value (refusal_of w) (tables c) (asked c)
    → (refusal_of c.args.why ≡ lost → ⊥) → v ≡ refusal_value (refusal_of c.args.why) (tables c) (asked c)
given_for c e h f = h ∙ sym (ap (λ (w : Refusal). refusal_value (refusal_of w) (tables c) (asked c)) e)

-- who waits or dies asked for an object
asked_object : (c : Start) → (c.args.why ≡ Wait) ⊎ (c.args.why ≡ Died) → c.args.c.what.num < object_count
asked_object c =
    ⊎_elim (λ e. wait_object (tables c) (asked c) (is_reason c e)) (λ e. died_object (tables c) (asked c) (is_reason c e))

pub invariant_of-holder : goal.invariant_of-holder
invariant_of-holder c = record { exists = asked_object (goal.at.invariant_of-holder c).Start c.in-Wait.is }

pub live-requires : goal.live-requires
live-requires c = let start : Start = (goal.at.live-requires c).Start in at_place start (unprepared_one start c.in-Unprepared.is)

pub live-requires-in-Unsaved : goal.live-requires-in-Unsaved
live-requires-in-Unsaved c = let start : Start = (goal.at.live-requires-in-Unsaved c).Start in at_place start (unsaved_one start c.in-Unsaved.is)

pub returns-in-NoLongerLive : goal.returns-in-NoLongerLive
unfolding refusal_value
returns-in-NoLongerLive c = given_for (goal.at.returns-in-NoLongerLive c).Start c.in-NoLongerLive.is (c.from.ensures ∙ c.status.ensures)

pub returns-in-Wait : goal.returns-in-Wait
unfolding refusal_value
returns-in-Wait c = let start : Start = (goal.at.returns-in-Wait c).Start in
    let holder = ap (λ (x : Txn). x.num) (c.holder.ensures.sound c.args.t.now.sound) in
    ⊎_elim (λ e. given_for start e holder) (λ e. given_for start e holder) c.in-Wait.is

pub returns-in-Unprepared : goal.returns-in-Unprepared
unfolding refusal_value
returns-in-Unprepared c = let start : Start = (goal.at.returns-in-Unprepared c).Start in
    given_for start c.in-Unprepared.is
    (c.first_unprepared.ensures
    ∙ ap (λ (p : ℕ). lowest object_count (is_open (place (tables start).live p)))
    (c.live.ensures.place ∙ there start (unprepared_one start c.in-Unprepared.is)))

pub returns-in-Unsaved : goal.returns-in-Unsaved
unfolding refusal_value
returns-in-Unsaved c = given_for (goal.at.returns-in-Unsaved c).Start c.in-Unsaved.is (rw c.live-in-Unsaved.ensures.who at c.first_unsaved.ensures)

pub live-requires-in-DependencyLive : goal.live-requires-in-DependencyLive
live-requires-in-DependencyLive c = let start : Start = (goal.at.live-requires-in-DependencyLive c).Start in at_place start (depending_one start c.in-DependencyLive.is)

pub returns-in-DependencyLive : goal.returns-in-DependencyLive
unfolding refusal_value
returns-in-DependencyLive c = let start : Start = (goal.at.returns-in-DependencyLive c).Start in
    let here = c.live-in-DependencyLive in
    let at = here.ensures.place ∙ there start (depending_one start c.in-DependencyLive.is) in
    let ls = (tables start).live in
    given_for start c.in-DependencyLive.is
    (c.lowest_number.ensures
    ∙ ap (λ (d : ℕ). least place_count (λ q. cond (has d q) (place ls q).number.num 0))
    ((sound_words_say c.args.t.now.words.now c.args.t.now.sound).column depends _ here.result.place.exists ∙ ap (λ (p : ℕ). (place ls p).depends) at))

pub returns-in_default : goal.returns-in_default
returns-in_default c =
    let plain : Plain c.args.why =
    record {
      not_no_longer_live = c.in_default.not-NoLongerLive;
      not_wait = c.in_default.not-Wait;
      not_died = c.in_default.not-Died;
      not_unprepared = c.in_default.not-Unprepared;
      not_unsaved = c.in_default.not-Unsaved;
      not_dependency_live = c.in_default.not-DependencyLive;
    } in
    plain_value c.args.why plain (held c.args.t.now) (call_of c.args.c)
