-- `acts::refuse` meets its contract: lost and died are undone at the place of the transaction, which is live, and every other
-- reason leaves the words.
-- Assumes nothing.
use Rattle.std.specs.Prelude.{IsSome}
use Rattle.std.proofs.Common.{◌≡◌, ap, sym, ◌∙◌, ℕ, T}
use Rattle.std.proofs.Math.Option.{some}
use Rattle.rules.specs.Tables.{Tables, place_of, is_live}
use Rattle.rules.specs.Falls.{fallen, how_many}
use Rattle.rules.specs.Steps.{undo, abort, fall_count}
use Rattle.rules.specs.Answers.{Call, lost, died, refusal_value, refusal_leaves, refusal}
use Rattle.rules.specs.Layout.{pack, unpack}
use Rattle.answers_laws.specs.Exactly.{refusal_leaves_same}
use Rattle.words_laws.specs.Words.{words_again}
use Rattle.calls.specs.declared.Refusal as calls
use Rattle.calls.specs.Calls.{call_of}
use Rattle.calls.specs.Meaning.{refusal_of}
use Rattle.lookups.specs.Places.{seat_number}
use Rattle.lookups.proofs.Living.{placed_somewhere, there_live, below_live}
use Rattle.acts.proofs.Answered.{refused_acts}
use Rattle.acts.proofs.Ordered.{lost_live, died_live}
use Rattle.acts.proofs.Reasons.{died_not_lost, is_lost, is_died}
use Rattle.acts.proofs.refuse.Goals.{Start}
use Rattle.acts.proofs.refuse.Goals as goal

abbrev tables : Start → Tables
tables c = unpack c.args.words.now

abbrev asked : Start → Call
asked c = call_of c.args.c

-- the reason is the rules'
is_reason : (c : Start) {w : calls.Refusal} → c.args.why ≡ w → some (refusal_of w) ≡ refusal (tables c) (asked c)
is_reason c e = sym (ap (λ (w : calls.Refusal). some (refusal_of w)) e) ∙ c.requires.1

-- who lost an object or died is live
lost_one : (c : Start) → c.args.why ≡ calls.TheVariants.Lost → T (is_live (tables c).live (asked c).who)
lost_one c e = lost_live (tables c) (asked c) (is_reason c e)

died_one : (c : Start) → c.args.why ≡ calls.TheVariants.Died → T (is_live (tables c).live (asked c).who)
died_one c e = died_live (tables c) (asked c) (is_reason c e)

at_place : (c : Start) → T (is_live (tables c).live (asked c).who) → IsSome c.args.seat
at_place c l =
    placed_somewhere c.args.seat (below_live (tables c).live (asked c).who (seat_number c.args.seat) c.requires.2 l)

there : (c : Start) → T (is_live (tables c).live (asked c).who) → seat_number c.args.seat ≡ place_of (tables c).live (asked c).who
there c = there_live (tables c).live (asked c).who (seat_number c.args.seat) c.requires.2

pub live-requires : goal.live-requires
live-requires c = let start : Start = (goal.at.live-requires c).Start in at_place start (lost_one start c.in-Lost.is)

pub live-requires-in-Died : goal.live-requires-in-Died
live-requires-in-Died c = let start : Start = (goal.at.live-requires-in-Died c).Start in at_place start (died_one start c.in-Died.is)

pub returns-in-Lost : goal.returns-in-Lost
unfolding refusal_value refusal_leaves fall_count abort
returns-in-Lost c = let start : Start = (goal.at.returns-in-Lost c).Start in
    let at = c.live.ensures.place ∙ there start (lost_one start c.in-Lost.is) in
    let ls = (tables start).live in
    refused_acts c.args.words.now (asked start) _ _ lost (is_reason start c.in-Lost.is)
    (rw c.in-Lost.is at c.refused.ensures)
    (c.fall-fell.ensures.fell ∙ ap (λ (p : ℕ). how_many (fallen ls p)) at)
    (c.fall-fell.ensures.left ∙ ap (λ (p : ℕ). pack (undo (tables start) (fallen ls p))) at)

pub returns-in-Died : goal.returns-in-Died
unfolding refusal_leaves abort
returns-in-Died c = let start : Start = (goal.at.returns-in-Died c).Start in
    let at = c.live-in-Died.ensures.place ∙ there start (died_one start c.in-Died.is) in
    refused_acts c.args.words.now (asked start) _ _ died (is_reason start c.in-Died.is)
    (rw c.in-Died.is at c.refused-in-Died.ensures)
    (rw c.in-Died.is at c.refusal_value-holder.ensures died_not_lost)
    (c.fall.ensures.left ∙ ap (λ (p : ℕ). pack (undo (tables start) (fallen (tables start).live p))) at)

pub returns-in_default : goal.returns-in_default
returns-in_default c = let start : Start = (goal.at.returns-in_default c).Start in
    let why = c.args.why in
    let not_lost : refusal_of why ≡ lost → ⊥ = λ e. c.in_default.not-Lost (is_lost why e) in
    let not_died : refusal_of why ≡ died → ⊥ = λ e. c.in_default.not-Died (is_died why e) in
    refused_acts c.args.words.now (asked start) _ _ (refusal_of why) c.requires.1 c.refused-in_default.ensures
    (c.refusal_value-value.ensures not_lost)
    (sym (ap pack (refusal_leaves_same (refusal_of why) (tables start) (asked start) not_lost not_died) ∙ words_again c.args.words.now c.requires.0))
