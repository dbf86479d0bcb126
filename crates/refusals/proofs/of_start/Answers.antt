-- `refusals::of_start` meets its contract. The numbers are spent, or no place is free, or nothing refuses it.
-- Assumes nothing.
use Rattle.std.proofs.Common.{◌≡◌, refl, sym, ◌∙◌, List, [], ◌∷◌, ℕ, ◌≤◌, arith, T}
use Rattle.std.proofs.Math.Option.{Option, none, some}
use Rattle.rules.specs.Tables.{last_number}
use Rattle.rules.specs.Answers.{is_start, Call, Refusal, places_full, numbers_spent, order, refusal}
use Rattle.rules.specs.Layout.{unpack, sound_words}
use Rattle.decisions.specs.Ends.{spent_first, full_first, start_none}
use Rattle.refusals.specs.Reasons.{asking, FirstOf}
use Rattle.refusals.proofs.Readings.{saying}
use Rattle.refusals.proofs.Deciding.{because, no_reason, decides}
use Rattle.refusals.proofs.of_start.Goals.{Else-spent, Start}
use Rattle.refusals.proofs.of_start.Goals as goal

abbrev call : Call
call = asking is_start 0 0 0

abbrev reasons : List Refusal
reasons = numbers_spent ∷ places_full ∷ []

for : (ws : List ℕ) → T (sound_words ws) → (r : Option Refusal) → FirstOf (unpack ws) call reasons r → r ≡ refusal (unpack ws) call
unfolding order
for ws s = decides ws call reasons s refl

numbers_left : (c : Else-spent) → (unpack c.args.t.now.words.now).next.num ≤ last_number
numbers_left c =
    let start : Start = (goal.at.Else-spent c).Start in
    omega (arith, (saying start.args.t.now.words.now start.args.t.now.sound).next, c.if-spent.false)

pub returns-then-spent : goal.returns-then-spent
returns-then-spent c = let ws : List ℕ = c.args.t.now.words.now in
    for ws c.args.t.now.sound (some numbers_spent)
    (because ws call reasons numbers_spent
    (spent_first (unpack ws) call (omega (arith, (saying ws c.args.t.now.sound).next, c.if-spent.true))))

pub returns-then-free_places-eq0 : goal.returns-then-free_places-eq0
returns-then-free_places-eq0 c = let ws : List ℕ = c.args.t.now.words.now in
    for ws c.args.t.now.sound (some places_full)
    (because ws call reasons places_full
    (full_first (unpack ws) call (numbers_left (goal.at.returns-then-free_places-eq0 c).Else-spent) (sym c.free_places.ensures ∙ c.if-free_places-eq0.true)))

pub returns : goal.returns
returns c = let ws : List ℕ = c.args.t.now.words.now in
    for ws c.args.t.now.sound none
    (no_reason ws call reasons
    (start_none (unpack ws) call (numbers_left (goal.at.returns c).Else-spent) (λ z. c.if-free_places-eq0.false (c.free_places.ensures ∙ z))))
