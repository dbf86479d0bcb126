-- `maruvoog::one` meets its contract: on words that the test finds sound the call is done, and others are left as they are.
-- Assumes nothing.
use Rattle.std.proofs.Common.{◌≡◌, sym, ◌∙◌, true, false, List, ℕ}
use Rattle.rules.specs.Answers.{unsound}
use Rattle.rules.specs.Answers as rules
use Rattle.rules.specs.Layout.{sound_words}
use Rattle.rules.specs.Session.{plainly, call_words}
use Rattle.basics.specs.Logic.{from_true}
use Rattle.calls.specs.declared.Answer.{Answer}
use Rattle.calls.specs.Meaning.{answer_of}
use Rattle.acts.specs.Acted.{Acted}
use Rattle.maruvoog.specs.Promised.{Leaves}
use Rattle.maruvoog.proofs.one.Goals.{Else-refused}
use Rattle.maruvoog.proofs.one.Goals as goal

on_sound : (ws vs : List ℕ) (q : rules.Call) (a : Answer) → sound_words ws ≡ true → Acted ws q a vs → Leaves (call_words ws q) a vs
unfolding call_words
on_sound ws vs q a e acted = record { answer = rw e acted.answered; words = rw e acted.left }

on_unsound : (ws : List ℕ) (q : rules.Call) (a : Answer) → sound_words ws ≡ false → answer_of a ≡ plainly unsound
    → Leaves (call_words ws q) a ws
unfolding call_words
on_unsound ws q a e g = record { answer = rw e g; words = rw e }

-- where the test passed, the words are sound
found_sound : (c : Else-refused) → sound_words c.args.words.now ≡ true
found_sound c = sym c.sound-refused.ensures ∙ c.if-refused.false

pub returns-then-refused : goal.returns-then-refused
returns-then-refused c = on_unsound _ _ _ (sym c.sound-refused.ensures ∙ c.if-refused.true) c.unsound.ensures

pub call-requires : goal.call-requires
call-requires c = from_true _ (found_sound (goal.at.call-requires c).Else-refused)

pub returns : goal.returns
returns c = on_sound _ _ _ _ (found_sound (goal.at.returns c).Else-refused) c.call.ensures
