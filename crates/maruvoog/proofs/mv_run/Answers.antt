-- `maruvoog::mv_run` meets its contract: on words that the test finds sound the lines are run, and otherwise the words and
-- the room are left as they are.
-- Assumes nothing.
use Rattle.std.proofs.Common.{◌≡◌, sym, ◌∙◌, true, false, List, ℕ}
use Rattle.rules.specs.Answers.{unsound}
use Rattle.rules.specs.Layout.{sound_words}
use Rattle.rules.specs.Session.{plainly, run_words}
use Rattle.calls.specs.declared.Answer.{Answer}
use Rattle.calls.specs.Meaning.{answer_of}
use Rattle.basics.specs.Logic.{from_true}
use Rattle.runs.specs.declared.Ran.{Ran}
use Rattle.runs.specs.Ran.{RanLines}
use Rattle.maruvoog.specs.Promised.{Runs}
use Rattle.maruvoog.proofs.mv_run.Goals.{Then-sound}
use Rattle.maruvoog.proofs.mv_run.Goals as goal

on_sound : (ws text room vs filled : List ℕ) (r : Ran) (a : Answer) → sound_words ws ≡ true → RanLines ws text room r vs filled
    → answer_of a ≡ record { number = 0; value = r.lines } → Runs (run_words ws text room) a vs filled
unfolding run_words
on_sound ws text room vs filled r a e ran g =
    record { answer = g ∙ rw (e, ran.lines); words = rw e ran.left; room = rw (e, ← ran.lines) ran.answers }

on_unsound : (ws text room : List ℕ) (a : Answer) → sound_words ws ≡ false → answer_of a ≡ plainly unsound
    → Runs (run_words ws text room) a ws room
unfolding run_words
on_unsound ws text room a e g = record { answer = rw e g; words = rw e; room = rw e }

-- where the test passed, the words are sound
found_sound : (c : Then-sound) → sound_words c.args.words.now ≡ true
found_sound c = sym c.sound.ensures ∙ c.if-sound.true

pub run-ran-requires : goal.run-ran-requires
run-ran-requires c = from_true _ (found_sound (goal.at.run-ran-requires c).Then-sound)

pub returns-then-sound : goal.returns-then-sound
returns-then-sound c = on_sound _ _ _ _ _ _ _ (found_sound (goal.at.returns-then-sound c).Then-sound) c.run-ran.ensures c.done.ensures

pub returns-else-sound : goal.returns-else-sound
returns-else-sound c = on_unsound _ _ _ _ (sym c.sound.ensures ∙ c.if-sound.false) c.unsound.ensures
