-- `runs::first` meets its contract: a frame at the front of the text is its first line and is asked of the words. Where
-- there is none, the first line is none either, and leaves the words.
-- Assumes nothing.
use Rattle.std.proofs.Common.{◌≡◌, ap, sym, ◌∙◌, List, ℕ, T, take}
use mathlib.Core.Option.{none, some}
use Rattle.rules.specs.Answers as rules
use Rattle.rules.specs.Frames.{frame_length, read_frame}
use Rattle.rules.specs.Layout.{sound_words}
use Rattle.rules.specs.Session.{asked, line}
use Rattle.words_laws.specs.Words.{words_again}
use Rattle.calls.specs.declared.Answer.{Answer}
use Rattle.frames.specs.Parsed.{parsed_as}
use Rattle.acts.specs.Acted.{Acted}
use Rattle.runs.specs.declared.Answered.{Answered}
use Rattle.runs.specs.First.{BadFrame, FirstActed, frame_first, first_reads, short}
use Rattle.runs.proofs.first.Goals as goal

call_acted : (ws text vs : List ℕ) (q : rules.Call) (a : Answer) → some q ≡ read_frame (take frame_length text) → Acted ws q a vs
    → FirstActed ws text (record { answer = a; length = frame_length }) vs
unfolding line asked
call_acted ws text vs q a e acted =
    record {
      first = frame_first text q (sym e);
      acted = record { answered = rw (← e) acted.answered; left = rw (← e) acted.left };
    }

bad_acted : (ws text : List ℕ) (r : Answered) → none ≡ read_frame (take frame_length text) → T (sound_words ws) → BadFrame text r
    → FirstActed ws text r ws
unfolding line asked
bad_acted ws text r e s bad =
    let none_first = first_reads text r.length bad.first ∙ sym e in
    record {
      first = bad.first;
      acted = record { answered = rw (none_first, bad.answer); left = rw none_first (sym (words_again ws s)) };
    }

pub returns-then-short : goal.returns-then-short
returns-then-short c = bad_acted _ _ _ (short c.args.text.now c.if-short.true) c.requires.0 c.bad.ensures

pub returns-in-Some : goal.returns-in-Some
returns-in-Some c = call_acted _ _ _ _ _ (ap parsed_as (sym c.in-Some.is) ∙ c.read.ensures) c.call.ensures

pub returns-in-None : goal.returns-in-None
returns-in-None c = bad_acted _ _ _ (ap parsed_as (sym c.in-None.is) ∙ c.read.ensures) c.requires.0 c.bad-in-None.ensures
