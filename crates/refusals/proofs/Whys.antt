-- The code's results, back from the rules' refusals: a result that the code passed over is not the rules' either.
-- Rests on the rules' Answers and on Reasons. Assumes nothing.
use mathlib.Core.Path.{◌≡◌, refl, ap, sym, ◌∙◌}
use mathlib.Core.Option.{Option, none, some}
use Rattle.std.specs.Prelude.{Result, Ok, Err}
use Rattle.rules.specs.Answers.{unsound, no_such_object, never_given_out, no_longer_live, after_a_prepare, lost, wait, died, not_accessed, prepared_before, chain_full, unprepared, unsaved, dependency_live, log_full, places_full, numbers_spent, bad_frame}
use Rattle.rules.specs.Answers as rules
use Rattle.calls.specs.declared.Refusal.{Refusal}
use Rattle.calls.specs.declared.Refusal.TheVariants.{Unsound, NoSuchObject, NeverGivenOut, NoLongerLive, AfterAPrepare, Lost, Wait, Died, NotAccessed, PreparedBefore, ChainFull, Unprepared, Unsaved, DependencyLive, LogFull, PlacesFull, NumbersSpent, BadFrame}
use Rattle.refusals.specs.Reasons.{reason_of}

abbrev why_of : Option rules.Refusal → Result Unit Refusal
why_of none = Ok tt
why_of (some unsound) = Err Unsound
why_of (some no_such_object) = Err NoSuchObject
why_of (some never_given_out) = Err NeverGivenOut
why_of (some no_longer_live) = Err NoLongerLive
why_of (some after_a_prepare) = Err AfterAPrepare
why_of (some lost) = Err Lost
why_of (some wait) = Err Wait
why_of (some died) = Err Died
why_of (some not_accessed) = Err NotAccessed
why_of (some prepared_before) = Err PreparedBefore
why_of (some chain_full) = Err ChainFull
why_of (some unprepared) = Err Unprepared
why_of (some unsaved) = Err Unsaved
why_of (some dependency_live) = Err DependencyLive
why_of (some log_full) = Err LogFull
why_of (some places_full) = Err PlacesFull
why_of (some numbers_spent) = Err NumbersSpent
why_of (some bad_frame) = Err BadFrame

back : (w : Result Unit Refusal) → why_of (reason_of w) ≡ w
back (Ok tt) = refl
back (Err Unsound) = refl
back (Err NoSuchObject) = refl
back (Err NeverGivenOut) = refl
back (Err NoLongerLive) = refl
back (Err AfterAPrepare) = refl
back (Err Lost) = refl
back (Err Wait) = refl
back (Err Died) = refl
back (Err NotAccessed) = refl
back (Err PreparedBefore) = refl
back (Err ChainFull) = refl
back (Err Unprepared) = refl
back (Err Unsaved) = refl
back (Err DependencyLive) = refl
back (Err LogFull) = refl
back (Err PlacesFull) = refl
back (Err NumbersSpent) = refl
back (Err BadFrame) = refl

-- a result that is not the code's for a reason has not that reason
pub passed_over : (w : Result Unit Refusal) (r : Option rules.Refusal) → (w ≡ why_of r → ⊥) → reason_of w ≡ r → ⊥
passed_over w r other e = other (sym (back w) ∙ ap why_of e)

pub not_done : (w : Result Unit Refusal) → (w ≡ Ok tt → ⊥) → reason_of w ≡ none → ⊥
not_done w = passed_over w none
