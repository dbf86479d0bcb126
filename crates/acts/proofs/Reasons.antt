-- The value given with a refusal, where none is looked up, and the reasons with which somebody falls.
-- Rests on the rules' Answers and on calls' Meaning. Assumes nothing.
use mathlib.Core.Path.{◌≡◌, refl}
use Rattle.rules.specs.Tables.{Tables}
use Rattle.rules.specs.Answers.{Call, lost, died, refusal_value}
use Rattle.calls.specs.declared.Refusal.{Refusal}
use Rattle.calls.specs.declared.Refusal.TheVariants.{Unsound, NoSuchObject, NeverGivenOut, NoLongerLive, AfterAPrepare, Lost, Wait, Died, NotAccessed, PreparedBefore, ChainFull, Unprepared, Unsaved, DependencyLive, LogFull, PlacesFull, NumbersSpent, BadFrame}
use Rattle.calls.specs.Meaning.{refusal_of}

-- a reason with which no value is looked up, Lost among them
pub record Plain (w : Refusal) : Type 0 where
  pub not_no_longer_live : w ≡ NoLongerLive → ⊥
  pub not_wait : w ≡ Wait → ⊥
  pub not_died : w ≡ Died → ⊥
  pub not_unprepared : w ≡ Unprepared → ⊥
  pub not_unsaved : w ≡ Unsaved → ⊥
  pub not_dependency_live : w ≡ DependencyLive → ⊥

pub plain_value : (w : Refusal) → Plain w → (t : Tables) (c : Call) → (refusal_of w ≡ lost → ⊥) → 0 ≡ refusal_value (refusal_of w) t c
unfolding refusal_value
plain_value Unsound p t c f = refl
plain_value NoSuchObject p t c f = refl
plain_value NeverGivenOut p t c f = refl
plain_value NoLongerLive p t c f = absurd (p.not_no_longer_live refl)
plain_value AfterAPrepare p t c f = refl
plain_value Lost p t c f = absurd (f refl)
plain_value Wait p t c f = absurd (p.not_wait refl)
plain_value Died p t c f = absurd (p.not_died refl)
plain_value NotAccessed p t c f = refl
plain_value PreparedBefore p t c f = refl
plain_value ChainFull p t c f = refl
plain_value Unprepared p t c f = absurd (p.not_unprepared refl)
plain_value Unsaved p t c f = absurd (p.not_unsaved refl)
plain_value DependencyLive p t c f = absurd (p.not_dependency_live refl)
plain_value LogFull p t c f = refl
plain_value PlacesFull p t c f = refl
plain_value NumbersSpent p t c f = refl
plain_value BadFrame p t c f = refl

-- the reasons with which somebody falls
pub is_lost : (w : Refusal) → refusal_of w ≡ lost → w ≡ Lost
is_lost Lost e = refl
is_lost w e = absurd (cc)

pub is_died : (w : Refusal) → refusal_of w ≡ died → w ≡ Died
is_died Died e = refl
is_died w e = absurd (cc)

pub died_not_lost : died ≡ lost → ⊥
died_not_lost e = cc
