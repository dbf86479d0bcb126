-- What holds of fresh tables with no history, and is carried on by whatever is asked, holds of all grown tables with
-- their history.
-- Rests on the rules' History and Truth, and on sound_laws. Assumes nothing.
use Rattle.std.specs.Prelude.{◌≡◌, refl, T}
use Rattle.std.proofs.Common.{ap, sym}
use Rattle.std.proofs.Math.Path.{subst}
use mathlib.Core.List.{List, [], ◌∷◌, ◌++◌, append_assoc, append-nil}
use Rattle.std.proofs.Math.Option.{Option, none, some}
use Rattle.rules.specs.Tests.{all}
use Rattle.rules.specs.Tables.{Tables, fresh}
use Rattle.rules.specs.Sound.{sound}
use Rattle.rules.specs.Answers.{Call}
use Rattle.rules.specs.Session.{asked}
use Rattle.rules.specs.Runs.{fresh_sound}
use Rattle.rules.specs.History.{Event, may_ask, tables_after, history}
use Rattle.rules.specs.Truth.{Asks, grown, told}
use Rattle.basics.specs.Logic.{and_says}
use Rattle.sound_laws.specs.Kept.{kept}

-- what is asked of tables and their history, as an event
abbrev pub event : Tables → Option Call → Event
event t a = record { asks = a; answer = (asked t a).answer }

pub asked_sound : (t : Tables) (a : Option Call) → T (may_ask a) → T (sound t) → T (sound (asked t a).tables)
unfolding asked
asked_sound t none m s = s
asked_sound t (some c) m s = kept t c m s

module _ (P : Tables → List Event → Type 0)
    (step : (t : Tables) (h : List Event) (a : Option Call) → T (sound t) → T (may_ask a) → P t h → P (asked t a).tables (h ++ event t a ∷ [])) where
  pub carried : (cs : List (Option Call)) (t : Tables) (h : List Event) → T (sound t) → Asks cs → P t h → P (tables_after t cs) (h ++ history t cs)
  unfolding tables_after history all
  carried [] t h s m p = subst (P t) (sym (append-nil h)) p
  carried (a ∷ cs) t h s m p =
      let b = (and_says (may_ask a) (all may_ask cs)).0 m in
      subst (P (tables_after (asked t a).tables cs)) (append_assoc h (event t a ∷ []) (history (asked t a).tables cs))
      (carried cs (asked t a).tables (h ++ event t a ∷ []) (asked_sound t a b.0 s) b.1 (step t h a s b.0 p))

  -- from fresh tables on
  pub grown_so : P fresh [] → (cs : List (Option Call)) → Asks cs → P (grown cs) (told cs)
  grown_so p cs m = carried cs fresh [] fresh_sound m p

-- grown tables are sound
pub grown_sound : (cs : List (Option Call)) → Asks cs → T (sound (grown cs))
unfolding tables_after all
grown_sound cs m = go cs fresh m fresh_sound
  where
    go : (ds : List (Option Call)) (t : Tables) → T (all may_ask ds) → T (sound t) → T (sound (tables_after t ds))
    go [] t n s = s
    go (a ∷ ds) t n s =
        let b = (and_says (may_ask a) (all may_ask ds)).0 n in
        go ds (asked t a).tables b.1 (asked_sound t a b.0 s)

-- ---- asked in two parts

pub after_both : (t : Tables) (cs ds : List (Option Call)) → tables_after t (cs ++ ds) ≡ tables_after (tables_after t cs) ds
unfolding tables_after
after_both t [] ds = refl
after_both t (a ∷ cs) ds = after_both (asked t a).tables cs ds

pub told_both : (t : Tables) (cs ds : List (Option Call)) → history t (cs ++ ds) ≡ history t cs ++ history (tables_after t cs) ds
unfolding tables_after history
told_both t [] ds = refl
told_both t (a ∷ cs) ds = ap (λ (l : List Event). event t a ∷ l) (told_both (asked t a).tables cs ds)

pub asks_both : (cs ds : List (Option Call)) → Asks (cs ++ ds) → Asks cs × Asks ds
unfolding all
asks_both [] ds m = (tt, m)
asks_both (a ∷ cs) ds m =
    let b = (and_says (may_ask a) (all may_ask (cs ++ ds))).0 m in
    let r = asks_both cs ds b.1 in
    ((and_says (may_ask a) (all may_ask cs)).1 (b.0, r.0), r.1)
