-- A reason is a call's where it is the first of the call's order that holds, whole or part by part.
-- Rests on the rules' Answers, on words_laws, answers_laws and decisions, and on Reasons. Assumes nothing.
use Rattle.std.proofs.Common.{◌≡◌, ap, sym, ◌∙◌, Bool, List, [], ◌∷◌, ◌++◌, ℕ, T, Result, Err, IsErr, IsErrAnd}
use Rattle.std.proofs.Math.Option.{Option, none, some}
use Rattle.std.proofs.lemmas.Result.{err_from_is_err_and}
use Rattle.rules.specs.Answers.{Call, Refusal, unsound, order, fact, first, refusal}
use Rattle.rules.specs.Layout.{unpack, sound_words}
use Rattle.basics.specs.Lists.{All}
use Rattle.words_laws.specs.Words.{unpacked_sound}
use Rattle.answers_laws.specs.Exactly.{IsFirst, first_is, first_none, first_past, first_stop}
use Rattle.calls.specs.declared.Refusal as calls
use Rattle.decisions.specs.Facts.{not_unsound}
use Rattle.refusals.specs.Reasons.{FirstOf}

-- what a `?` hands up
pub handed_up : {A : Type 0} {w : Result A calls.Refusal} {e : calls.Refusal} → IsErr w × IsErrAnd w (λ d. d ≡ e) → w ≡ Err e
handed_up {A} {w} i = let k = err_from_is_err_and w i.1 in k.1 ∙ ap (λ d. Err d) k.2

module _ (ws : List ℕ) (c : Call) where
  abbrev holds : Refusal → Bool
  holds r = fact r (unpack ws) c

  module _ (l : List Refusal) where
    pub because : (r : Refusal) → IsFirst holds l r → FirstOf (unpack ws) c l (some r)
    because r f = sym (first_is holds l r f)

    pub no_reason : All (λ r. T (holds r) → ⊥) l → FirstOf (unpack ws) c l none
    no_reason f = sym (first_none holds l f)

    -- none of a part holds, and the rest tells the reason
    pub after : (rest : List Refusal) → FirstOf (unpack ws) c l none → (r : Option Refusal) → FirstOf (unpack ws) c rest r → FirstOf (unpack ws) c (l ++ rest) r
    after rest z r f = f ∙ sym (first_past holds l rest z)

    -- one of a part holds, and the rest is not asked
    pub before : (rest : List Refusal) (r : Refusal) → FirstOf (unpack ws) c l (some r) → FirstOf (unpack ws) c (l ++ rest) (some r)
    before rest r f = first_stop holds l rest (some r) f (λ e. cc)

    -- on sound words an order is what follows its first reason
    pub decides : T (sound_words ws) → order c.kind ≡ unsound ∷ l → (r : Option Refusal) → FirstOf (unpack ws) c l r → r ≡ refusal (unpack ws) c
    unfolding refusal
    decides s in_order r f =
        f
        ∙ sym (first_past holds (unsound ∷ []) l (sym (first_none holds (unsound ∷ []) (not_unsound (unpack ws) c (unpacked_sound ws s), tt))))
        ∙ ap (λ (m : List Refusal). first m holds) (sym in_order)
