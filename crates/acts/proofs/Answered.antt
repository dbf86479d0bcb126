-- An answer and the words left, from what the reason of a refusal says, or from what the kind of a call says that nothing
-- refuses.
-- Rests on the rules' Answers and on Acted. Assumes nothing.
use mathlib.Core.Path.{◌≡◌, ap, sym, subst, ◌∙◌}
use mathlib.Core.List.{List}
use mathlib.Core.Option.{Option, none, some}
use Prim.Native.Nat.{ℕ}
use Rattle.rules.specs.Answers.{Kind, Call, Refusal, Outcome, number_of, refusal_value, refusal_leaves, done_value, done_leaves, outcome, refusal, call}
use Rattle.rules.specs.Layout.{pack, unpack}
use Rattle.calls.specs.declared.Answer.{Answer}
use Rattle.calls.specs.Meaning.{answer_of}
use Rattle.acts.specs.Acted.{Acted, Did}

module _ (ws : List ℕ) (c : Call) (a : Answer) (vs : List ℕ) where
  answered_as : (r : Option Refusal) → r ≡ refusal (unpack ws) c → answer_of a ≡ (outcome r (unpack ws) c).answer
      → vs ≡ pack (outcome r (unpack ws) c).tables → Acted ws c a vs
  unfolding call
  answered_as r e answered left =
      let same : outcome r (unpack ws) c ≡ call (unpack ws) c = ap (λ (o : Option Refusal). outcome o (unpack ws) c) e in
      record {
        answered = answered ∙ ap (λ (o : Outcome). o.answer) same;
        left = left ∙ ap (λ (o : Outcome). pack o.tables) same;
      }

  pub refused_acts : (r : Refusal) → some r ≡ refusal (unpack ws) c → {v : ℕ} → answer_of a ≡ record { number = number_of r; value = v }
      → v ≡ refusal_value r (unpack ws) c → vs ≡ pack (refusal_leaves r (unpack ws) c) → Acted ws c a vs
  unfolding outcome
  refused_acts r e answered value =
      answered_as (some r) e (answered ∙ ap (λ (n : ℕ). record { number = number_of r; value = n }) value)

  pub done_acts : none ≡ refusal (unpack ws) c → {v : ℕ} → answer_of a ≡ record { number = 0; value = v } → Did ws c v vs
      → Acted ws c a vs
  unfolding outcome
  done_acts e answered did =
      answered_as none e (answered ∙ ap (λ (n : ℕ). record { number = 0; value = n }) did.given) did.left

-- what a call of a kind gives and leaves
pub did : (ws : List ℕ) (c : Call) (k : Kind) → c.kind ≡ k → (r : ℕ) (vs : List ℕ) → r ≡ done_value k (unpack ws) c
    → vs ≡ pack (done_leaves k (unpack ws) c) → Did ws c r vs
did ws c k e r vs given left =
    record {
      given = subst (λ (j : Kind). r ≡ done_value j (unpack ws) c) (sym e) given;
      left = subst (λ (j : Kind). vs ≡ pack (done_leaves j (unpack ws) c)) (sym e) left;
    }
