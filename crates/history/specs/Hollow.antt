-- A build that books at one commit and feigns another does not keep the log's truth: wherever it answers 00 to a commit
-- and adds no record, its log is not the list of those told "committed".
-- Rests on the rules' History and Truth. Assumes nothing.
use Rattle.std.specs.Prelude.{◌≡◌, refl, Bool, true, false, cond, List, [], ◌∷◌, ◌++◌, suc, T, length}
use Rattle.std.proofs.Common.{ap, ◌∙◌, arith}
use Rattle.std.proofs.Math.Option.{Option}
use Rattle.rules.specs.Tables.{Txn}
use Rattle.rules.specs.Answers.{is_commit, Call}
use Rattle.rules.specs.History.{Event, is_done, who_asks, committed}
use Rattle.rules.specs.Truth.{Asks}

-- what a build tells and logs
pub record Booked : Type 0 where
  pub events : List Event
  pub log : List Txn

-- a build, by what is asked of it from fresh tables on
abbrev pub Build : Type 0
Build = List (Option Call) → Booked

-- its log is always the list of those told "committed"
abbrev pub KeepsLog : Build → Type 0
KeepsLog b = (cs : List (Option Call)) → Asks cs → (b cs).log ≡ committed (b cs).events

-- one more done commit is one more told "committed"
committed_more : (h : List Event) (e : Event) → T (is_done is_commit e.asks e.answer) → length (committed (h ++ e ∷ [])) ≡ suc (length (committed h))
unfolding committed
committed_more [] e d = one (is_done is_commit e.asks e.answer) d
  where
    one : (b : Bool) → T b → length (cond b (who_asks e.asks ∷ []) []) ≡ 1
    one true t = refl
    one false t = absurd t
committed_more (f ∷ h) e d = more (is_done is_commit f.asks f.answer) (committed_more h e d)
  where
    more : (b : Bool) → length (committed (h ++ e ∷ [])) ≡ suc (length (committed h))
        → length (cond b (who_asks f.asks ∷ committed (h ++ e ∷ [])) (committed (h ++ e ∷ []))) ≡ suc (length (cond b (who_asks f.asks ∷ committed h) (committed h)))
    more true r = ap suc r
    more false r = r

-- a commit that is answered 00 and adds no record
pub feigned_commit : (b : Build) (cs : List (Option Call)) (a : Option Call) (e : Event) → Asks cs → Asks (cs ++ a ∷ [])
    → (b (cs ++ a ∷ [])).events ≡ (b cs).events ++ e ∷ [] → T (is_done is_commit e.asks e.answer)
    → (b (cs ++ a ∷ [])).log ≡ (b cs).log → KeepsLog b → ⊥
feigned_commit b cs a e m n told done same keeps =
    let before = ap length (keeps cs m) in
    let after = ap length (keeps (cs ++ a ∷ []) n) in
    let more = ap (λ (h : List Event). length (committed h)) told ∙ committed_more (b cs).events e done in
    omega (arith, ap length same)
