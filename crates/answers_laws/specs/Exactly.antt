-- For every call and every tables: an answer number is given exactly when its fact holds and none earlier in its order
-- does, with its value and what it leaves.
-- Rests on the rules' Answers, and on basics' Logic and Lists. Assumes nothing.
use Rattle.std.proofs.Math.Path.{◌≡◌, refl, ap}
use Rattle.std.proofs.Common.{sym, ◌∙◌, inl, inr, arith}
use Rattle.std.specs.Prelude.{Bool, ◌⊎◌, ◌↔◌, ℕ, T, get_or}
use Rattle.std.proofs.Math.Bool.{true, false, cond}
use mathlib.Core.List.{List, [], ◌∷◌, ◌++◌}
use Rattle.std.proofs.Math.Option.{Option, none, some}
use Rattle.rules.specs.Tables.{Tables}
use Rattle.rules.specs.Answers.{Call, Refusal, unsound, no_such_object, never_given_out, no_longer_live, after_a_prepare, lost, wait, died, not_accessed, prepared_before, chain_full, unprepared, unsaved, dependency_live, log_full, places_full, numbers_spent, bad_frame, number_of, order, fact, refusal_value, refusal_leaves, done_value, done_leaves, first, outcome, refusal, call}
use Rattle.rules.specs.Steps.{abort}
use Rattle.basics.specs.Logic.{passes_or_fails, cond_true, cond_false}
use Rattle.basics.specs.Lists.{All}

-- r is in the list, passes, and none before it does
abbrev pub IsFirst : (Refusal → Bool) → List Refusal → Refusal → Type 0
IsFirst f [] r = ⊥
IsFirst f (q ∷ qs) r = ((q ≡ r) × T (f q)) ⊎ ((T (f q) → ⊥) × IsFirst f qs r)

-- ---- the numbers of the answers

-- what a number stands for: 0 for done
abbrev numbered : List (Option Refusal)
numbered =
    none
    ∷ some unsound
    ∷ some no_such_object
    ∷ some never_given_out
    ∷ some no_longer_live
    ∷ some after_a_prepare
    ∷ some lost
    ∷ some wait
    ∷ some died
    ∷ some not_accessed
    ∷ some prepared_before
    ∷ some chain_full
    ∷ some unprepared
    ∷ some unsaved
    ∷ some dependency_live
    ∷ some log_full
    ∷ some places_full
    ∷ some numbers_spent
    ∷ some bad_frame
    ∷ []

abbrev stands_for : ℕ → Option Refusal
stands_for n = get_or numbered n none

-- the number of a refusal stands for it
number_stands : (r : Refusal) → stands_for (number_of r) ≡ some r
unfolding number_of
number_stands unsound = refl
number_stands no_such_object = refl
number_stands never_given_out = refl
number_stands no_longer_live = refl
number_stands after_a_prepare = refl
number_stands lost = refl
number_stands wait = refl
number_stands died = refl
number_stands not_accessed = refl
number_stands prepared_before = refl
number_stands chain_full = refl
number_stands unprepared = refl
number_stands unsaved = refl
number_stands dependency_live = refl
number_stands log_full = refl
number_stands places_full = refl
number_stands numbers_spent = refl
number_stands bad_frame = refl

-- no two refusals have one number
pub one_number : (q r : Refusal) → number_of q ≡ number_of r → q ≡ r
one_number q r e =
    let w : stands_for (number_of q) ≡ stands_for (number_of r) = ap stands_for e in
    cc (number_stands q, number_stands r)

-- and none has the number of done
pub not_done : (r : Refusal) → number_of r ≡ 0 → ⊥
not_done r e =
    let w : stands_for (number_of r) ≡ none = ap stands_for e in
    let z : ◌≡◌ {A = ℕ} 0 1 = cc (number_stands r) in
    omega arith

-- ---- the first of a list that passes

module _ (f : Refusal → Bool) where
  pub first_is : (qs : List Refusal) (r : Refusal) → IsFirst f qs r → first qs f ≡ some r
  unfolding first
  first_is [] r h = absurd h
  first_is (q ∷ qs) r (inl h) = cond_true (f q) (some q) (first qs f) h.1 ∙ ap some h.0
  first_is (q ∷ qs) r (inr h) = cond_false (f q) (some q) (first qs f) h.0 ∙ first_is qs r h.1

  first_passes : (qs : List Refusal) (r : Refusal) → IsFirst f qs r → T (f r)
  first_passes [] r h = absurd h
  first_passes (q ∷ qs) r (inl h) = rw h.0 at h.1
  first_passes (q ∷ qs) r (inr h) = first_passes qs r h.1

  pub first_none : (qs : List Refusal) → All (λ q. T (f q) → ⊥) qs → first qs f ≡ none
  unfolding first
  first_none [] h = refl
  first_none (q ∷ qs) h = cond_false (f q) (some q) (first qs f) h.0 ∙ first_none qs h.1

  -- where none of a list passes, the rest tells the first; where one does, it is the first whatever the rest
  pub first_past : (qs rest : List Refusal) → none ≡ first qs f → first (qs ++ rest) f ≡ first rest f
  unfolding first
  first_past [] rest e = refl
  first_past (q ∷ qs) rest e = go (f q) (first_past qs rest) e
    where
      go : (b : Bool) → (none ≡ first qs f → first (qs ++ rest) f ≡ first rest f) → none ≡ cond b (some q) (first qs f)
          → cond b (some q) (first (qs ++ rest) f) ≡ first rest f
      go true more d = let z : ◌≡◌ {A = ℕ} 0 1 = cc in absurd (omega arith)
      go false more d = more d

  pub first_stop : (qs rest : List Refusal) (w : Option Refusal) → w ≡ first qs f → (w ≡ none → ⊥) → w ≡ first (qs ++ rest) f
  unfolding first
  first_stop [] rest w e some_one = absurd (some_one e)
  first_stop (q ∷ qs) rest w e some_one = go (f q) (λ d. first_stop qs rest w d some_one) e
    where
      go : (b : Bool) → (w ≡ first qs f → w ≡ first (qs ++ rest) f) → w ≡ cond b (some q) (first qs f)
          → w ≡ cond b (some q) (first (qs ++ rest) f)
      go true more d = d
      go false more d = more d

  one_or_none : (qs : List Refusal) → ((r : Refusal) × IsFirst f qs r) ⊎ All (λ q. T (f q) → ⊥) qs
  one_or_none [] = inr tt
  one_or_none (q ∷ qs) = go (passes_or_fails (f q)) (one_or_none qs)
    where
      go : T (f q) ⊎ (T (f q) → ⊥) → ((r : Refusal) × IsFirst f qs r) ⊎ All (λ p. T (f p) → ⊥) qs
          → ((r : Refusal) × IsFirst f (q ∷ qs) r) ⊎ All (λ p. T (f p) → ⊥) (q ∷ qs)
      go (inl t) w = inl (q, inl (refl, t))
      go (inr g) (inl w) = inl (w.0, inr (g, w.1))
      go (inr g) (inr h) = inr (g, h)

module _ (t : Tables) (c : Call) where
  -- the facts that refuse this call, in its order
  abbrev pub Refused : Refusal → Type 0
  Refused r = IsFirst (λ q. fact q t c) (order c.kind) r

  -- no fact refuses it
  abbrev pub Allowed : Type 0
  Allowed = All (λ q. T (fact q t c) → ⊥) (order c.kind)

  -- a call is refused for one reason, or done
  pub refused_or_done : ((r : Refusal) × Refused r) ⊎ Allowed
  refused_or_done = one_or_none (λ q. fact q t c) (order c.kind)

  -- a reason for which it is refused holds
  pub refused_holds : (r : Refusal) → Refused r → T (fact r t c)
  refused_holds r f = first_passes (λ q. fact q t c) (order c.kind) r f

  -- the reason of a refusal, and that there is none
  pub refused_why : (r : Refusal) → Refused r → refusal t c ≡ some r
  unfolding refusal
  refused_why r f = first_is (λ q. fact q t c) (order c.kind) r f

  pub done_why : Allowed → refusal t c ≡ none
  unfolding refusal
  done_why f = first_none (λ q. fact q t c) (order c.kind) f

  refused_call : (r : Refusal) → Refused r → call t c ≡ outcome (some r) t c
  unfolding call refusal
  refused_call r f = rw (first_is (λ q. fact q t c) (order c.kind) r f)

  done_call : Allowed → call t c ≡ outcome none t c
  unfolding call refusal
  done_call f = rw (first_none (λ q. fact q t c) (order c.kind) f)

  refused_number : (r : Refusal) → Refused r → (call t c).answer.number ≡ number_of r
  unfolding outcome
  refused_number r f = rw (refused_call r f)

  done_number : Allowed → (call t c).answer.number ≡ 0
  unfolding outcome
  done_number f = rw (done_call f)

  -- the number of a refusal is given exactly where its fact is the first to hold
  pub refused_exactly : (r : Refusal) → ((call t c).answer.number ≡ number_of r) ↔ Refused r
  refused_exactly r = (λ e. go e refused_or_done, refused_number r)
    where
      go : (call t c).answer.number ≡ number_of r → ((q : Refusal) × Refused q) ⊎ Allowed → Refused r
      go e (inl w) = rw (one_number w.0 r (sym (refused_number w.0 w.1) ∙ e)) at w.1
      go e (inr h) = absurd (not_done r (sym e ∙ done_number h))

  -- 00 is given exactly where no fact holds
  pub done_exactly : ((call t c).answer.number ≡ 0) ↔ Allowed
  done_exactly = (λ e. go e refused_or_done, done_number)
    where
      go : (call t c).answer.number ≡ 0 → ((q : Refusal) × Refused q) ⊎ Allowed → Allowed
      go e (inl w) = absurd (not_done w.0 (sym (refused_number w.0 w.1) ∙ e))
      go e (inr h) = h

  -- a refused call gives the value of its reason
  pub refused_gives : (r : Refusal) → Refused r → (call t c).answer.value ≡ refusal_value r t c
  unfolding outcome
  refused_gives r f = rw (refused_call r f)

  -- and leaves what its reason leaves
  pub refused_leaves : (r : Refusal) → Refused r → (call t c).tables ≡ refusal_leaves r t c
  unfolding outcome
  refused_leaves r f = rw (refused_call r f)

  -- a call that is done gives the value of its kind
  pub done_gives : Allowed → (call t c).answer.value ≡ done_value c.kind t c
  unfolding outcome
  done_gives f = rw (done_call f)

  -- and leaves what its kind leaves
  pub done_leaves_so : Allowed → (call t c).tables ≡ done_leaves c.kind t c
  unfolding outcome
  done_leaves_so f = rw (done_call f)

-- a refusal leaves the tables as they were, save lost and died
pub refusal_leaves_same : (r : Refusal) (t : Tables) (c : Call) → (r ≡ lost → ⊥) → (r ≡ died → ⊥)
    → refusal_leaves r t c ≡ t
unfolding refusal_leaves
refusal_leaves_same unsound t c f g = refl
refusal_leaves_same no_such_object t c f g = refl
refusal_leaves_same never_given_out t c f g = refl
refusal_leaves_same no_longer_live t c f g = refl
refusal_leaves_same after_a_prepare t c f g = refl
refusal_leaves_same lost t c f g = absurd (f refl)
refusal_leaves_same wait t c f g = refl
refusal_leaves_same died t c f g = absurd (g refl)
refusal_leaves_same not_accessed t c f g = refl
refusal_leaves_same prepared_before t c f g = refl
refusal_leaves_same chain_full t c f g = refl
refusal_leaves_same unprepared t c f g = refl
refusal_leaves_same unsaved t c f g = refl
refusal_leaves_same dependency_live t c f g = refl
refusal_leaves_same log_full t c f g = refl
refusal_leaves_same places_full t c f g = refl
refusal_leaves_same numbers_spent t c f g = refl
refusal_leaves_same bad_frame t c f g = refl

-- lost leaves what abort of that transaction leaves
pub lost_leaves : (t : Tables) (c : Call) → refusal_leaves lost t c ≡ abort t c.who
unfolding refusal_leaves
lost_leaves t c = refl

-- and so does died
pub died_leaves : (t : Tables) (c : Call) → refusal_leaves died t c ≡ abort t c.who
unfolding refusal_leaves
died_leaves t c = refl
