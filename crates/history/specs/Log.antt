-- How the log changes: a commit that is done adds its transaction at the end, and nothing else changes the log.
-- Rests on the rules' History and on answers_laws. Assumes nothing.
use Rattle.std.specs.Prelude.{◌≡◌, Bool, cond, ◌&&◌, List, [], ◌∷◌, ◌++◌, ℕ, ◌-◌, get_or}
use Rattle.std.proofs.Math.Path.{refl}
use Rattle.std.proofs.Common.{ap, sym, ◌∙◌, ⊎_elim, append_assoc, append-nil}
use Rattle.std.proofs.Math.Bool.{true, false}
use Rattle.std.proofs.Math.Option.{Option, none, some}
use Rattle.std.proofs.Math.Dec.{T, eqb}
use Rattle.rules.specs.Sets.{has}
use Rattle.rules.specs.Tables.{Txn, Obj, Tables, sets_of}
use Rattle.rules.specs.Steps.{start, take_lock, access, read, set_working, write, prepare, save, commit, undo, abort, settle, crash, restart}
use Rattle.rules.specs.Answers.{Kind, is_start, is_read, is_write, is_prepare, is_save, is_commit, is_abort, is_settle, is_crash, is_restart, is_status, is_look, kind_number, same_kind, Call, Refusal, unsound, no_such_object, never_given_out, no_longer_live, after_a_prepare, lost, wait, died, not_accessed, prepared_before, chain_full, unprepared, unsaved, dependency_live, log_full, places_full, numbers_spent, bad_frame, refusal_leaves, done_leaves, call}
use Rattle.rules.specs.Frames.{kinds}
use Rattle.rules.specs.Session.{asked}
use Rattle.rules.specs.History.{Event, tables_after, history, is_done, who_asks, committed}
use Rattle.basics.specs.Logic.{and_says, equal_says, is_true, is_false}
use Rattle.answers_laws.specs.Exactly.{not_done, Refused, Allowed, refused_or_done, refused_exactly, refused_leaves, done_exactly, done_leaves_so}
use Rattle.growth.specs.Growth.{event}

-- ---- done or not

-- the kind of a number is the one that has it
kind_at : (k : Kind) → get_or kinds (kind_number k - 1) is_start ≡ k
unfolding kinds kind_number
kind_at is_start = refl
kind_at is_read = refl
kind_at is_write = refl
kind_at is_prepare = refl
kind_at is_save = refl
kind_at is_commit = refl
kind_at is_abort = refl
kind_at is_settle = refl
kind_at is_crash = refl
kind_at is_restart = refl
kind_at is_status = refl
kind_at is_look = refl

-- a kind is its number
same_kind_says : (j k : Kind) → T (same_kind j k) → j ≡ k
same_kind_says j k u =
    sym (kind_at j)
    ∙ ap (λ (n : ℕ). get_or kinds (n - 1) is_start) ((equal_says (kind_number j) (kind_number k)).0 u)
    ∙ kind_at k

module _ (t : Tables) (c : Call) where
  abbrev number : ℕ
  number = (call t c).answer.number

  -- a call that nothing refuses is done
  pub done_says : (k : Kind) → Allowed t c → is_done k (some c) (call t c).answer ≡ same_kind c.kind k
  unfolding is_done
  done_says k f = go (same_kind c.kind k) ((equal_says number 0).1 ((done_exactly t c).1 f))
    where
      go : (b : Bool) → T (eqb number 0) → (b && eqb number 0) ≡ b
      go true u = is_true (eqb number 0) u
      go false u = refl

  -- a call that is refused is not
  pub refused_says : (k : Kind) (r : Refusal) → Refused t c r → is_done k (some c) (call t c).answer ≡ false
  unfolding is_done
  refused_says k r f =
      is_false (same_kind c.kind k && eqb number 0)
      (λ u.
      let zero_number = (equal_says number 0).0 ((and_says (same_kind c.kind k) (eqb number 0)).0 u).1 in
      not_done r (sym ((refused_exactly t c r).1 f) ∙ zero_number))

  -- a call of a kind that is done is of that kind, and nothing refuses it
  pub was_done : (k : Kind) → T (is_done k (some c) (call t c).answer) → (c.kind ≡ k) × Allowed t c
  unfolding is_done
  was_done k d =
      let b = (and_says (same_kind c.kind k) (eqb number 0)).0 d in
      (same_kind_says c.kind k b.0, (done_exactly t c).0 ((equal_says number 0).0 b.1))

-- ---- the log of each step

access_log : (t : Tables) (x : Txn) (o : Obj) → (access t x o).log ≡ t.log
unfolding access take_lock
access_log t x o = go (has (sets_of t.live x).accessed o.num)
  where
    go : (b : Bool) → (cond b t (take_lock t x o)).log ≡ t.log
    go true = refl
    go false = refl

done_log : (k : Kind) (t : Tables) (c : Call)
    → (done_leaves k t c).log ≡ t.log ++ cond (same_kind k is_commit) (c.who ∷ []) []
unfolding done_leaves kind_number start read write set_working prepare save commit abort undo settle crash restart
done_log is_start t c = sym (append-nil t.log)
done_log is_read t c = access_log t c.who c.what ∙ sym (append-nil t.log)
done_log is_write t c = access_log t c.who c.what ∙ sym (append-nil t.log)
done_log is_prepare t c = sym (append-nil t.log)
done_log is_save t c = sym (append-nil t.log)
done_log is_commit t c = refl
done_log is_abort t c = sym (append-nil t.log)
done_log is_settle t c = sym (append-nil t.log)
done_log is_crash t c = sym (append-nil t.log)
done_log is_restart t c = sym (append-nil t.log)
done_log is_status t c = sym (append-nil t.log)
done_log is_look t c = sym (append-nil t.log)

refusal_log : (r : Refusal) (t : Tables) (c : Call) → (refusal_leaves r t c).log ≡ t.log
unfolding refusal_leaves abort undo
refusal_log unsound t c = refl
refusal_log no_such_object t c = refl
refusal_log never_given_out t c = refl
refusal_log no_longer_live t c = refl
refusal_log after_a_prepare t c = refl
refusal_log lost t c = refl
refusal_log wait t c = refl
refusal_log died t c = refl
refusal_log not_accessed t c = refl
refusal_log prepared_before t c = refl
refusal_log chain_full t c = refl
refusal_log unprepared t c = refl
refusal_log unsaved t c = refl
refusal_log dependency_live t c = refl
refusal_log log_full t c = refl
refusal_log places_full t c = refl
refusal_log numbers_spent t c = refl
refusal_log bad_frame t c = refl

-- ---- the log of whatever is asked

-- the log gets what the answer says was committed
asked_log : (t : Tables) (a : Option Call) → (asked t a).tables.log ≡ t.log ++ committed (event t a ∷ [])
unfolding asked committed is_done
asked_log t none = sym (append-nil t.log)
asked_log t (some c) = ⊎_elim (λ r. refused r.0 r.1) done (refused_or_done t c)
  where
    -- the log with c's transaction added, or not
    added : Bool → List Txn
    added b = t.log ++ cond b (c.who ∷ []) []

    refused : (r : Refusal) → Refused t c r
        → (call t c).tables.log ≡ added (is_done is_commit (some c) (call t c).answer)
    refused r f =
        ap (λ (u : Tables). u.log) (refused_leaves t c r f)
        ∙ refusal_log r t c
        ∙ sym (append-nil t.log)
        ∙ ap added (sym (refused_says t c is_commit r f))

    done : Allowed t c → (call t c).tables.log ≡ added (is_done is_commit (some c) (call t c).answer)
    done f =
        ap (λ (u : Tables). u.log) (done_leaves_so t c f)
        ∙ done_log c.kind t c
        ∙ ap added (sym (done_says t c is_commit f))

committed_first : (e : Event) (es : List Event) → committed (e ∷ []) ++ committed es ≡ committed (e ∷ es)
unfolding committed
committed_first e es = go (is_done is_commit e.asks e.answer)
  where
    go : (b : Bool)
        → cond b (who_asks e.asks ∷ []) [] ++ committed es ≡ cond b (who_asks e.asks ∷ committed es) (committed es)
    go true = refl
    go false = refl

-- the log after all that was asked is the log before it, and then what was committed
pub log_after : (t : Tables) (cs : List (Option Call)) → (tables_after t cs).log ≡ t.log ++ committed (history t cs)
unfolding tables_after history committed
log_after t [] = sym (append-nil t.log)
log_after t (a ∷ cs) =
    log_after (asked t a).tables cs
    ∙ ap (λ (l : List Txn). l ++ committed (history (asked t a).tables cs)) (asked_log t a)
    ∙ append_assoc t.log (committed (event t a ∷ [])) (committed (history (asked t a).tables cs))
    ∙ ap (λ (l : List Txn). t.log ++ l) (committed_first (event t a) (history (asked t a).tables cs))
