-- The ways in which whatever is asked changes sound tables, each with what let it through: nothing changes for the live
-- transactions and the log, or one of the steps that the rules name is done.
-- Rests on the rules, on answers_laws and sound_laws. Assumes nothing.
use Rattle.std.specs.Prelude.{◌≡◌, ℕ, ◌<◌, T, eqb}
use Rattle.std.proofs.Math.Path.{refl, subst}
use Rattle.std.proofs.Common.{sym}
use Rattle.std.proofs.Math.Bool.{not}
use Rattle.std.proofs.Math.Logic.{⊎_elim}
use Rattle.std.proofs.Math.Option.{Option, none, some}
use Rattle.rules.specs.Tests.{lowest}
use Rattle.rules.specs.Sets.{has}
use Rattle.rules.specs.Tables.{Txn, Obj, Tables, obj, place_count, place, is_free, is_live, sets_of}
use Rattle.rules.specs.Steps.{free_places, start, read, write, prepare, save, commit, abort, settle, crash, restart}
use Rattle.rules.specs.Answers.{Kind, is_start, is_read, is_write, is_prepare, is_save, is_commit, is_abort, is_settle, is_crash, is_restart, is_status, is_look, kind_number, Call, Refusal, unsound, no_such_object, never_given_out, no_longer_live, after_a_prepare, lost, wait, died, not_accessed, prepared_before, chain_full, unprepared, unsaved, dependency_live, log_full, places_full, numbers_spent, bad_frame, order, is_lost, is_out_of_range, fact, refusal_leaves, done_leaves}
use Rattle.rules.specs.Session.{asked}
use Rattle.basics.specs.Logic.{equal_says}
use Rattle.basics.specs.Ranges.{not_every}
use Rattle.answers_laws.specs.Exactly.{Refused, Allowed, refused_or_done, refused_leaves, done_leaves_so}
use Rattle.sound_laws.specs.Means.{Sound}
use Rattle.sound_laws.specs.Start.{lowest_free}
use Rattle.sound_laws.specs.Access.{MayAccess, Holding}
use Rattle.sound_laws.specs.Commit.{MayCommit}
use Rattle.sound_laws.specs.Kept.{passed, before_fails, live_before_lost, live_before_died, may_access, may_prepare, may_commit}

-- a transaction may access an object, and has prepared nothing
pub record Accessing (t : Tables) (x : Txn) (o : ℕ) : Type 0 where
  pub may : MayAccess t x o
  pub unprepared : (sets_of t.live x).prepared ≡ 0

-- the place that start takes
abbrev pub taken : Tables → ℕ
taken t = lowest place_count (has (free_places t))

-- the ways from tables t to others
pub data Change (t : Tables) : Tables → Type 0 where
  -- a refusal that undoes nobody, save, settle, crash, status or look
  quiet : (u : Tables) → u.next ≡ t.next → u.log ≡ t.log → u.live ≡ t.live → Change t u
  -- the place taken was free
  started : taken t < place_count → (place t.live (taken t)).number.num ≡ 0 → Change t (start t)
  has_read : (x : Txn) (o : ℕ) → Accessing t x o → Change t (read t x (obj o))
  has_written : (x : Txn) (o v : ℕ) → Accessing t x o → Change t (write t x (obj o) v)
  has_prepared : (x : Txn) (o : ℕ) → Holding t x o → Change t (prepare t x (obj o))
  committed : (x : Txn) → MayCommit t x → Change t (commit t x)
  -- asked for, or lost, or died
  aborted : (x : Txn) → T (is_live t.live x) → Change t (abort t x)
  restarted : Change t (restart t)

module _ (t : Tables) (s : Sound t) where
  unchanged : Change t t
  unchanged = quiet t refl refl refl

  refusal_changes : (c : Call) (r : Refusal) → Refused t c r → Change t (refusal_leaves r t c)
  unfolding refusal_leaves fact
  refusal_changes c unsound h = unchanged
  refusal_changes c no_such_object h = unchanged
  refusal_changes c never_given_out h = unchanged
  refusal_changes c no_longer_live h = unchanged
  refusal_changes c after_a_prepare h = unchanged
  refusal_changes c lost h =
      aborted c.who
      (passed (is_live t.live c.who)
      (before_fails (λ q. fact q t c) no_longer_live lost (order c.kind) h (live_before_lost c.kind)))
  refusal_changes c wait h = unchanged
  refusal_changes c died h =
      aborted c.who
      (passed (is_live t.live c.who)
      (before_fails (λ q. fact q t c) no_longer_live died (order c.kind) h (live_before_died c.kind)))
  refusal_changes c not_accessed h = unchanged
  refusal_changes c prepared_before h = unchanged
  refusal_changes c chain_full h = unchanged
  refusal_changes c unprepared h = unchanged
  refusal_changes c unsaved h = unchanged
  refusal_changes c dependency_live h = unchanged
  refusal_changes c log_full h = unchanged
  refusal_changes c places_full h = unchanged
  refusal_changes c numbers_spent h = unchanged
  refusal_changes c bad_frame h = unchanged

  none_prepared : (x : Txn) → (T (not (eqb (sets_of t.live x).prepared 0)) → ⊥) → (sets_of t.live x).prepared ≡ 0
  none_prepared x f = (equal_says (sets_of t.live x).prepared 0).0 (passed (eqb (sets_of t.live x).prepared 0) f)

  -- a read or write that is done
  pub read_accesses : (x : Txn) (o : Obj) (v : ℕ) → Allowed t (record { kind = is_read; who = x; what = o; value = v })
      → Accessing t x o.num
  unfolding order fact is_lost is_out_of_range kind_number
  read_accesses x o v f =
      record {
        may =
            may_access t s x o.num f.1.0 f.1.1.1.0 f.1.1.1.1.0 f.1.1.1.1.1.0
            f.1.1.1.1.1.1.0 f.1.1.1.1.1.1.1.0;
        unprepared = none_prepared x f.1.1.1.1.0;
      }

  pub write_accesses : (x : Txn) (o : Obj) (v : ℕ) → Allowed t (record { kind = is_write; who = x; what = o; value = v })
      → Accessing t x o.num
  unfolding order fact is_lost is_out_of_range kind_number
  write_accesses x o v f = read_accesses x o v f

  done_changes : (k : Kind) (x : Txn) (o : Obj) (v : ℕ) → Allowed t (record { kind = k; who = x; what = o; value = v })
      → Change t (done_leaves k t (record { kind = k; who = x; what = o; value = v }))
  unfolding done_leaves order fact is_lost is_out_of_range kind_number save settle crash
  done_changes is_start x o v f =
      let q = not_every place_count (λ p. not (is_free (place t.live p))) f.1.1.0 in
      let l = lowest_free t q.0 q.1 (passed (is_free (place t.live q.0)) q.2) in
      started l.0 l.1
  done_changes is_read x o v f = has_read x o.num (read_accesses x o v f)
  done_changes is_write x o v f = has_written x o.num v (write_accesses x o v f)
  done_changes is_prepare x o v f =
      has_prepared x o.num
      (may_prepare t s x o.num f.1.1.1.0 f.1.1.1.1.0 f.1.1.1.1.1.0 f.1.1.1.1.1.1.0)
  done_changes is_save x o v f = quiet (save t o) refl refl refl
  done_changes is_commit x o v f =
      committed x
      (may_commit t s x f.1.1.0 f.1.1.1.0 f.1.1.1.1.1.0 f.1.1.1.1.1.1.0
      f.1.1.1.1.1.1.1.0)
  done_changes is_abort x o v f = aborted x (passed (is_live t.live x) f.1.1.0)
  done_changes is_settle x o v f = quiet (settle t o) refl refl refl
  done_changes is_crash x o v f = quiet (crash t v) refl refl refl
  done_changes is_restart x o v f = restarted
  done_changes is_status x o v f = unchanged
  done_changes is_look x o v f = unchanged

  -- whatever is asked changes the tables in one of these ways
  pub change : (a : Option Call) → Change t (asked t a).tables
  unfolding asked
  change none = unchanged
  change (some c) =
      ⊎_elim
      (λ r. subst (Change t) (sym (refused_leaves t c r.0 r.1)) (refusal_changes c r.0 r.1))
      (λ f. subst (Change t) (sym (done_leaves_so t c f)) (done_changes c.kind c.who c.what c.value f))
      (refused_or_done t c)
