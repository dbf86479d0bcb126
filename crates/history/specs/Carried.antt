-- Whatever is asked carries the invariant on, so it holds of all grown tables with what their history says.
-- Rests on the rules' Answers and History, on basics, answers_laws, sound_laws and growth, and on the files beside
-- this one. Assumes nothing.
use Rattle.std.specs.Prelude.{◌≡◌, refl, Bool, true, false, cond, ◌&&◌, leb}
use Rattle.std.proofs.Common.{sym, subst, subst₂, ⊎_elim, arith}
use Rattle.std.proofs.Math.Bool.{not}
use mathlib.Core.List.{List, [], ◌∷◌, ◌++◌}
use Rattle.std.proofs.Math.Option.{Option, none, some}
use Prim.Native.Nat.{ℕ, suc, ◌≤◌, ◌<◌}
use Rattle.std.proofs.Math.Dec.{T}
use Rattle.std.proofs.Math.ListN.{length}
use Rattle.rules.specs.Tests.{all}
use Rattle.rules.specs.Tables.{Txn, Obj, Entry, Tables, obj, same, object_count, place_count, chain_room, last_number, object, place, is_free, is_live, chain}
use Rattle.rules.specs.Sound.{sound}
use Rattle.rules.specs.Steps.{read, abort}
use Rattle.rules.specs.Answers.{Kind, is_start, is_read, is_write, is_prepare, is_save, is_commit, is_abort, is_settle, is_crash, is_restart, is_status, is_look, kind_number, same_kind, wrote_one_of, Call, Answer, Refusal, unsound, no_such_object, never_given_out, no_longer_live, after_a_prepare, lost, wait, died, not_accessed, prepared_before, chain_full, unprepared, unsaved, dependency_live, log_full, places_full, numbers_spent, bad_frame, order, is_lost, is_out_of_range, fact, refusal_leaves, done_leaves, call}
use Rattle.rules.specs.Session.{asked}
use Rattle.rules.specs.History.{Event, may_ask, is_done, last_accepted}
use Rattle.rules.specs.Truth.{Asks, grown, told}
use Rattle.basics.specs.Logic.{and_says, not_says, equal_says, at_most_says, below_says}
use Rattle.basics.specs.Ranges.{not_every, some_of}
use Rattle.basics.specs.Lists.{All, all_says, All-map}
use Rattle.answers_laws.specs.Exactly.{Refused, Allowed, refused_or_done, refused_leaves, done_leaves_so}
use Rattle.sound_laws.specs.Means.{Other, Sound, means}
use Rattle.sound_laws.specs.Access.{MayAccess}
use Rattle.sound_laws.specs.Kept.{passed, precedes, before_fails, live_before_lost, live_before_died, may_access, may_prepare, may_commit, below}
use Rattle.growth.specs.Growth.{event, grown_so}
use Rattle.history.specs.Log.{done_says, refused_says}
use Rattle.history.specs.Accepted.{Heard, and_accepts, told_nothing, told_write}
use Rattle.history.specs.Invariant.{wrote, Truthful, fresh_truthful}
use Rattle.history.specs.Stored.{save_true, settle_true, crash_true, restart_true}
use Rattle.history.specs.Accessed.{access_true, write_true, prepare_true}
use Rattle.history.specs.Started.{start_true}
use Rattle.history.specs.Committed.{Saved, commit_true}
use Rattle.history.specs.Undone.{abort_true}

-- ---- refusals

module _ (a : Heard) (t : Tables) (s : Sound t) (h : Truthful a t) where
  -- what undoes a transaction found it live
  aborts_true : (c : Call) (r : Refusal) → Refused t c r → T (precedes no_longer_live r (order c.kind))
      → Truthful a (abort t c.who)
  unfolding fact
  aborts_true c r f p =
      let live = before_fails (λ q. fact q t c) no_longer_live r (order c.kind) f p in
      abort_true a t s h c.who (passed (is_live t.live c.who) live)

  refusal_true : (c : Call) (r : Refusal) → Refused t c r → Truthful a (refusal_leaves r t c)
  unfolding refusal_leaves
  refusal_true c unsound f = h
  refusal_true c no_such_object f = h
  refusal_true c never_given_out f = h
  refusal_true c no_longer_live f = h
  refusal_true c after_a_prepare f = h
  refusal_true c lost f = aborts_true c lost f (live_before_lost c.kind)
  refusal_true c wait f = h
  refusal_true c died f = aborts_true c died f (live_before_died c.kind)
  refusal_true c not_accessed f = h
  refusal_true c prepared_before f = h
  refusal_true c chain_full f = h
  refusal_true c unprepared f = h
  refusal_true c unsaved f = h
  refusal_true c dependency_live f = h
  refusal_true c log_full f = h
  refusal_true c places_full f = h
  refusal_true c numbers_spent f = h
  refusal_true c bad_frame f = h

-- ---- what a call that nothing refuses may do

abbrev call_of : Kind → Txn → Obj → ℕ → Call
call_of k x o v = record { kind = k; who = x; what = o; value = v }

module _ (t : Tables) (s : Sound t) (x : Txn) (o : Obj) (v : ℕ) where
  -- a read may access its object
  pub read_access : Allowed t (record { kind = is_read; who = x; what = o; value = v }) → MayAccess t x o.num
  unfolding order fact is_lost is_out_of_range kind_number
  read_access f =
      let g = f.1.1.1 in
      may_access t s x o.num f.1.0 g.0 g.1.0 g.1.1.0 g.1.1.1.0 g.1.1.1.1.0

  -- and so may a write
  write_access : Allowed t (call_of is_write x o v) → MayAccess t x o.num
  unfolding order fact is_lost is_out_of_range kind_number
  write_access f = read_access f

  -- a prepare of a written object has room in the chain
  chain_left : Allowed t (call_of is_prepare x o v) → T (wrote t.live x o.num)
      → suc (length (chain (object t o))) ≤ chain_room
  unfolding order fact
  chain_left f w = room (λ k. f.1.1.1.1.1.1.1.0 ((and_says full (wrote t.live x o.num)).1 (k, w)))
    where
      entries : ℕ
      entries = length (chain (object t o))

      full : Bool
      full = leb chain_room entries

      room : (T full → ⊥) → suc entries ≤ chain_room
      room g = let n : chain_room ≤ entries → ⊥ = λ k. g ((at_most_says chain_room entries).1 k) in omega arith

  -- a commit has an entry of each written object saved
  all_saved : Allowed t (call_of is_commit x o v) → Saved t x
  unfolding order fact
  all_saved f i k w others =
      let saved = (object t (obj i)).saved in
      let unsaved_one : T (not (wrote_one_of x saved)) = (not_says (wrote_one_of x saved)).1 (none saved others) in
      f.1.1.1.1.1.0
      (some_of object_count (λ j. wrote t.live x j && not (wrote_one_of x (object t (obj j)).saved)) i k
      ((and_says (wrote t.live x i) (not (wrote_one_of x saved))).1 (w, unsaved_one)))
    where
      none : (es : List Entry) → All (λ e. Other e.writer x) es → T (wrote_one_of x es) → ⊥
      none es d u =
          (not_says (all (λ e. not (same e.writer x)) es)).0 u
          ((all_says (λ e. not (same e.writer x)) es).1
          (All-map (λ e n. (not_says (same e.writer x)).1 (λ r. n ((equal_says e.writer.num x.num).0 r))) es d))

-- ---- calls that are done

module _ (a : Heard) (t : Tables) (s : Sound t) (h : Truthful a t) where
  -- what the transactions wrote once the call is done
  abbrev heard_after : Kind → Txn → Obj → ℕ → Heard
  heard_after k x o v = cond (same_kind k is_write) (and_accepts a x o v) a

  done_true : (k : Kind) (x : Txn) (o : Obj) (v : ℕ) → Allowed t (call_of k x o v)
      → Truthful (heard_after k x o v) (done_leaves k t (call_of k x o v))
  unfolding done_leaves order fact is_lost is_out_of_range kind_number read
  done_true is_start x o v f =
      let q = not_every place_count (λ p. not (is_free (place t.live p))) f.1.1.0 in
      let g : last_number < t.next.num → ⊥ = λ k. f.1.0 ((below_says last_number t.next.num).1 k) in
      start_true a t s h q.0 q.1 (passed (is_free (place t.live q.0)) q.2) (omega arith)
  done_true is_read x o v f = access_true a t s h x o.num (read_access t s x o v f)
  done_true is_write x o v f = write_true a t s h x o.num v (write_access t s x o v f)
  done_true is_prepare x o v f =
      let g = f.1.1.1 in
      prepare_true a t h x o.num (below t s o.num f.1.0)
      (may_prepare t s x o.num g.0 g.1.0 g.1.1.0 g.1.1.1.0)
      (chain_left t s x o v f)
  done_true is_save x o v f = save_true a t s h o.num (below t s o.num f.1.0)
  done_true is_commit x o v f =
      let g = f.1.1 in
      commit_true a t s h x
      (may_commit t s x g.0 g.1.0 g.1.1.1.0 g.1.1.1.1.0 g.1.1.1.1.1.0)
      (all_saved t s x o v f)
  done_true is_abort x o v f = abort_true a t s h x (passed (is_live t.live x) f.1.1.0)
  done_true is_settle x o v f = settle_true a t s h o.num (below t s o.num f.1.0)
  done_true is_crash x o v f = crash_true a t s h v
  done_true is_restart x o v f = restart_true a t s h
  done_true is_status x o v f = h
  done_true is_look x o v f = h

-- ---- whatever is asked

-- what a call tells, whether it is a write that is done or not
told_call : (h : List Event) (c : Call) (r : Answer) (b : Bool) → is_done is_write (some c) r ≡ b
    → cond b (and_accepts (last_accepted h) c.who c.what c.value) (last_accepted h)
    ≡ last_accepted (h ++ record { asks = some c; answer = r } ∷ [])
told_call h c r true e = told_write h c r e
told_call h c r false e = told_nothing h (record { asks = some c; answer = r }) e

asked_true : (t : Tables) (h : List Event) (q : Option Call) → T (sound t) → T (may_ask q)
    → Truthful (last_accepted h) t → Truthful (last_accepted (h ++ event t q ∷ [])) (asked t q).tables
unfolding asked is_done
asked_true t h none s m p = subst (λ (a : Heard). Truthful a t) (told_nothing h (event t none) refl) p
asked_true t h (some c) s m p = ⊎_elim (λ r. refused r.0 r.1) done (refused_or_done t c)
  where
    a : Heard
    a = last_accepted h

    refused : (r : Refusal) → Refused t c r → Truthful (last_accepted (h ++ event t (some c) ∷ [])) (call t c).tables
    refused r f =
        subst₂ Truthful (told_call h c (call t c).answer false (refused_says t c is_write r f))
        (sym (refused_leaves t c r f))
        (refusal_true a t (means t s) p c r f)

    done : Allowed t c → Truthful (last_accepted (h ++ event t (some c) ∷ [])) (call t c).tables
    done f =
        subst₂ Truthful (told_call h c (call t c).answer (same_kind c.kind is_write) (done_says t c is_write f))
        (sym (done_leaves_so t c f))
        (done_true a t (means t s) p c.kind c.who c.what c.value f)

-- grown tables hold the values that their history says were written
pub grown_truthful : (cs : List (Option Call)) → Asks cs → Truthful (last_accepted (told cs)) (grown cs)
grown_truthful = grown_so (λ t h. Truthful (last_accepted h) t) asked_true fresh_truthful
