-- Every call on sound tables leaves sound tables, refusals included. (That fresh tables are sound is computed in the
-- rules' Runs.)
-- Rests on the rules, on basics, answers_laws, Means and the steps' files beside this one. Assumes nothing.
use Rattle.std.specs.Prelude.{◌≡◌, Bool, true, false, ◌&&◌, ◌||◌, List, [], ◌∷◌, ℕ, ◌^◌, ◌≤◌, ◌<◌, T, eqb, ltb, leb}
use Rattle.std.proofs.Common.{ap, sym, ◌∙◌, subst, inl, inr, ⊎_elim, arith}
use Rattle.std.proofs.Math.Bool.{not}
use Rattle.std.proofs.Math.ListN.{length}
use Rattle.rules.specs.Tests.{some_below, all}
use Rattle.rules.specs.Sets.{has}
use Rattle.rules.specs.Tables.{Txn, Obj, Entry, Live, Tables, obj, nobody, same, object_count, place_count, chain_room, log_room, last_number, object, place, is_free, is_live, sets_of, chain}
use Rattle.rules.specs.Sound.{sound}
use Rattle.rules.specs.Steps.{abort}
use Rattle.rules.specs.Answers.{Kind, is_start, is_read, is_write, is_prepare, is_save, is_commit, is_abort, is_settle, is_crash, is_restart, is_status, is_look, kind_number, wrote_one_of, Call, Refusal, unsound, no_such_object, never_given_out, no_longer_live, after_a_prepare, lost, wait, died, not_accessed, prepared_before, chain_full, unprepared, unsaved, dependency_live, log_full, places_full, numbers_spent, bad_frame, number_of, order, is_lost, is_out_of_range, fact, refusal_leaves, done_leaves, call}
use Rattle.rules.specs.Frames.{in_width}
use Rattle.basics.specs.Logic.{and_says, or_says, not_says, equal_says, at_most_says, below_says}
use Rattle.basics.specs.Ranges.{not_every, some_of, same_or_other}
use Rattle.basics.specs.Lists.{All, all_says, All-map}
use Rattle.basics.specs.Sets.{has_zero}
use Rattle.answers_laws.specs.Exactly.{IsFirst, one_number, Refused, Allowed, refused_or_done, refused_leaves, done_leaves_so}
use Rattle.sound_laws.specs.Means.{Other, Distinct, Sound, means, tests}
use Rattle.sound_laws.specs.Live.{same_txn}
use Rattle.sound_laws.specs.Chains.{writers, writers_append, Distinct-apart}
use Rattle.sound_laws.specs.Storage.{save_sound, settle_sound, crash_sound, restart_sound}
use Rattle.sound_laws.specs.Start.{start_sound}
use Rattle.sound_laws.specs.Access.{MayAccess, Holding, read_sound, write_sound}
use Rattle.sound_laws.specs.Prepare.{prepare_sound}
use Rattle.sound_laws.specs.Commit.{MayCommit, commit_sound}
use Rattle.sound_laws.specs.Abort.{abort_sound}

-- a test that does not fail passes
pub passed : (a : Bool) → (T (not a) → ⊥) → T a
passed true f = tt
passed false f = absurd (f tt)

failed : (a : Bool) → (T a → ⊥) → T (not a)
failed a f = (not_says a).1 f

-- ---- what comes before what in an order

abbrev is : Refusal → Refusal → Bool
is q r = eqb (number_of q) (number_of r)

-- q stands before r, or r is not there
abbrev pub precedes : Refusal → Refusal → List Refusal → Bool
precedes q r [] = true
precedes q r (p ∷ ps) = not (is p r) && (is p q || precedes q r ps)

-- the fact of what stands before the reason of a refusal does not hold
pub before_fails : (f : Refusal → Bool) (q r : Refusal) (ps : List Refusal) → IsFirst f ps r → T (precedes q r ps) → T (f q) → ⊥
before_fails f q r [] h t u = h
before_fails f q r (p ∷ ps) (inl h) t u =
    (not_says (is p r)).0 ((and_says (not (is p r)) (is p q || precedes q r ps)).0 t).0
    ((equal_says (number_of p) (number_of r)).1 (ap number_of h.0))
before_fails f q r (p ∷ ps) (inr h) t u =
    ⊎_elim
    (λ e. h.0 (subst (λ (z : Refusal). T (f z)) (sym (one_number p q ((equal_says (number_of p) (number_of q)).0 e))) u))
    (λ e. before_fails f q r ps h.1 e u)
    ((or_says (is p q) (precedes q r ps)).0 ((and_says (not (is p r)) (is p q || precedes q r ps)).0 t).1)

-- in every order, what undoes a transaction comes after what asks that it is live
pub live_before_lost : (k : Kind) → T (precedes no_longer_live lost (order k))
unfolding order number_of
live_before_lost is_start = tt
live_before_lost is_read = tt
live_before_lost is_write = tt
live_before_lost is_prepare = tt
live_before_lost is_save = tt
live_before_lost is_commit = tt
live_before_lost is_abort = tt
live_before_lost is_settle = tt
live_before_lost is_crash = tt
live_before_lost is_restart = tt
live_before_lost is_status = tt
live_before_lost is_look = tt

pub live_before_died : (k : Kind) → T (precedes no_longer_live died (order k))
unfolding order number_of
live_before_died is_start = tt
live_before_died is_read = tt
live_before_died is_write = tt
live_before_died is_prepare = tt
live_before_died is_save = tt
live_before_died is_commit = tt
live_before_died is_abort = tt
live_before_died is_settle = tt
live_before_died is_crash = tt
live_before_died is_restart = tt
live_before_died is_status = tt
live_before_died is_look = tt

module _ (t : Tables) (s : Sound t) where
  -- ---- refusals

  undo_sound : (c : Call) (r : Refusal) → Refused t c r → T (precedes no_longer_live r (order c.kind)) → Sound (abort t c.who)
  unfolding fact
  undo_sound c r h p =
      abort_sound t s c.who
      (passed (is_live t.live c.who) (before_fails (λ q. fact q t c) no_longer_live r (order c.kind) h p))

  refusal_sound : (c : Call) (r : Refusal) → Refused t c r → Sound (refusal_leaves r t c)
  unfolding refusal_leaves
  refusal_sound c unsound h = s
  refusal_sound c no_such_object h = s
  refusal_sound c never_given_out h = s
  refusal_sound c no_longer_live h = s
  refusal_sound c after_a_prepare h = s
  refusal_sound c lost h = undo_sound c lost h (live_before_lost c.kind)
  refusal_sound c wait h = s
  refusal_sound c died h = undo_sound c died h (live_before_died c.kind)
  refusal_sound c not_accessed h = s
  refusal_sound c prepared_before h = s
  refusal_sound c chain_full h = s
  refusal_sound c unprepared h = s
  refusal_sound c unsaved h = s
  refusal_sound c dependency_live h = s
  refusal_sound c log_full h = s
  refusal_sound c places_full h = s
  refusal_sound c numbers_spent h = s
  refusal_sound c bad_frame h = s

  -- ---- what a step needs, from the facts that do not hold

  module _ (x : Txn) (o : ℕ) where
    abbrev l : Live
    l = sets_of t.live x

    abbrev h : Txn
    h = (object t (obj o)).holder

    -- read and write
    pub may_access : (T (not (ltb o object_count)) → ⊥) → (T (not (is_live t.live x)) → ⊥) → (T (not (eqb l.prepared 0)) → ⊥)
        → (T (has l.accessed o && not (has l.prepared o) && not (same h x)) → ⊥)
        → (T (not (same h nobody) && not (same h x) && ltb x.num h.num) → ⊥)
        → (T (not (same h nobody) && not (same h x) && ltb h.num x.num) → ⊥)
        → MayAccess t x o
    may_access below live no_prepare not_lost no_wait no_death =
        record {
          below = k;
          live = passed (is_live t.live x) live;
          holds = λ a. same_txn h x ((equal_says h.num x.num).0 (passed (same h x) (λ d. not_lost (both a d))));
          unheld = λ a. ⊎_elim (λ z. z) (λ z. absurd (held a z)) (same_or_other h.num 0);
        }
      where
        k : o < object_count
        k = (below_says o object_count).0 (passed (ltb o object_count) below)

        none : l.prepared ≡ 0
        none = (equal_says l.prepared 0).0 (passed (eqb l.prepared 0) no_prepare)

        both : T (has l.accessed o) → T (not (same h x)) → T (has l.accessed o && not (has l.prepared o) && not (same h x))
        both a d =
            (and_says (has l.accessed o && not (has l.prepared o)) (not (same h x))).1
            ((and_says (has l.accessed o) (not (has l.prepared o))).1 (a, failed (has l.prepared o) (λ m. has_zero o (subst (λ (n : ℕ). T (has n o)) none m))), d)

        another : (h.num ≡ 0 → ⊥) → (h.num ≡ x.num → ⊥) → T (not (same h nobody) && not (same h x))
        another z d =
            (and_says (not (same h nobody)) (not (same h x))).1
            (failed (same h nobody) (λ e. z ((equal_says h.num 0).0 e)), failed (same h x) (λ e. d ((equal_says h.num x.num).0 e)))

        held : (T (has l.accessed o) → ⊥) → (h.num ≡ 0 → ⊥) → ⊥
        held a z =
            ⊎_elim
            (λ e. a (subst (λ (y : Txn). T (has (sets_of t.live y).accessed o)) (same_txn h x e) ((s.object_ok o k).holder_accessed z)))
            (λ d.
            let low : x.num < h.num → ⊥ = λ e. no_wait ((and_says (not (same h nobody) && not (same h x)) (ltb x.num h.num)).1 (another z d, (below_says x.num h.num).1 e)) in
            let high : h.num < x.num → ⊥ = λ e. no_death ((and_says (not (same h nobody) && not (same h x)) (ltb h.num x.num)).1 (another z d, (below_says h.num x.num).1 e)) in
            d (omega arith))
            (same_or_other h.num x.num)

    -- prepare
    pub may_prepare : (T (not (is_live t.live x)) → ⊥) → (T (not (has l.accessed o)) → ⊥) → (T (has l.prepared o) → ⊥)
        → (T (has l.accessed o && not (has l.prepared o) && not (same h x)) → ⊥) → Holding t x o
    may_prepare live accessed not_prepared not_lost =
        record {
          sound = s;
          live = passed (is_live t.live x) live;
          holds =
              same_txn h x ((equal_says h.num x.num).0 (passed (same h x) (λ d. not_lost
              ((and_says (has l.accessed o && not (has l.prepared o)) (not (same h x))).1
              ((and_says (has l.accessed o) (not (has l.prepared o))).1 (passed (has l.accessed o) accessed, failed (has l.prepared o) not_prepared), d)))));
        }

  -- commit
  module _ (x : Txn) where
    abbrev m : Live
    m = sets_of t.live x

    -- the transaction's entry is saved, so none of its entries is queued
    none_queued : (i : ℕ) → i < object_count → T (wrote_one_of x (object t (obj i)).saved) → All (λ e. Other e.writer x) (object t (obj i)).queued
    none_queued i k w =
        let b = object t (obj i) in
        let test : Entry → Bool = λ e. not (same e.writer x) in
        let apart = Distinct-apart (writers b.saved) (writers b.queued) (subst Distinct (writers_append b.saved b.queued) (s.object_ok i k).once) in
        All-map
        (λ e f r. (not_says (all test b.saved)).0 w
        ((all_says test b.saved).1
        (All-map (λ g d. failed (same g.writer x) (λ u. d ((equal_says g.writer.num x.num).0 u ∙ sym r))) b.saved f)))
        b.queued (unmap b.saved b.queued apart)
      where
        unmap_in : (es : List Entry) (y : Txn) → All (λ z. Other z y) (writers es) → All (λ g. Other g.writer y) es
        unmap_in [] y f = tt
        unmap_in (e ∷ es) y f = (f.0, unmap_in es y f.1)

        unmap : (es fs : List Entry) → All (λ y. All (λ z. Other z y) (writers es)) (writers fs) → All (λ e. All (λ g. Other g.writer e.writer) es) fs
        unmap es [] f = tt
        unmap es (e ∷ fs) f = (unmap_in es e.writer f.0, unmap es fs f.1)

    pub may_commit : (T (not (is_live t.live x)) → ⊥)
        → (T (some_below object_count (λ i. has m.accessed i && not (has m.prepared i))) → ⊥)
        → (T (some_below object_count (λ i. has m.written i && not (wrote_one_of x (object t (obj i)).saved))) → ⊥)
        → (T (not (eqb m.depends 0)) → ⊥) → (T (leb log_room (length t.log)) → ⊥) → MayCommit t x
    may_commit live all_prepared all_saved no_dependency log_room_left =
        record {
          live = passed (is_live t.live x) live;
          prepared = λ i k a. passed (has m.prepared i) (λ d. all_prepared
              (some_of object_count (λ j. has m.accessed j && not (has m.prepared j)) i k ((and_says (has m.accessed i) (not (has m.prepared i))).1 (a, d))));
          saved = λ i k a. none_queued i k (passed (wrote_one_of x (object t (obj i)).saved) (λ d. all_saved
              (some_of object_count (λ j. has m.written j && not (wrote_one_of x (object t (obj j)).saved)) i k
              ((and_says (has m.written i) (not (wrote_one_of x (object t (obj i)).saved))).1 (a, d)))));
          no_dependency = (equal_says m.depends 0).0 (passed (eqb m.depends 0) no_dependency);
          room = let f : log_room ≤ length t.log → ⊥ = λ k. log_room_left ((at_most_says log_room (length t.log)).1 k) in omega arith;
        }

  -- ---- the kinds, one by one

  pub below : (o : ℕ) → (T (not (ltb o object_count)) → ⊥) → o < object_count
  below o f = (below_says o object_count).0 (passed (ltb o object_count) f)

  done_sound : (k : Kind) (x : Txn) (o : Obj) (v : ℕ) → v < 2 ^ 64 → Allowed t (record { kind = k; who = x; what = o; value = v })
      → Sound (done_leaves k t (record { kind = k; who = x; what = o; value = v }))
  unfolding done_leaves order fact is_lost is_out_of_range kind_number
  done_sound is_start x o v fits f =
      let q = not_every place_count (λ p. not (is_free (place t.live p))) f.1.1.0 in
      start_sound t s q.0 q.1 (passed (is_free (place t.live q.0)) q.2)
      (let g : last_number < t.next.num → ⊥ = λ k. f.1.0 ((below_says last_number t.next.num).1 k) in omega arith)
  done_sound is_read x o v fits f =
      read_sound t s x o.num
      (may_access x o.num f.1.0 f.1.1.1.0 f.1.1.1.1.0 f.1.1.1.1.1.0 f.1.1.1.1.1.1.0 f.1.1.1.1.1.1.1.0)
  done_sound is_write x o v fits f =
      write_sound t s x o.num v
      (may_access x o.num f.1.0 f.1.1.1.0 f.1.1.1.1.0 f.1.1.1.1.1.0 f.1.1.1.1.1.1.0 f.1.1.1.1.1.1.1.0)
      fits
  done_sound is_prepare x o v fits f =
      let b = object t o in
      let l = sets_of t.live x in
      prepare_sound t x o.num (below o.num f.1.0)
      (may_prepare x o.num f.1.1.1.0 f.1.1.1.1.0 f.1.1.1.1.1.0 f.1.1.1.1.1.1.0)
      (λ w.
      let g : chain_room ≤ length (chain b) → ⊥ = λ k. f.1.1.1.1.1.1.1.0 ((and_says (leb chain_room (length (chain b))) (has l.written o.num)).1 ((at_most_says chain_room (length (chain b))).1 k, w)) in
      omega arith)
  done_sound is_save x o v fits f = save_sound t s o.num (below o.num f.1.0)
  done_sound is_commit x o v fits f =
      commit_sound t s x
      (may_commit x f.1.1.0 f.1.1.1.0 f.1.1.1.1.1.0 f.1.1.1.1.1.1.0 f.1.1.1.1.1.1.1.0)
  done_sound is_abort x o v fits f = abort_sound t s x (passed (is_live t.live x) f.1.1.0)
  done_sound is_settle x o v fits f = settle_sound t s o.num (below o.num f.1.0)
  done_sound is_crash x o v fits f = crash_sound t s v
  done_sound is_restart x o v fits f = restart_sound t s
  done_sound is_status x o v fits f = s
  done_sound is_look x o v fits f = s

-- every call on sound tables leaves sound tables, refusals included
pub kept : (t : Tables) (c : Call) → T (in_width c) → T (sound t) → T (sound (call t c).tables)
unfolding in_width
kept t c w u =
    ⊎_elim
    (λ r. tests (call t c).tables (subst Sound (sym (refused_leaves t c r.0 r.1)) (refusal_sound t s c r.0 r.1)))
    (λ f. tests (call t c).tables (subst Sound (sym (done_leaves_so t c f)) (done_sound t s c.kind c.who c.what c.value fits f)))
    (refused_or_done t c)
  where
    s : Sound t
    s = means t u

    fits : c.value < 2 ^ 64
    fits =
        (below_says c.value (2 ^ 64)).0
        ((and_says (ltb c.who.num (2 ^ 32) && ltb c.what.num (2 ^ 8)) (ltb c.value (2 ^ 64))).0 w).1
