-- Commit keeps the values true: it makes the transaction's entry of each written object the last logged one, just as
-- it adds the transaction's values to the replay.
-- Rests on the rules' Steps, on basics, sound_laws, Keeping, Accepted and Invariant. Assumes nothing.
use Rattle.std.specs.Prelude.{◌≡◌, Bool, ◌⊎◌, ℕ, ◌<◌}
use Rattle.std.proofs.Math.Path.{refl, ap, subst}
use Rattle.std.proofs.Common.{sym, ◌∙◌, inl, inr}
use Rattle.std.proofs.Math.Logic.{⊎_elim}
use mathlib.Core.List.{List, [], ◌∷◌, ◌++◌}
use Rattle.std.proofs.Math.Option.{Option, none, some}
use Rattle.std.proofs.Math.Dec.{T}
use Rattle.rules.specs.Tests.{last_or, keep}
use Rattle.rules.specs.Tables.{Txn, Entry, Object, Live, Tables, obj, object_count, object, is_logged, stable_entry}
use Rattle.rules.specs.Steps.{entry_logged, commit}
use Rattle.rules.specs.History.{or_else}
use Rattle.basics.specs.Logic.{same_test, passes_or_fails}
use Rattle.basics.specs.Ranges.{same_or_other}
use Rattle.basics.specs.Lists.{All, All-map, All-zip, All-append, Neighbours, Neighbours-tail, Neighbours-front, keep_true, keep_false, keep_none, fail_on}
use Rattle.sound_laws.specs.Means.{Other, Distinct, Accounted, LoggedFirst, Sound}
use Rattle.sound_laws.specs.Live.{same_txn}
use Rattle.sound_laws.specs.Logged.{logged_more, logged_new, logged_before}
use Rattle.sound_laws.specs.Chains.{writers, writers_append, Distinct-front}
use Rattle.sound_laws.specs.Commit.{MayCommit, other_of, was_live, sets_now, unlogged, commit_sound}
use Rattle.history.specs.Keeping.{keep_same}
use Rattle.history.specs.Accepted.{Heard, replayed, replayed_more}
use Rattle.history.specs.Invariant.{is_some, wrote, heard_of, Said, value_left, ObjectTrue, Truthful, carried}

-- a value that is there stands whatever the other, and one that is not leaves it
some_stands : (v w : ℕ) (r : Option ℕ) → T (is_some r) → or_else v r ≡ or_else w r
some_stands v w none t = absurd t
some_stands v w (some n) t = refl

none_leaves : (v : ℕ) (r : Option ℕ) → (T (is_some r) → ⊥) → or_else v r ≡ v
none_leaves v none f = refl
none_leaves v (some n) f = absurd (f tt)

-- ---- the last logged entry, with x's record added

module _ (rs : List Txn) (x : Txn) (new : T (is_logged rs x) → ⊥) where
  abbrev logged_now : Entry → Bool
  logged_now = entry_logged (rs ++ x ∷ [])

  -- none of the entries is x's
  abbrev NotOwn : List Entry → Type 0
  NotOwn es = All (λ e. Other e.writer x) es

  -- the last of the entries, or d, is x's, and P holds of it
  abbrev LastOwn : (Entry → Type 0) → Entry → List Entry → Type 0
  LastOwn P d es = ((last_or d es).writer ≡ x) × P (last_or d es)

  others : (es : List Entry) → All (Other x) (writers es) → NotOwn es
  others [] h = tt
  others (e ∷ es) h = (λ r. h.0 (sym r), others es h.1)

  -- of entries one of which is x's, the last logged one is x's
  last_own : (P : Entry → Type 0) (d : Entry) (es : List Entry) → All P es → Distinct (writers es)
      → Neighbours (LoggedFirst rs) es → (NotOwn es → ⊥) → LastOwn P d (keep logged_now es)
  unfolding last_or
  last_own P d [] h once first there = absurd (there tt)
  last_own P d (e ∷ es) h once first there =
      let tail = Neighbours-tail (LoggedFirst rs) e es first in
      ⊎_elim own
      (λ o. other (λ f. last_own P f es h.1 once.1 tail (λ n. there (o, n))) (passes_or_fails (logged_now e)))
      (same_or_other e.writer.num x.num)
    where
      own : e.writer.num ≡ x.num → LastOwn P d (keep logged_now (e ∷ es))
      own r =
          let w = same_txn e.writer x r in
          let unlogged_on =
          fail_on (entry_logged rs) e es first (λ g. new (subst (λ (y : Txn). T (is_logged rs y)) w g)) in
          let none_after : All (λ f. T (logged_now f) → ⊥) es =
          All-zip {P = λ f. Other f.writer x} {Q = λ f. T (entry_logged rs f) → ⊥}
          (λ f o n g. n (logged_before rs x f.writer o g)) es
          (others es (subst (λ (y : Txn). All (Other y) (writers es)) w once.0)) unlogged_on.1 in
          let kept : keep logged_now (e ∷ es) ≡ e ∷ [] =
          keep_true logged_now e es (subst (λ (y : Txn). T (is_logged (rs ++ x ∷ []) y)) (sym w) (logged_new rs x))
          ∙ ap (λ (l : List Entry). e ∷ l) (keep_none logged_now es none_after) in
          subst (LastOwn P d) (sym kept) (w, h.0)

      other : ((f : Entry) → LastOwn P f (keep logged_now es)) → T (logged_now e) ⊎ (T (logged_now e) → ⊥)
          → LastOwn P d (keep logged_now (e ∷ es))
      other rest (inl g) = subst (LastOwn P d) (sym (keep_true logged_now e es g)) (rest e)
      other rest (inr g) = subst (LastOwn P d) (sym (keep_false logged_now e es g)) (rest d)

-- ---- the step

-- an object that x wrote has an entry of it saved
abbrev pub Saved : Tables → Txn → Type 0
Saved t x =
    (i : ℕ) → i < object_count → T (wrote t.live x i) → All (λ e. Other e.writer x) (object t (obj i)).saved → ⊥

module _ (a : Heard) (t : Tables) (s : Sound t) (h : Truthful a t) (x : Txn) (may : MayCommit t x)
    (saved : Saved t x) where
  abbrev rs : List Txn
  rs = t.log ++ x ∷ []

  module _ (i : ℕ) (k : i < object_count) where
    abbrev b : Object
    b = object t (obj i)

    abbrev f : Txn → Option ℕ
    f = heard_of a i

    abbrev so_far : ℕ
    so_far = replayed f 0 t.log

    new : T (is_logged t.log x) → ⊥
    new = unlogged t s x may

    -- x wrote the object, or not, as the history says
    history_says : wrote t.live x i ≡ is_some (f x)
    history_says = h.written x may.live i k

    -- an entry of another is logged, or not, as before
    same_logged : (e : Entry) → Other e.writer x → entry_logged rs e ≡ entry_logged t.log e
    same_logged e d =
        same_test (entry_logged rs e) (entry_logged t.log e)
        (logged_before t.log x e.writer d)
        (logged_more t.log x e.writer)

    -- an object that x did not write has no entry of it
    entry_other : (T (wrote t.live x i) → ⊥) → (e : Entry) → Accounted t.live t.log i e → Other e.writer x
    entry_other n e (inl g) r = new (subst (λ (y : Txn). T (is_logged t.log y)) (same_txn e.writer x r) g)
    entry_other n e (inr w) r = n (subst (λ (y : Txn). T (wrote t.live y i)) (same_txn e.writer x r) w.1)

    -- what a restart would leave now: x's value where it wrote the object, else what it would have left before
    settled_now : T (wrote t.live x i) ⊎ (T (wrote t.live x i) → ⊥)
        → value_left rs b b.saved ≡ or_else so_far (f x)
    settled_now (inl w) =
        let ok = s.object_ok i k in
        let once = subst Distinct (writers_append b.saved b.queued) ok.once in
        let own =
        last_own t.log x new (Said f) (stable_entry b) b.saved
        ((All-append (Said f) b.saved b.queued).0 (h.objects i k).entries).0
        (Distinct-front (writers b.saved) (writers b.queued) once)
        (Neighbours-front (LoggedFirst t.log) b.saved b.queued ok.logged_first)
        (saved i k w) in
        own.1
        ∙ ap (λ (y : Txn). or_else 0 (f y)) own.0
        ∙ some_stands 0 so_far (f x) (subst T history_says w)
    settled_now (inr n) =
        let Told : Entry → Type 0 = Accounted t.live t.log i in
        let accounted = ((All-append Told b.saved b.queued).0 (s.object_ok i k).accounted).0 in
        let same = All-map (λ e c. same_logged e (entry_other n e c)) b.saved accounted in
        ap (λ (l : List Entry). (last_or (stable_entry b) l).value)
        (keep_same (entry_logged rs) (entry_logged t.log) b.saved same)
        ∙ (h.objects i k).settled
        ∙ sym (none_leaves so_far (f x) (λ u. n (subst T (sym history_says) u)))

    committed_true : ObjectTrue f t.live rs i b
    committed_true =
        let o = h.objects i k in
        record {
          own = o.own;
          found = o.found;
          stable = o.stable;
          entries = o.entries;
          settled = settled_now (passes_or_fails (wrote t.live x i)) ∙ sym (replayed_more f 0 t.log x);
        }

  -- a commit keeps the values true
  pub commit_true : Truthful a (commit t x)
  unfolding commit
  commit_true =
      carried a t (commit t x) h (commit_sound t s x may) refl
      (λ y u.
      let v = was_live t s x may y u in
      (v, ap (λ (l : Live). l.written) (sets_now t s x may y (other_of t s x may y u) v)))
      committed_true
