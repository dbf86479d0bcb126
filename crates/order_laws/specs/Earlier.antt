-- Of two transactions, x came after y: as long as x lives it depends on y or y is logged, and once x is logged, y is
-- logged before it. Every change keeps this, and a transaction that holds an object came after its latest writer.
-- Rests on the rules' Steps, on basics, falls_laws, sound_laws and Changes. Assumes nothing.
use Rattle.std.specs.Prelude.{◌≡◌, Bool, cond, ◌⊎◌, ℕ, ◌≤◌, ◌<◌, length, set}
use Rattle.std.proofs.Math.Path.{refl}
use Rattle.std.proofs.Common.{ap, sym, ◌∙◌, subst, le_refl, arith, get_or-set_same}
use Rattle.std.proofs.Math.Bool.{true, false}
use Rattle.std.proofs.Math.Logic.{inl, inr, ⊎_elim}
use mathlib.Core.List.{List, [], ◌∷◌, ◌++◌}
use Rattle.std.proofs.Math.Dec.{T}
use Rattle.rules.specs.Sets.{has}
use Rattle.rules.specs.Tables.{Txn, Lsn, Obj, Entry, Object, Live, Tables, obj, nobody, object_count, place_count, fresh_object, object, place, place_of, is_live, sets_of, log_number, is_logged, chain, stable_entry, latest}
use Rattle.rules.specs.Sound.{depends_on}
use Rattle.rules.specs.Falls.{fallen, falls}
use Rattle.rules.specs.Steps.{held_by, start, take_lock, access, read, set_working, write, prepare, commit, undo, abort, restart}
use Rattle.rules.specs.History.{found}
use Rattle.basics.specs.Ranges.{same_or_other}
use Rattle.basics.specs.Lists.{All-last, All-map}
use Rattle.basics.specs.Sets.{has_zero}
use Rattle.falls_laws.specs.Falls.{falls_along}
use Rattle.sound_laws.specs.Means.{Held, Sound}
use Rattle.sound_laws.specs.Live.{same_txn, live_at}
use Rattle.sound_laws.specs.Logged.{logged_more, logged_new, number_stays, number_next, number_at_most}
use Rattle.sound_laws.specs.Known.{live_given, logged_not_live, stable_writer}
use Rattle.sound_laws.specs.Places.{set_place_of, set_live, set_grows}
use Rattle.sound_laws.specs.Storage.{no_one_live}
use Rattle.sound_laws.specs.Start
use Rattle.sound_laws.specs.Access.{MayAccess, Holding, and_depends_says, accessing}
use Rattle.sound_laws.specs.Commit
use Rattle.sound_laws.specs.Commit.{MayCommit}
use Rattle.sound_laws.specs.Abort
use Rattle.sound_laws.specs.Abort.{Closed}
use Rattle.order_laws.specs.Changes.{taken, Change, quiet, started, has_read, has_written, has_prepared, committed, aborted, restarted}

-- y is live, and x depends on it
abbrev pub Awaits : List Live → Txn → Txn → Type 0
Awaits ls x y = T (is_live ls y) × T (depends_on ls x y)

-- y is logged under a lower number than x
abbrev pub LoggedBefore : List Txn → Txn → Txn → Type 0
LoggedBefore rs y x = T (is_logged rs y) × ((log_number rs y).num < (log_number rs x).num)

-- x came after y
pub record After (t : Tables) (x y : Txn) : Type 0 where
  -- x's number is never given out again: one that fell stays neither live nor logged
  pub known : x.num < t.next.num
  -- a dependency goes only by y's commit, or by a fall of y that takes x with it
  pub while_live : T (is_live t.live x) → T (is_logged t.log y) ⊎ Awaits t.live x y
  -- x commits without dependencies, so with y logged, and takes the log's next number
  pub once_logged : T (is_logged t.log x) → LoggedBefore t.log y x

module _ (t : Tables) (x y : Txn) (a : After t x y) where
  -- a change that leaves the log, and to x its dependency where x still lives
  same_log : (u : Tables) → u.log ≡ t.log → t.next.num ≤ u.next.num
      → (T (is_live u.live x) → T (is_live t.live x))
      → (T (is_live u.live x) → Awaits t.live x y → Awaits u.live x y)
      → After u x y
  same_log u e n back on =
      record {
        known = omega (arith, a.known);
        while_live = λ l.
            subst (λ (rs : List Txn). T (is_logged rs y) ⊎ Awaits u.live x y) (sym e)
            (⊎_elim inl (λ w. inr (on l w)) (a.while_live (back l)));
        once_logged = subst (λ (rs : List Txn). T (is_logged rs x) → LoggedBefore rs y x) (sym e) a.once_logged;
      }

  -- one place set anew, its number kept and its dependencies at least what they were
  placed : Sound t → (p : ℕ) (l : Live) (bs : List Object) → p < place_count → l.number ≡ (place t.live p).number
      → ((q : ℕ) → q < place_count → T (has (place t.live p).depends q) → T (has l.depends q))
      → After (record { next = t.next; log = t.log; live = set t.live p l; objects = bs }) x y
  placed s p l bs k number more =
      same_log (record { next = t.next; log = t.log; live = set t.live p l; objects = bs }) refl
      (le_refl t.next.num)
      (subst T (set_live t.live p l fits number x))
      (λ u w. (subst T (sym (set_live t.live p l fits number y)) w.0, still w.0 w.1))
    where
      fits : p < length t.live
      fits = subst (λ (n : ℕ). p < n) (sym s.places_count) k

      still : T (is_live t.live y) → T (depends_on t.live x y) → T (depends_on (set t.live p l) x y)
      still v m =
          let q = place_of t.live y in
          let same = set_place_of t.live p l fits number y in
          subst (λ (r : ℕ). T (has (sets_of (set t.live p l) x).depends r)) (sym same)
          (set_grows t.live p l fits number (λ n. n.depends) q (more q (live_at t.live y v).below) x m)

  -- nobody of an old number comes or goes
  after_start : Sound t → taken t < place_count → (place t.live (taken t)).number.num ≡ 0 → After (start t) x y
  unfolding start
  after_start s k free =
      let seen = Start.seen_alike t s (taken t) k free 0 in
      let back = Start.was_live t s (taken t) k free x a.known in
      same_log (start t) refl (omega arith) back
      (λ u w.
      let known = (live_given t s y w.0).1 in
      (seen.live y known w.0, seen.depends x y a.known known (back u) w.0 w.1))

  -- the lock brings at most a dependency more
  after_access : Sound t → (z : Txn) (o : ℕ) → T (is_live t.live z) → After (access t z (obj o)) x y
  unfolding access take_lock
  after_access s z o live = go (has (sets_of t.live z).accessed o)
    where
      go : (b : Bool) → After (cond b t (take_lock t z (obj o))) x y
      go true = a
      go false =
          let p = place_of t.live z in
          placed s p _ _ (live_at t.live z live).below refl
          (λ q k m. (and_depends_says t.live (place t.live p) (latest (object t (obj o))).writer q k).1 (inl m))

  after_set_working : Sound t → (z : Txn) (o v : ℕ) → T (is_live t.live z) → After (set_working t z (obj o) v) x y
  unfolding set_working
  after_set_working s z o v live = placed s (place_of t.live z) _ _ (live_at t.live z live).below refl (λ q k m. m)

  after_prepare : Sound t → (z : Txn) (o : ℕ) → T (is_live t.live z) → After (prepare t z (obj o)) x y
  unfolding prepare
  after_prepare s z o live = placed s (place_of t.live z) _ _ (live_at t.live z live).below refl (λ q k m. m)

  -- whoever depends on one that falls, falls
  after_undo : Sound t → (f : ℕ) → Closed t.live f → After (undo t f) x y
  unfolding undo
  after_undo s f closed =
      let seen = Abort.seen_alike t s f closed 0 in
      let back = Abort.was_live t s f closed x in
      same_log (undo t f) refl (le_refl t.next.num) back
      (λ u w.
      let kept = Abort.gone t s f closed x u in
      let kept_too : T (falls t.live f y) → ⊥ = λ v. kept (Abort.falls_with t s f closed x y (back u) w.1 v) in
      (seen.live y kept_too w.0, seen.depends x y kept kept_too (back u) w.0 w.1))

  -- nobody is live
  after_restart : After (restart t) x y
  unfolding restart
  after_restart =
      same_log (restart t) refl (le_refl t.next.num) (λ u. absurd (no_one_live x u)) (λ u. absurd (no_one_live x u))

  -- the one that commits depends on nobody, so whoever it came after is logged
  after_commit : Sound t → (z : Txn) → MayCommit t z → After (commit t z) x y
  unfolding commit
  after_commit s z may =
      record {
        known = a.known;
        while_live = λ u. ⊎_elim (λ g. inl (logged_more t.log z y g)) (awaits u) (a.while_live (was u));
        once_logged = λ g.
            ⊎_elim (λ h. before h (a.once_logged h)) (λ e. itself e (done e)) (Commit.logged_or_x t s z may x g);
      }
    where
      rs : List Txn
      rs = t.log ++ z ∷ []

      was : T (is_live (commit t z).live x) → T (is_live t.live x)
      was = Commit.was_live t s z may x

      -- x lives on and depends on y, which may be the one that commits
      awaits : T (is_live (commit t z).live x) → Awaits t.live x y
          → T (is_logged rs y) ⊎ Awaits (commit t z).live x y
      awaits u w =
          let other = Commit.other_of t s z may x u in
          ⊎_elim
          (λ e. inl (subst (λ (v : Txn). T (is_logged rs v)) (sym (same_txn y z e)) (logged_new t.log z)))
          (λ d. inr
          (Commit.still_live t s z may y d w.0, Commit.depends_now t s z may x y other d (was u) w.0 w.1))
          (same_or_other y.num z.num)

      -- x was logged already
      before : T (is_logged t.log x) → LoggedBefore t.log y x → LoggedBefore rs y x
      before h w =
          let e = ap (λ (n : Lsn). n.num) (number_stays t.log z x h) in
          let f = ap (λ (n : Lsn). n.num) (number_stays t.log z y w.0) in
          let l = w.1 in
          (logged_more t.log z y w.0, omega arith)

      -- x is the one that commits
      done : x ≡ z → T (is_logged t.log y)
      done e =
          let q = place_of t.live y in
          let none : T (depends_on t.live x y) → ⊥ =
          λ m. has_zero q
          (subst (λ (d : ℕ). T (has d q)) may.no_dependency (subst (λ (v : Txn). T (depends_on t.live v y)) e m)) in
          ⊎_elim
          (λ g. g)
          (λ w. absurd (none w.1))
          (a.while_live (subst (λ (v : Txn). T (is_live t.live v)) (sym e) may.live))

      itself : x ≡ z → T (is_logged t.log y) → LoggedBefore rs y x
      itself e g =
          let f = ap (λ (n : Lsn). n.num) (number_stays t.log z y g) in
          let h = number_next t.log z (Commit.unlogged t s z may) in
          let l = number_at_most t.log y g in
          let r = ap (λ (v : Txn). (log_number rs v).num) e in
          (logged_more t.log z y g, omega arith)

-- every change keeps it
pub after_change : (t : Tables) (x y : Txn) → After t x y → Sound t → (u : Tables) → Change t u → After u x y
unfolding read write abort
after_change t x y a s u (quiet _ n g l) =
    same_log t x y a u g (omega (arith, ap (λ (z : Txn). z.num) n))
    (subst (λ (ls : List Live). T (is_live ls x)) l)
    (λ v w. subst (λ (ls : List Live). Awaits ls x y) (sym l) w)
after_change t x y a s u (started k free) = after_start t x y a s k free
after_change t x y a s u (has_read z o m) = after_access t x y a s z o m.may.live
after_change t x y a s u (has_written z o v m) =
    let h = accessing t s z o m.may in
    after_set_working (access t z (obj o)) x y (after_access t x y a s z o m.may.live) h.sound z o v h.live
after_change t x y a s u (has_prepared z o h) = after_prepare t x y a s z o h.live
after_change t x y a s u (committed z may) = after_commit t x y a s z may
after_change t x y a s u (aborted z live) =
    let p = place_of t.live z in
    after_undo t x y a s (fallen t.live p) (falls_along t.live p (live_at t.live z live).below)
after_change t x y a s u restarted = after_restart t x y a

-- ---- an access

-- a latest version's writer is nobody, logged or live
latest_writer : (t : Tables) → Sound t → (o : ℕ) → o < object_count
    → let y = (latest (object t (obj o))).writer in (y.num ≡ 0) ⊎ (T (is_logged t.log y) ⊎ T (is_live t.live y))
unfolding latest
latest_writer t s o k =
    let b = object t (obj o) in
    let known : Txn → Type 0 = λ y. (y.num ≡ 0) ⊎ (T (is_logged t.log y) ⊎ T (is_live t.live y)) in
    All-last (λ (e : Entry). known e.writer) (stable_entry b) (chain b)
    (⊎_elim inl (λ g. inr (inl g)) (stable_writer t s o k))
    (All-map (λ e. ⊎_elim (λ g. inr (inl g)) (λ w. inr (inr w.0))) (chain b) (s.object_ok o k).accounted)

-- whoever holds an object came after its latest writer
holder_after : (t : Tables) (x : Txn) (o : ℕ) → o < object_count → Holding t x o
    → let y = (latest (object t (obj o))).writer in (y.num ≡ 0) ⊎ After t x y
holder_after t x o k h = ⊎_elim inl (λ w. inr (after w)) (latest_writer t h.sound o k)
  where
    y : Txn
    y = (latest (object t (obj o))).writer

    held : Held (object t (obj o))
    held z = (live_at t.live x h.live).somebody (ap (λ (v : Txn). v.num) (sym h.holds) ∙ z)

    depends : T (is_live t.live y) → T (depends_on t.live x y)
    depends l =
        subst (λ (v : Txn). T (depends_on t.live v y)) h.holds ((h.sound.object_ok o k).holder_depends held l)

    after : T (is_logged t.log y) ⊎ T (is_live t.live y) → After t x y
    after w =
        record {
          known = (live_given t h.sound x h.live).1;
          while_live = λ u. ⊎_elim inl (λ l. inr (l, depends l)) w;
          once_logged = λ g. absurd (logged_not_live t h.sound x g h.live);
        }

-- taking the lock leaves the chain as it was
same_latest : (t : Tables) → Sound t → (x : Txn) (o : ℕ) → o < object_count
    → (latest (object (access t x (obj o)) (obj o))).writer ≡ (latest (object t (obj o))).writer
unfolding access take_lock latest
same_latest t s x o k = go (has (sets_of t.live x).accessed o)
  where
    go : (b : Bool)
        → (latest (object (cond b t (take_lock t x (obj o))) (obj o))).writer ≡ (latest (object t (obj o))).writer
    go true = refl
    go false =
        ap (λ (b : Object). (latest b).writer)
        (get_or-set_same t.objects o (held_by (object t (obj o)) x (latest (object t (obj o))).value) fresh_object
        (subst (λ (n : ℕ). o < n) (sym s.objects_count) k))

-- the version that x finds at object o in tables t is its own, nobody's, or one whose writer x came after, in tables u
abbrev pub FoundAfter : Tables → Tables → Txn → Obj → Type 0
FoundAfter t u x o = let y = found t x o in (y ≡ x) ⊎ ((y ≡ nobody) ⊎ After u x y)

module _ (t : Tables) (s : Sound t) (x : Txn) (o : ℕ) (may : MayAccess t x o) where
  -- so it is once the transaction has accessed the object
  pub read_after : FoundAfter t (read t x (obj o)) x (obj o)
  unfolding read found
  read_after = go (has (sets_of t.live x).written o)
    where
      b : Object
      b = object t (obj o)

      finds : ((latest b).writer ≡ nobody) ⊎ After (access t x (obj o)) x (latest b).writer
      finds =
          subst (λ (y : Txn). (y ≡ nobody) ⊎ After (access t x (obj o)) x y) (same_latest t s x o may.below)
          (⊎_elim
          (λ e. inl (same_txn (latest (object (access t x (obj o)) (obj o))).writer nobody e))
          inr
          (holder_after (access t x (obj o)) x o may.below (accessing t s x o may)))

      go : (w : Bool) → let y = cond w x (latest b).writer in (y ≡ x) ⊎ ((y ≡ nobody) ⊎ After (access t x (obj o)) x y)
      go true = inl refl
      go false = inr finds

  -- and still once it has written it
  pub write_after : (v : ℕ) → FoundAfter t (write t x (obj o) v) x (obj o)
  unfolding read write
  write_after v =
      let y = found t x (obj o) in
      let h = accessing t s x o may in
      ⊎_elim inl
      (λ w. inr (⊎_elim inl (λ a. inr (after_set_working (access t x (obj o)) x y a h.sound x o v h.live)) w))
      read_after
