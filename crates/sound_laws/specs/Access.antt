-- Read and write keep tables sound: the lock taken at first access, with its dependency, and the working value set.
-- Rests on the rules' Steps, on basics, Means, Live, Known and Places. Assumes nothing.
use Rattle.std.specs.Prelude.{◌≡◌, Bool, true, false, cond, ◌⊎◌, ◌↔◌, List, ℕ, ◌^◌, ◌<◌, length, set}
use Rattle.std.proofs.Math.Path.{refl, ap, subst}
use Rattle.std.proofs.Common.{sym, ◌∙◌, inl, inr, ⊎_elim, get_or-set_same}
use Rattle.std.proofs.Math.Dec.{T}
use Rattle.rules.specs.Sets.{width, has, with_member}
use Rattle.rules.specs.Tables.{Txn, Entry, Object, Live, Tables, obj, object_count, place_count, fresh_object, object, place, place_of, is_live, sets_of, chain, stable_entry, latest}
use Rattle.rules.specs.Sound.{depends_on}
use Rattle.rules.specs.Steps.{held_by, and_depends_on, take_lock, access, set_working, read, write}
use Rattle.basics.specs.Lists.{All-last}
use Rattle.basics.specs.Sets.{with_member_says, with_member_lt}
use Rattle.sound_laws.specs.Means.{Held, PlaceOk, ObjectOk, Sound}
use Rattle.sound_laws.specs.Live.{At, same_txn, live_at}
use Rattle.sound_laws.specs.Known.{latest_other}
use Rattle.sound_laws.specs.Places.{Grown, set_here, set_place_of, set_live, unheld_ok, grown_ok, placed_sound}

-- an object with another holder and working value, where the holder may hold it
pub held_ok : (ls : List Live) (rs : List Txn) (i : ℕ) (b : Object) (x : Txn) (v : ℕ) → ObjectOk ls rs i b → v < 2 ^ 64 → T (is_live ls x)
    → T (has (sets_of ls x).accessed i) → (T (has (sets_of ls x).prepared i) → ⊥)
    → (T (is_live ls (latest b).writer) → T (depends_on ls x (latest b).writer)) → ObjectOk ls rs i (held_by b x v)
unfolding latest
held_ok ls rs i b x v ok fits live accessed unprepared depends =
    record {
      fits = ok.fits;
      stable_fits = ok.stable_fits;
      working_fits = fits;
      entries_fit = ok.entries_fit;
      holder_live = λ h. live;
      holder_accessed = λ h. accessed;
      holder_unprepared = λ h. unprepared;
      holder_depends = λ h. depends;
      once = ok.once;
      accounted = ok.accounted;
      logged_first = ok.logged_first;
      logged_saved = ok.logged_saved;
      logged_rise = ok.logged_rise;
      links = ok.links;
      named = ok.named;
      zero_free = λ z. absurd ((live_at ls x live).somebody z);
    }

-- ---- the dependencies with one more

module _ (ls : List Live) (l : Live) (y : Txn) where
  pub and_depends_says : (q : ℕ) → q < place_count
      → T (has (and_depends_on ls l y) q) ↔ (T (has l.depends q) ⊎ (T (is_live ls y) × (q ≡ place_of ls y)))
  and_depends_says q k = go (is_live ls y)
    where
      go : (b : Bool) → T (has (cond b (with_member l.depends (place_of ls y)) l.depends) q) ↔ (T (has l.depends q) ⊎ (T b × (q ≡ place_of ls y)))
      go true =
          let w = with_member_says l.depends (place_of ls y) q k in
          (λ m. ⊎_elim inl (λ r. inr (tt, r)) (w.0 m), λ d. w.1 (⊎_elim inl (λ r. inr r.1) d))
      go false = (inl, λ d. ⊎_elim (λ m. m) (λ r. absurd r.0) d)

  pub and_depends_lt : l.depends < 2 ^ width → and_depends_on ls l y < 2 ^ width
  and_depends_lt h = go (is_live ls y)
    where
      go : (b : Bool) → cond b (with_member l.depends (place_of ls y)) l.depends < 2 ^ width
      go true = with_member_lt l.depends (place_of ls y)
      go false = h

-- ---- the lock

module _ (t : Tables) (s : Sound t) (x : Txn) (o : ℕ) (ho : o < object_count) (live : T (is_live t.live x))
    (new : T (has (sets_of t.live x).accessed o) → ⊥) (unheld : (object t (obj o)).holder.num ≡ 0) where
  abbrev p : ℕ
  p = place_of t.live x

  abbrev old : Live
  old = place t.live p

  abbrev e : Entry
  e = latest (object t (obj o))

  abbrev l : Live
  l =
      record {
        number = old.number;
        accessed = with_member old.accessed o;
        written = old.written;
        prepared = old.prepared;
        depends = and_depends_on t.live old e.writer;
      }

  at : At t.live x p
  at = live_at t.live x live

  fine : PlaceOk t.next t.live p old
  fine = s.place_ok p at.below

  depends_more : (q : ℕ) → q < place_count → T (has old.depends q) → T (has l.depends q)
  depends_more q k m = (and_depends_says t.live old e.writer q k).1 (inl m)

  depends_only : (q : ℕ) → q < place_count → T (has l.depends q)
      → T (has old.depends q) ⊎ (T (is_live t.live e.writer) × (q ≡ place_of t.live e.writer))
  depends_only q k = (and_depends_says t.live old e.writer q k).0

  place_fine : PlaceOk t.next t.live p l
  place_fine =
      record {
        accessed_fits = with_member_lt old.accessed o;
        written_fits = fine.written_fits;
        prepared_fits = fine.prepared_fits;
        depends_fits = and_depends_lt t.live old e.writer fine.depends_fits;
        once = fine.once;
        given = fine.given;
        written_accessed = λ i k m. (with_member_says old.accessed o i k).1 (inl (fine.written_accessed i k m));
        prepared_accessed = λ i k m. (with_member_says old.accessed o i k).1 (inl (fine.prepared_accessed i k m));
        depends_live = λ q k m.
            ⊎_elim (fine.depends_live q k)
            (λ w z. (live_at t.live e.writer w.0).somebody (sym (live_at t.live e.writer w.0).there ∙ ap (λ (r : ℕ). (place t.live r).number.num) (sym w.1) ∙ z))
            (depends_only q k m);
        not_on_self = λ m. ⊎_elim fine.not_on_self (λ w. latest_other t s o ho x new live (own w.0 w.1)) (depends_only p at.below m);
        zero_free = λ z. absurd (at.somebody (sym at.there ∙ z));
      }
    where
      own : T (is_live t.live e.writer) → p ≡ place_of t.live e.writer → e.writer ≡ x
      own u r =
          same_txn e.writer x
          (sym (live_at t.live e.writer u).there ∙ ap (λ (q : ℕ). (place t.live q).number.num) (sym r) ∙ at.there)

  abbrev ms : List Live
  ms = set t.live p l

  room : p < length t.live
  room = subst (λ (n : ℕ). p < n) (sym s.places_count) at.below

  -- the transaction's sets afterwards
  sets_now : sets_of ms x ≡ l
  sets_now = ap (place ms) (set_place_of t.live p l room refl x) ∙ set_here t.live p l room

  accessed_more : (i : ℕ) → i < object_count → T (has old.accessed i) → T (has l.accessed i)
  accessed_more i k m = (with_member_says old.accessed o i k).1 (inl m)

  object_fine : ObjectOk ms t.log o (held_by (object t (obj o)) x e.value)
  unfolding latest
  object_fine =
      let b = object t (obj o) in
      let ok = s.object_ok o ho in
      held_ok ms t.log o b x e.value
      (unheld_ok t s o p b l ho at.below refl depends_more o b (accessed_more o ho) (λ m. m) (λ m. m) unheld ok)
      (All-last (λ (f : Entry). f.value < 2 ^ 64) (stable_entry b) (chain b) ok.stable_fits ok.entries_fit)
      (subst T (sym (set_live t.live p l room refl x)) live)
      (subst (λ (m : Live). T (has m.accessed o)) (sym sets_now) ((with_member_says old.accessed o o ho).1 (inr refl)))
      (λ m. new (fine.prepared_accessed o ho (subst (λ (n : Live). T (has n.prepared o)) sets_now m)))
      (λ u.
      let v = subst T (set_live t.live p l room refl e.writer) u in
      subst (λ (q : ℕ). T (has (sets_of ms x).depends q)) (sym (set_place_of t.live p l room refl e.writer))
      (subst (λ (m : Live). T (has m.depends (place_of t.live e.writer))) (sym sets_now)
      ((and_depends_says t.live old e.writer (place_of t.live e.writer) (live_at t.live e.writer v).below).1 (inr (v, refl)))))

  pub take_lock_sound : Sound (take_lock t x (obj o))
  unfolding take_lock
  take_lock_sound =
      placed_sound t s o p (held_by (object t (obj o)) x e.value) l ho at.below refl depends_more place_fine
      (λ i k d. record { accessed = accessed_more i k; written = λ m. m; prepared = λ m. m; unprepared = λ m. m })
      object_fine

  -- afterwards the transaction is live and holds the object
  pub take_lock_live : T (is_live (take_lock t x (obj o)).live x)
  unfolding take_lock
  take_lock_live = subst T (sym (set_live t.live p l room refl x)) live

  pub take_lock_holds : (object (take_lock t x (obj o)) (obj o)).holder ≡ x
  unfolding take_lock
  take_lock_holds =
      ap (λ (b : Object). b.holder)
      (get_or-set_same t.objects o (held_by (object t (obj o)) x e.value) fresh_object
      (subst (λ (n : ℕ). o < n) (sym s.objects_count) ho))

-- ---- first access or not

-- the transaction may access the object: it is live, holds the object if it accessed it before, and else nobody does
pub record MayAccess (t : Tables) (x : Txn) (o : ℕ) : Type 0 where
  pub below : o < object_count
  pub live : T (is_live t.live x)
  pub holds : T (has (sets_of t.live x).accessed o) → (object t (obj o)).holder ≡ x
  pub unheld : (T (has (sets_of t.live x).accessed o) → ⊥) → (object t (obj o)).holder.num ≡ 0

-- sound tables in which the transaction is live and holds the object
pub record Holding (t : Tables) (x : Txn) (o : ℕ) : Type 0 where
  pub sound : Sound t
  pub live : T (is_live t.live x)
  pub holds : (object t (obj o)).holder ≡ x

pub accessing : (t : Tables) → Sound t → (x : Txn) (o : ℕ) → MayAccess t x o → Holding (access t x (obj o)) x o
unfolding access
accessing t s x o may = go (has (sets_of t.live x).accessed o) may.holds may.unheld (λ f. f)
  where
    go : (a : Bool) → (T a → (object t (obj o)).holder ≡ x) → ((T a → ⊥) → (object t (obj o)).holder.num ≡ 0)
        → ((T a → ⊥) → T (has (sets_of t.live x).accessed o) → ⊥) → Holding (cond a t (take_lock t x (obj o))) x o
    go true f g same = record { sound = s; live = may.live; holds = f tt }
    go false f g same =
        let new = same (λ z. z) in
        let free = g (λ z. z) in
        record {
          sound = take_lock_sound t s x o may.below may.live new free;
          live = take_lock_live t s x o may.below may.live new free;
          holds = take_lock_holds t s x o may.below may.live new free;
        }

pub read_sound : (t : Tables) → Sound t → (x : Txn) (o : ℕ) → MayAccess t x o → Sound (read t x (obj o))
unfolding read
read_sound t s x o may = (accessing t s x o may).sound

-- ---- the working value

module _ (t : Tables) (x : Txn) (o : ℕ) (v : ℕ) (ho : o < object_count) (h : Holding t x o) (fits : v < 2 ^ 64) where
  abbrev q : ℕ
  q = place_of t.live x

  abbrev was : Live
  was = place t.live q

  abbrev now : Live
  now =
      record {
        number = was.number;
        accessed = was.accessed;
        written = with_member was.written o;
        prepared = was.prepared;
        depends = was.depends;
      }

  abbrev held : Object
  held = object t (obj o)

  is_held : Held held
  is_held z = (live_at t.live x h.live).somebody (ap (λ (y : Txn). y.num) (sym h.holds) ∙ z)

  has_accessed : T (has was.accessed o)
  has_accessed = subst (λ (y : Txn). T (has (sets_of t.live y).accessed o)) h.holds ((h.sound.object_ok o ho).holder_accessed is_held)

  written_more : (i : ℕ) → i < object_count → T (has was.written i) → T (has now.written i)
  written_more i k m = (with_member_says was.written o i k).1 (inl m)

  now_fine : PlaceOk t.next t.live q now
  now_fine =
      let ok = h.sound.place_ok q (live_at t.live x h.live).below in
      record {
        accessed_fits = ok.accessed_fits;
        written_fits = with_member_lt was.written o;
        prepared_fits = ok.prepared_fits;
        depends_fits = ok.depends_fits;
        once = ok.once;
        given = ok.given;
        written_accessed = λ i k m.
            ⊎_elim (ok.written_accessed i k) (λ r. subst (λ (j : ℕ). T (has was.accessed j)) (sym r) has_accessed)
            ((with_member_says was.written o i k).0 m);
        prepared_accessed = ok.prepared_accessed;
        depends_live = ok.depends_live;
        not_on_self = ok.not_on_self;
        zero_free = λ z. absurd ((live_at t.live x h.live).somebody (sym (live_at t.live x h.live).there ∙ z));
      }

  grown : (i : ℕ) → i < object_count → Grown was now i
  grown i k = record { accessed = λ m. m; written = written_more i k; prepared = λ m. m; unprepared = λ m. m }

  held_fine : ObjectOk (set t.live q now) t.log o (held_by held held.holder v)
  held_fine =
      let below = (live_at t.live x h.live).below in
      let ok = grown_ok t h.sound o q held now ho below refl (λ r k m. m) o held (grown o ho) (h.sound.object_ok o ho) in
      held_ok (set t.live q now) t.log o held held.holder v ok fits
      (ok.holder_live is_held) (ok.holder_accessed is_held) (ok.holder_unprepared is_held) (ok.holder_depends is_held)

  pub set_working_sound : Sound (set_working t x (obj o) v)
  unfolding set_working
  set_working_sound =
      placed_sound t h.sound o q (held_by held held.holder v) now ho (live_at t.live x h.live).below refl (λ r k m. m)
      now_fine (λ i k d. grown i k) held_fine

pub write_sound : (t : Tables) → Sound t → (x : Txn) (o v : ℕ) → MayAccess t x o → v < 2 ^ 64 → Sound (write t x (obj o) v)
unfolding write
write_sound t s x o v may fits = set_working_sound (access t x (obj o)) x o v may.below (accessing t s x o may) fits
