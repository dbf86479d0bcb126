-- Read, write and prepare keep the values true: a lock taken finds the latest version, a write sets the working value
-- and what the history says at once, and a prepare queues what was written.
-- Rests on the rules' Steps, on basics, sound_laws, Accepted and Invariant. Assumes nothing.
use Rattle.std.specs.Prelude.{◌≡◌, Bool, cond, List, [], ◌∷◌, ◌++◌, ℕ, suc, ◌≤◌, ◌<◌, length, set}
use Rattle.std.proofs.Math.Path.{refl, fun_ext}
use Rattle.std.proofs.Common.{ap, sym, ◌∙◌, subst, inl, inr, ⊎_elim, append_assoc}
use Rattle.std.proofs.Math.Bool.{true, false}
use Rattle.std.proofs.Math.Option.{Option}
use Rattle.std.proofs.Math.Dec.{T}
use Rattle.rules.specs.Sets.{has, with_member}
use Rattle.rules.specs.Tables.{Txn, Entry, Object, Live, Tables, obj, object_count, chain_room, object, place, place_of, is_live, sets_of, chain, stable_entry, latest}
use Rattle.rules.specs.Steps.{held_by, unlocked, chained, and_depends_on, take_lock, access, set_working, write, prepare}
use Rattle.rules.specs.History.{or_else}
use Rattle.basics.specs.Logic.{same_test, is_true}
use Rattle.basics.specs.Ranges.{same_or_other}
use Rattle.basics.specs.Lists.{All, All-map, All-zip, All-append}
use Rattle.basics.specs.Sets.{with_member_says}
use Rattle.sound_laws.specs.Means.{Other, Held, Given, Accounted, Sound}
use Rattle.sound_laws.specs.Live.{same_txn, live_at}
use Rattle.sound_laws.specs.Known.{live_given, logged_not_live, stable_not_live}
use Rattle.sound_laws.specs.Places.{set_here, set_elsewhere, set_place, set_place_of, set_live}
use Rattle.sound_laws.specs.Access.{MayAccess, Holding, take_lock_sound, accessing}
use Rattle.sound_laws.specs.Prepare.{prepare_sound}
use Rattle.history.specs.Accepted.{Heard, and_accepts, accepts_here, accepts_other, accepts_elsewhere, replayed_same}
use Rattle.history.specs.Invariant.{is_some, wrote, heard_of, Said, ObjectTrue, Truthful, Carries, seen, carried, object_room, set_object, one_object}

-- ---- one place set anew, its number kept

module _ (ls : List Live) (p : ℕ) (l : Live) (h : p < length ls) (number : l.number ≡ (place ls p).number) where
  -- an object is written, or not, as it was at the place
  same_member : (i : ℕ) → has l.written i ≡ has (place ls p).written i
      → (x : Txn) → wrote (set ls p l) x i ≡ wrote ls x i
  same_member i e x =
      ap (λ (q : ℕ). has (place (set ls p l) q).written i) (set_place_of ls p l h number x)
      ∙ set_place ls p l h (λ k m. has m.written i ≡ has k.written i) e (λ q. refl) (place_of ls x)

  set_carries : l.written ≡ (place ls p).written → Carries ls (set ls p l)
  set_carries e x u = (
    subst T (set_live ls p l h number x) u,
    ap (λ (q : ℕ). (place (set ls p l) q).written) (set_place_of ls p l h number x)
        ∙ set_place ls p l h (λ k m. m.written ≡ k.written) e (λ q. refl) (place_of ls x),
  )

-- the tables with object o and the place of x set anew
abbrev placed : Tables → Txn → ℕ → Object → Live → Tables
placed t x o b l =
    record {
      next = t.next;
      log = t.log;
      live = set t.live (place_of t.live x) l;
      objects = set t.objects o b;
    }

module _ (t : Tables) (s : Sound t) (x : Txn) (live : T (is_live t.live x)) where
  place_room : place_of t.live x < length t.live
  place_room = subst (λ (n : ℕ). place_of t.live x < n) (sym s.places_count) (live_at t.live x live).below

  -- nothing more is written there
  placed_true : (a : Heard) → Truthful a t → (o : ℕ) (b : Object) (l : Live) → o < object_count
      → l.number ≡ (sets_of t.live x).number → l.written ≡ (sets_of t.live x).written
      → Sound (placed t x o b l) → ObjectTrue (heard_of a o) t.live t.log o b → Truthful a (placed t x o b l)
  placed_true a h o b l k number written sound p =
      carried a t (placed t x o b l) h sound refl
      (set_carries t.live (place_of t.live x) l place_room number written)
      (one_object a t s h o b k p)

-- ---- the lock

module _ (a : Heard) (t : Tables) (s : Sound t) (h : Truthful a t) (x : Txn) (o : ℕ) where
  take_lock_true : o < object_count → T (is_live t.live x) → (T (has (sets_of t.live x).accessed o) → ⊥)
      → (object t (obj o)).holder.num ≡ 0 → Truthful a (take_lock t x (obj o))
  unfolding take_lock latest
  take_lock_true k live new unheld =
      let b = object t (obj o) in
      let l = sets_of t.live x in
      let e = latest b in
      let tells = h.objects o k in
      let below = (live_at t.live x live).below in
      placed_true t s x live a h o (held_by b x e.value)
      (record {
        number = l.number;
        accessed = with_member l.accessed o;
        written = l.written;
        prepared = l.prepared;
        depends = and_depends_on t.live l e.writer;
      })
      k refl refl (take_lock_sound t s x o k live new unheld)
      (record {
        own = λ m w. absurd (new ((s.place_ok (place_of t.live x) below).written_accessed o k w));
        found = λ m w. refl;
        stable = tells.stable;
        entries = tells.entries;
        settled = tells.settled;
      })

  -- an access that nothing refuses finds the latest version
  pub access_true : MayAccess t x o → Truthful a (access t x (obj o))
  unfolding access
  access_true may = go (has (sets_of t.live x).accessed o) may.unheld (λ f. f)
    where
      go : (b : Bool) → ((T b → ⊥) → (object t (obj o)).holder.num ≡ 0)
          → ((T b → ⊥) → T (has (sets_of t.live x).accessed o) → ⊥) → Truthful a (cond b t (take_lock t x (obj o)))
      go true g new = h
      go false g new = take_lock_true may.below may.live (new (λ z. z)) (g (λ z. z))

-- ---- what the holder of an object does

module _ (a : Heard) (t : Tables) (h : Truthful a t) (x : Txn) (o : ℕ) (k : o < object_count)
    (holding : Holding t x o) where
  abbrev p : ℕ
  p = place_of t.live x

  abbrev l : Live
  l = place t.live p

  abbrev b : Object
  b = object t (obj o)

  s : Sound t
  s = holding.sound

  held : Held b
  held z = (live_at t.live x holding.live).somebody (ap (λ (y : Txn). y.num) (sym holding.holds) ∙ z)

  room : p < length t.live
  room = place_room t s x holding.live

  tells : ObjectTrue (heard_of a o) t.live t.log o b
  tells = h.objects o k

  -- ---- prepare

  abbrev queued_entry : Entry
  queued_entry = record { value = b.working; writer = x }

  abbrev prepared : Bool → Object
  prepared w = chained (unlocked b) b.saved (cond w (b.queued ++ queued_entry ∷ []) b.queued)

  free_true : (w : Bool) → All (Said (heard_of a o)) (chain (prepared w))
      → ObjectTrue (heard_of a o) t.live t.log o (prepared w)
  free_true w entries =
      record {
        own = λ m. absurd (m refl);
        found = λ m. absurd (m refl);
        stable = tells.stable;
        entries = entries;
        settled = tells.settled;
      }

  prepared_said : (w : Bool) → (T w → T (has l.written o)) → All (Said (heard_of a o)) (chain (prepared w))
  prepared_said true f =
      subst (All (Said (heard_of a o))) (append_assoc b.saved b.queued (queued_entry ∷ []))
      ((All-append (Said (heard_of a o)) (chain b) (queued_entry ∷ [])).1 (tells.entries, (said, tt)))
    where
      said : b.working ≡ or_else 0 (a x (obj o))
      said =
          tells.own held (subst (λ (y : Txn). T (wrote t.live y o)) (sym holding.holds) (f tt))
          ∙ ap (λ (y : Txn). or_else 0 (a y (obj o))) holding.holds
  prepared_said false f = tells.entries

  -- a prepare queues what was written
  pub prepare_true : (T (has l.written o) → suc (length (chain b)) ≤ chain_room) → Truthful a (prepare t x (obj o))
  unfolding prepare
  prepare_true fits =
      let w = has l.written o in
      placed_true t s x holding.live a h o (prepared w)
      (record {
        number = l.number;
        accessed = l.accessed;
        written = l.written;
        prepared = with_member l.prepared o;
        depends = l.depends;
      })
      k refl refl (prepare_sound t x o k holding fits) (free_true w (prepared_said w (λ u. u)))

  -- ---- the working value

  -- whoever is not live, and the writer of an entry of the object, is another than its holder
  not_live_other : (y : Txn) → (T (is_live t.live y) → ⊥) → Other y x
  not_live_other y f e = f (subst (λ (z : Txn). T (is_live t.live z)) (sym (same_txn y x e)) holding.live)

  entry_other : (e : Entry) → Accounted t.live t.log o e → Other e.writer x
  entry_other e (inl g) r = not_live_other e.writer (logged_not_live t s e.writer g) r
  entry_other e (inr w) r =
      let same : e.writer ≡ b.holder = same_txn e.writer x r ∙ sym holding.holds in
      (s.object_ok o k).holder_unprepared held
      (subst (λ (y : Txn). T (has (sets_of t.live y).prepared o)) same w.2)

  module _ (v : ℕ) where
    abbrev now : Live
    now =
        record {
          number = l.number;
          accessed = l.accessed;
          written = with_member l.written o;
          prepared = l.prepared;
          depends = l.depends;
        }

    abbrev ms : List Live
    ms = set t.live p now

    abbrev heard : Heard
    heard = and_accepts a x (obj o) v

    -- the transaction has now written the object; no other transaction's sets and no other object's members change
    written_here : wrote ms x o ≡ true
    written_here =
        ap (λ (m : Live). has m.written o)
        (ap (place ms) (set_place_of t.live p now room refl x) ∙ set_here t.live p now room)
        ∙ is_true (has (with_member l.written o) o) ((with_member_says l.written o o k).1 (inr refl))

    written_other : (y : Txn) → Other y x → T (is_live t.live y) → sets_of ms y ≡ sets_of t.live y
    written_other y d u =
        let number : ℕ → ℕ = λ q. (place t.live q).number.num in
        ap (place ms) (set_place_of t.live p now room refl y)
        ∙ set_elsewhere t.live p now room (place_of t.live y)
        (λ e. d (sym (live_at t.live y u).there ∙ ap number e ∙ (live_at t.live x holding.live).there))

    written_elsewhere : (i : ℕ) → i < object_count → (i ≡ o → ⊥) → (y : Txn) → wrote ms y i ≡ wrote t.live y i
    written_elsewhere i m d =
        same_member t.live p now room refl i
        (same_test (has (with_member l.written o) i) (has l.written i)
        (λ u. ⊎_elim (λ w. w) (λ e. absurd (d e)) ((with_member_says l.written o i m).0 u))
        (λ u. (with_member_says l.written o i m).1 (inl u)))

    -- the written objects are again what the history says
    written_now : (y : Txn) → T (is_live t.live y)
        → (i : ℕ) → i < object_count → wrote ms y i ≡ is_some (heard y (obj i))
    written_now y u i m =
        ⊎_elim
        (λ e. subst (λ (j : ℕ). wrote ms y j ≡ is_some (heard y (obj j))) (sym e)
        (⊎_elim own other (same_or_other y.num x.num)))
        (λ d.
        written_elsewhere i m d y ∙ h.written y u i m
        ∙ ap is_some (sym (accepts_elsewhere a x (obj o) v y (obj i) d)))
        (same_or_other i o)
      where
        own : y.num ≡ x.num → wrote ms y o ≡ is_some (heard y (obj o))
        own r =
            subst (λ (z : Txn). wrote ms z o ≡ is_some (heard z (obj o))) (sym (same_txn y x r))
            (written_here ∙ ap is_some (sym (accepts_here a x (obj o) v)))

        other : Other y x → wrote ms y o ≡ is_some (heard y (obj o))
        other d =
            ap (λ (n : Live). has n.written o) (written_other y d u) ∙ h.written y u o k
            ∙ ap is_some (sym (accepts_other a x (obj o) v y (obj o) d))

    -- the object written: only its holder's value changed, and no version and no logged transaction is its holder's
    set_here_true : ObjectTrue (heard_of heard o) ms t.log o (held_by b b.holder v)
    set_here_true =
        record {
          own = λ m w. ap (or_else 0) (sym (ap (heard_of heard o) holding.holds ∙ accepts_here a x (obj o) v));
          found = λ m w.
              absurd (w (subst (λ (y : Txn). T (wrote ms y o)) (sym holding.holds) (subst T (sym written_here) tt)));
          stable =
              still (stable_entry b) (not_live_other b.stable.writer (stable_not_live t s o k)) tells.stable;
          entries =
              All-zip {P = Accounted t.live t.log o} {Q = Said (heard_of a o)}
              (λ e c. still e (entry_other e c)) (chain b) (s.object_ok o k).accounted tells.entries;
          settled =
              tells.settled
              ∙ replayed_same (heard_of a o) (heard_of heard o) 0 t.log
              (All-map (λ y f. same y (not_live_other y f)) t.log s.log_ok.not_live);
        }
      where
        same : (y : Txn) → Other y x → a y (obj o) ≡ heard y (obj o)
        same y d = sym (accepts_other a x (obj o) v y (obj o) d)

        still : (e : Entry) → Other e.writer x → Said (heard_of a o) e → Said (heard_of heard o) e
        still e d r = r ∙ ap (or_else 0) (same e.writer d)

    -- every other object is as it was
    set_elsewhere_true : (i : ℕ) → i < object_count → (i ≡ o → ⊥)
        → ObjectTrue (heard_of heard i) ms t.log i (object t (obj i))
    set_elsewhere_true i m d =
        subst (λ (f : Txn → Option ℕ). ObjectTrue f ms t.log i (object t (obj i)))
        (fun_ext λ y. sym (accepts_elsewhere a x (obj o) v y (obj i) d))
        (seen (heard_of a i) t.live ms t.log i (object t (obj i)) (h.objects i m)
        (λ n. written_elsewhere i m d (object t (obj i)).holder))

    set_working_true : Truthful heard (set_working t x (obj o) v)
    unfolding set_working
    set_working_true =
        record {
          unheard = λ y g q.
              accepts_other a x (obj o) v y q
              (λ e. g (subst (Given t.next) (sym (same_txn y x e)) (live_given t s x holding.live)))
              ∙ h.unheard y g q;
          written = λ y u. written_now y (subst T (set_live t.live p now room refl y) u);
          objects =
              set_object t.objects (λ i c. ObjectTrue (heard_of heard i) ms t.log i c) o (held_by b b.holder v)
              (object_room t s o k) set_here_true set_elsewhere_true;
        }

-- a write that nothing refuses sets the working value, and what the history says
pub write_true : (a : Heard) (t : Tables) → Sound t → Truthful a t → (x : Txn) (o v : ℕ) → MayAccess t x o
    → Truthful (and_accepts a x (obj o) v) (write t x (obj o) v)
unfolding write
write_true a t s h x o v may =
    set_working_true a (access t x (obj o)) (access_true a t s h x o may) x o may.below (accessing t s x o may) v
