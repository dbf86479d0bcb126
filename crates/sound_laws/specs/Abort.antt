-- Abort keeps tables sound: those that fall lose their locks, entries and places, and nobody who stays built on them.
-- In a chain those that fall are the end of it, since each live entry depends on the one before.
-- Rests on the rules' Falls and Steps, on basics, falls_laws, Means, Live, Chains and Places. Assumes nothing.
use Rattle.std.specs.Prelude.{◌≡◌, refl, Bool, true, false, not, cond, ◌⊎◌, List, ◌++◌}
use Rattle.std.proofs.Common.{ap, sym, ◌∙◌, inl, inr, ⊎_elim, arith}
use Rattle.std.proofs.Math.Path.{subst}
use Prim.Native.Nat.{ℕ, ◌<◌}
use Rattle.std.proofs.Math.Dec.{T}
use Rattle.rules.specs.Tests.{row, keep}
use Rattle.rules.specs.Sets.{has}
use Rattle.rules.specs.Tables.{Txn, Entry, Object, Live, Tables, obj, nobody, object_count, place_count, fresh_object, free_place, object, place, place_of, is_live, sets_of, chain, stable_entry, latest}
use Rattle.rules.specs.Sound.{depends_on}
use Rattle.rules.specs.Falls.{fallen, falls}
use Rattle.rules.specs.Steps.{unlocked, chained, undone, undo, abort}
use Rattle.basics.specs.Logic.{and_says, not_says, passes_or_fails, cond_true, cond_false}
use Rattle.basics.specs.Ranges.{length_row, getD_row, same_or_other}
use Rattle.basics.specs.Lists.{All, All-map, All-append, All-last, Neighbours, Neighbours-zip, keep_append, keep_pass, keep_all, keep_front, All-keep, pass_before}
use Rattle.falls_laws.specs.Falls.{falls_along}
use Rattle.sound_laws.specs.Means.{Held, Accounted, Linked, LoggedFirst, PlaceOk, ObjectOk, Sound}
use Rattle.sound_laws.specs.Live.{At, live_at, at_live, place_same, live_same, once, place_at}
use Rattle.sound_laws.specs.Known.{logged_not_live, stable_not_live}
use Rattle.sound_laws.specs.Chains.{Unlogged, parted, cut}
use Rattle.sound_laws.specs.Places.{Alike, alike_ok, beside_ok}
use Rattle.sound_laws.specs.Storage.{free_ok}

-- a set of places that has whoever depends on one of it
abbrev pub Closed : List Live → ℕ → Type 0
Closed ls f =
    (q r : ℕ) → q < place_count → r < place_count → T (has (place ls q).depends r) → T (has f r) → T (has f q)

module _ (t : Tables) (s : Sound t) (f : ℕ) (closed : Closed t.live f) where
  abbrev now : ℕ → Live
  now q = cond (has f q) free_place (place t.live q)

  abbrev ms : List Live
  ms = row place_count now

  pub fallen_place : (q : ℕ) → q < place_count → T (has f q) → place ms q ≡ free_place
  fallen_place q k u = getD_row place_count now q free_place k ∙ cond_true (has f q) free_place (place t.live q) u

  pub kept_place : (q : ℕ) → q < place_count → (T (has f q) → ⊥) → place ms q ≡ place t.live q
  kept_place q k u = getD_row place_count now q free_place k ∙ cond_false (has f q) free_place (place t.live q) u

  -- ---- who is live: those that do not fall

  abbrev Kept : Txn → Type 0
  Kept x = T (falls t.live f x) → ⊥

  -- a live transaction falls if its place is in the set
  falls_at : (x : Txn) → T (is_live t.live x) → T (has f (place_of t.live x)) → T (falls t.live f x)
  unfolding falls
  falls_at x u m = (and_says (is_live t.live x) (has f (place_of t.live x))).1 (u, m)

  pub falls_live : (x : Txn) → T (falls t.live f x) → T (is_live t.live x) × T (has f (place_of t.live x))
  unfolding falls
  falls_live x u = (and_says (is_live t.live x) (has f (place_of t.live x))).0 u

  stays : (x : Txn) → (x.num ≡ 0 → ⊥) → Kept x → place_of ms x ≡ place_of t.live x
  stays x z kept =
      place_same ms t.live x
      (λ q k e. go q k e (passes_or_fails (has f q)))
      (λ q k e. ⊎_elim (λ u. absurd (back q k e u)) (λ u. ap (λ (l : Live). l.number.num) (kept_place q k u) ∙ e) (passes_or_fails (has f q)))
    where
      go : (q : ℕ) → q < place_count → (place ms q).number.num ≡ x.num → T (has f q) ⊎ (T (has f q) → ⊥) → (place t.live q).number.num ≡ x.num
      go q k e (inl u) = absurd (z (sym e ∙ ap (λ (l : Live). l.number.num) (fallen_place q k u)))
      go q k e (inr u) = ap (λ (l : Live). l.number.num) (sym (kept_place q k u)) ∙ e

      back : (q : ℕ) → q < place_count → (place t.live q).number.num ≡ x.num → T (has f q) → ⊥
      back q k e u =
          let a : At t.live x q = record { somebody = z; below = k; there = e } in
          kept
          (falls_at x (at_live t.live x q a)
          (subst (λ (r : ℕ). T (has f r)) (sym (place_at t.live (once t s) x q a)) u))

  pub gone : (x : Txn) → T (is_live ms x) → Kept x
  gone x u v =
      let a = live_at ms x u in
      let w = falls_live x v in
      let q = place_of ms x in
      ⊎_elim
      (λ m. a.somebody (sym a.there ∙ ap (λ (l : Live). l.number.num) (fallen_place q a.below m)))
      (λ m. m (subst (λ (r : ℕ). T (has f r)) (place_at t.live (once t s) x q (record { somebody = a.somebody; below = a.below; there = ap (λ (l : Live). l.number.num) (sym (kept_place q a.below m)) ∙ a.there })) w.1))
      (passes_or_fails (has f q))

  still_live : (x : Txn) → Kept x → T (is_live t.live x) → T (is_live ms x)
  still_live x k u = subst T (sym (live_same ms t.live x (stays x (live_at t.live x u).somebody k))) u

  pub was_live : (x : Txn) → T (is_live ms x) → T (is_live t.live x)
  was_live x u = subst T (live_same ms t.live x (stays x (live_at ms x u).somebody (gone x u))) u

  pub sets_now : (x : Txn) → Kept x → T (is_live t.live x) → sets_of ms x ≡ sets_of t.live x
  sets_now x k u =
      let a = live_at t.live x u in
      ap (place ms) (stays x a.somebody k) ∙ kept_place (place_of t.live x) a.below (λ m. k (falls_at x u m))

  pub seen_alike : (i : ℕ) → Alike t.live ms i Kept
  seen_alike i =
      record {
        live = still_live;
        back = λ x k. was_live x;
        accessed = λ x k u. subst (λ (l : Live). T (has l.accessed i)) (sym (sets_now x k u));
        written = λ x k u. subst (λ (l : Live). T (has l.written i)) (sym (sets_now x k u));
        prepared = λ x k u. subst (λ (l : Live). T (has l.prepared i)) (sym (sets_now x k u));
        depends = λ x y j k u v m.
            subst (λ (q : ℕ). T (has (sets_of ms x).depends q)) (sym (stays y (live_at t.live y v).somebody k))
            (subst (λ (l : Live). T (has l.depends (place_of t.live y))) (sym (sets_now x j u)) m);
      }

  -- ---- one object, with the same places

  abbrev stays_on : Entry → Bool
  stays_on e = not (falls t.live f e.writer)

  -- whoever depends on one that falls, falls
  pub falls_with : (x y : Txn) → T (is_live t.live x) → T (depends_on t.live x y) → T (falls t.live f y) → T (falls t.live f x)
  falls_with x y u m v =
      let w = falls_live y v in
      falls_at x u (closed (place_of t.live x) (place_of t.live y) (live_at t.live x u).below (live_at t.live y w.0).below m w.1)

  -- in a chain, only those that stay come before one that stays
  pub stay_first : (i : ℕ) → i < object_count → Neighbours (λ e g. T (stays_on g) → T (stays_on e)) (chain (object t (obj i)))
  stay_first i k =
      let ok = s.object_ok i k in
      Neighbours-zip {P = Accounted t.live t.log i} {Q = LoggedFirst t.log} {R = Linked t.live}
      (λ e g a c q r v.
      (not_says (falls t.live f e.writer)).1
      (λ u. (not_says (falls t.live f g.writer)).0 v (later e g c q r u)))
      (chain (object t (obj i))) ok.accounted ok.logged_first ok.links
    where
      later : (e g : Entry) → Accounted t.live t.log i g → LoggedFirst t.log e g → Linked t.live e g → T (falls t.live f e.writer) → T (falls t.live f g.writer)
      later e g c q r u =
          let w = falls_live e.writer u in
          ⊎_elim
          (λ j. absurd (logged_not_live t s e.writer (q j) w.0))
          (λ j. falls_with g.writer e.writer j.0 (r w.0 j.0) u)
          c

  -- a holder that stays has a chain of which all stay: it depends on the latest if that is live
  pub all_stay : (i : ℕ) → i < object_count → Held (object t (obj i)) → Kept (object t (obj i)).holder → All (λ e. T (stays_on e)) (chain (object t (obj i)))
  unfolding latest
  all_stay i k h kept =
      let b = object t (obj i) in
      let ok = s.object_ok i k in
      pass_before stays_on (stable_entry b) (chain b) (stay_first i k)
      ((not_says (falls t.live f (latest b).writer)).1
      (λ u. kept (falls_with b.holder (latest b).writer (ok.holder_live h) (ok.holder_depends h (falls_live (latest b).writer u).0) u)))

  same_places : (i : ℕ) → i < object_count → ObjectOk t.live t.log i (undone t.live f (object t (obj i)))
  unfolding undone
  same_places i k = go (falls t.live f b.holder) (λ u. u) (same_or_other b.holder.num 0)
    where
      b : Object
      b = object t (obj i)

      left : List Entry
      left = keep stays_on b.saved

      right : List Entry
      right = keep stays_on b.queued

      ok : ObjectOk t.live t.log i b
      ok = s.object_ok i k

      rest : (ys : List Entry) × (chain b ≡ keep stays_on (chain b) ++ ys)
      rest = keep_front stays_on (chain b) (stay_first i k)

      front : chain b ≡ (left ++ right) ++ rest.0
      front = rest.1 ∙ ap (λ (l : List Entry). l ++ rest.0) (keep_append stays_on b.saved b.queued)

      right_unlogged : All (Unlogged t.log) right
      right_unlogged = All-keep stays_on (Unlogged t.log) b.queued ok.logged_saved

      go : (h : Bool) → (T (falls t.live f b.holder) → T h) → (b.holder.num ≡ 0) ⊎ Held b
          → ObjectOk t.live t.log i (chained (cond h (unlocked b) b) left right)
      go true u v = cut t.live t.log i b ok nobody 0 left right rest.0 refl refl front right_unlogged
      go false u (inl z) = cut t.live t.log i b ok b.holder b.working left right rest.0 z (ok.zero_free z) front right_unlogged
      go false u (inr h) =
          parted t.live t.log i b ok left right
          (sym (keep_all stays_on (chain b) (all_stay i k h u)) ∙ keep_append stays_on b.saved b.queued)
          right_unlogged

  -- ---- one object, with the new places

  undone_fine : (i : ℕ) → i < object_count → ObjectOk ms t.log i (undone t.live f (object t (obj i)))
  unfolding undone latest
  undone_fine i k =
      alike_ok t.live ms t.log i (undone t.live f b) Kept (seen_alike i) (same_places i k)
      (holder_stays (falls t.live f b.holder) (λ u. u))
      (λ h m. subst (λ (l : Live). T (has l.prepared i)) (sets_now (undone t.live f b).holder (holder_stays (falls t.live f b.holder) (λ u. u) h) ((same_places i k).holder_live h)) m)
      writers_stay
      (All-last (λ (e : Entry). Kept e.writer) (stable_entry (undone t.live f b)) (chain (undone t.live f b)) (stable_stays (falls t.live f b.holder)) writers_stay)
    where
      b : Object
      b = object t (obj i)

      holder_stays : (h : Bool) → (T (falls t.live f b.holder) → T h)
          → Held (cond h (unlocked b) b) → Kept (cond h (unlocked b) b).holder
      holder_stays true u v = absurd (v refl)
      holder_stays false u v = u

      stable_stays : (h : Bool) → Kept (cond h (unlocked b) b).stable.writer
      stable_stays true u = stable_not_live t s i k (falls_live b.stable.writer u).0
      stable_stays false u = stable_not_live t s i k (falls_live b.stable.writer u).0

      stay : (es : List Entry) → All (λ e. Kept e.writer) (keep stays_on es)
      stay es = All-map (λ e u. (not_says (falls t.live f e.writer)).0 u) (keep stays_on es) (keep_pass stays_on es)

      writers_stay : All (λ e. Kept e.writer) (keep stays_on b.saved ++ keep stays_on b.queued)
      writers_stay = (All-append (λ e. Kept e.writer) (keep stays_on b.saved) (keep stays_on b.queued)).1 (stay b.saved, stay b.queued)

  -- ---- the places

  place_fine : (q : ℕ) → q < place_count → PlaceOk t.next ms q (place ms q)
  place_fine q k =
      ⊎_elim
      (λ u. subst (PlaceOk t.next ms q) (sym (fallen_place q k u)) (free_ok t.next ms q))
      (λ u. subst (PlaceOk t.next ms q) (sym (kept_place q k u))
      (beside_ok t.next t.live ms q (place t.live q) (s.place_ok q k) (λ r h. number r (omega arith) (passes_or_fails (has f r)))
      (λ r h m v e. v (ap (λ (l : Live). l.number.num) (sym (kept_place r h (λ w. u (closed q r k h m w)))) ∙ e))))
      (passes_or_fails (has f q))
    where
      number : (r : ℕ) → r < place_count → T (has f r) ⊎ (T (has f r) → ⊥)
          → ((place ms r).number.num ≡ (place t.live r).number.num) ⊎ ((place ms r).number.num ≡ 0)
      number r h (inl u) = inr (ap (λ (l : Live). l.number.num) (fallen_place r h u))
      number r h (inr u) = inl (ap (λ (l : Live). l.number.num) (kept_place r h u))

  pub undo_sound : Sound (undo t f)
  unfolding undo
  undo_sound =
      let g : ℕ → Object = λ i. undone t.live f (object t (obj i)) in
      record {
        objects_count = length_row object_count g;
        places_count = length_row place_count now;
        next_low = s.next_low;
        next_high = s.next_high;
        log_ok =
            record {
              fits = s.log_ok.fits;
              once = s.log_ok.once;
              given = s.log_ok.given;
              not_live = All-map (λ x h u. h (was_live x u)) t.log s.log_ok.not_live;
            };
        place_ok = place_fine;
        object_ok = λ i k. subst (ObjectOk ms t.log i) (sym (getD_row object_count g i fresh_object k)) (undone_fine i k);
      }

-- abort of a live transaction keeps tables sound
pub abort_sound : (t : Tables) → Sound t → (x : Txn) → T (is_live t.live x) → Sound (abort t x)
unfolding abort
abort_sound t s x u =
    let p = place_of t.live x in
    undo_sound t s (fallen t.live p) (falls_along t.live p (live_at t.live x u).below)
