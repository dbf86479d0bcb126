-- Storage keeps the values true: save, settle, crash and restart.
-- Rests on the rules' Steps, on basics, sound_laws, Keeping and Invariant. Assumes nothing.
use Rattle.std.specs.Prelude.{◌≡◌, Bool}
use Rattle.std.proofs.Math.Path.{refl, ap, subst}
use Rattle.std.proofs.Common.{sym, ◌∙◌}
use Rattle.std.proofs.Math.Bool.{true, false, cond}
use mathlib.Core.List.{List, [], ◌++◌, map, append_assoc, append-nil}
use Rattle.std.proofs.Math.Option.{Option}
use Prim.Native.Nat.{ℕ, ◌<◌}
use Rattle.rules.specs.Tests.{last_or, keep, leading, after_leading}
use Rattle.rules.specs.Sets.{has}
use Rattle.rules.specs.Tables.{Txn, Entry, Object, Live, Tables, obj, object_count, fresh_object, object, chain, stable_entry, latest}
use Rattle.rules.specs.Steps.{unlocked, chained, save, version_of, entry_logged, settled, settle, crashed, crash, durable, restart}
use Rattle.basics.specs.Ranges.{getD_row}
use Rattle.basics.specs.Lists.{All, All-map, All-append, All-last, All-keep, Neighbours, Neighbours-front, last_append, keep_append, keep_none, keep_pass, leading_split, after_leading_none, after_leading_fail}
use Rattle.sound_laws.specs.Means.{LoggedFirst, Sound}
use Rattle.sound_laws.specs.Chains.{Unlogged}
use Rattle.sound_laws.specs.Storage.{entry_of, last_version, save_sound, settle_sound, crash_sound, restart_sound, no_one_live}
use Rattle.history.specs.Keeping.{keep_keep, keep_leading, all_before}
use Rattle.history.specs.Accepted.{Heard}
use Rattle.history.specs.Invariant.{heard_of, Said, ObjectTrue, Truthful, Carries, carried, one_object}

-- ---- one object

module _ (f : Txn → Option ℕ) (ls : List Live) (rs : List Txn) (i : ℕ) (b : Object) (o : ObjectTrue f ls rs i b) where
  abbrev logged : Entry → Bool
  logged = entry_logged rs

  -- the value of the last entry, else of the stable version
  abbrev last_value_of : List Entry → ℕ
  last_value_of es = (last_or (stable_entry b) es).value

  saved_said : All (Said f) b.saved
  saved_said = ((All-append (Said f) b.saved b.queued).0 o.entries).0

  -- with the queued entries saved
  saved_true : All (Unlogged rs) b.queued → ObjectTrue f ls rs i (chained b (b.saved ++ b.queued) [])
  unfolding latest
  saved_true u =
      record {
        own = o.own;
        found = λ h w. o.found h w ∙ ap last_value_of (sym (append-nil (chain b)));
        stable = o.stable;
        entries = subst (All (Said f)) (sym (append-nil (chain b))) o.entries;
        settled =
            ap last_value_of
            (keep_append logged b.saved b.queued
            ∙ ap (λ (l : List Entry). keep logged b.saved ++ l) (keep_none logged b.queued u)
            ∙ append-nil (keep logged b.saved))
            ∙ o.settled;
      }

  -- with no lock and saved entries alone, every logged one of them
  dropped_true : (s : List Entry) → All (Said f) s → keep logged s ≡ keep logged b.saved
      → ObjectTrue f ls rs i (chained (unlocked b) s [])
  dropped_true s h e =
      record {
        own = λ k. absurd (k refl);
        found = λ k. absurd (k refl);
        stable = o.stable;
        entries = subst (All (Said f)) (sym (append-nil s)) h;
        settled = ap last_value_of e ∙ o.settled;
      }

  crashed_true : ObjectTrue f ls rs i (crashed b)
  crashed_true = dropped_true b.saved saved_said refl

  durable_true : ObjectTrue f ls rs i (durable rs b)
  unfolding durable
  durable_true =
      dropped_true (keep logged b.saved) (All-keep logged (Said f) b.saved saved_said)
      (keep_keep logged logged b.saved (All-map (λ e h u. u) b.saved saved_said))

  -- with the leading logged entries made the stable version
  settled_true : Neighbours (LoggedFirst rs) b.saved → ObjectTrue f ls rs i (settled rs b)
  unfolding settled latest last_or
  settled_true first =
      let lead = leading logged b.saved in
      let rest = after_leading logged b.saved in
      let v = last_or b.stable (map (version_of rs) lead) in
      let onto : List Entry → List Entry = λ l. l ++ b.queued in
      let split : chain b ≡ lead ++ (rest ++ b.queued) =
      ap onto (leading_split logged b.saved) ∙ append_assoc lead rest b.queued in
      let last = last_version rs b.stable lead in
      let both = (All-append (Said f) lead (rest ++ b.queued)).0 (subst (All (Said f)) split o.entries) in
      let none_left = keep_none logged rest (after_leading_fail logged b.saved first) in
      record {
        own = o.own;
        found = λ h w.
            o.found h w
            ∙ ap last_value_of split
            ∙ ap (λ (g : Entry). g.value) (last_append (stable_entry b) lead (rest ++ b.queued))
            ∙ ap (λ (g : Entry). (last_or g (rest ++ b.queued)).value) (sym last);
        stable = subst (Said f) (sym last) (All-last (Said f) (stable_entry b) lead o.stable both.0);
        entries = both.1;
        settled =
            ap (λ (l : List Entry). (last_or (entry_of v) l).value) none_left
            ∙ ap (λ (g : Entry). g.value) last
            ∙ ap last_value_of (sym (keep_leading logged b.saved first))
            ∙ o.settled;
      }

-- ---- the steps

module _ (a : Heard) (t : Tables) (s : Sound t) (h : Truthful a t) where
  abbrev True : ℕ → Object → Type 0
  True i b = ObjectTrue (heard_of a i) t.live t.log i b

  same_places : Carries t.live t.live
  same_places x u = (u, refl)

  -- a save keeps the values true
  pub save_true : (o : ℕ) → o < object_count → Truthful a (save t (obj o))
  unfolding save
  save_true o k =
      let b = object t (obj o) in
      carried a t (save t (obj o)) h (save_sound t s o k) refl same_places
      (one_object a t s h o (chained b (b.saved ++ b.queued) []) k
      (saved_true (heard_of a o) t.live t.log o b (h.objects o k) (s.object_ok o k).logged_saved))

  -- so does a settle
  pub settle_true : (o : ℕ) → o < object_count → Truthful a (settle t (obj o))
  unfolding settle
  settle_true o k =
      let b = object t (obj o) in
      let first = Neighbours-front (LoggedFirst t.log) b.saved b.queued (s.object_ok o k).logged_first in
      carried a t (settle t (obj o)) h (settle_sound t s o k) refl same_places
      (one_object a t s h o (settled t.log b) k
      (settled_true (heard_of a o) t.live t.log o b (h.objects o k) first))

  -- so does a crash
  pub crash_true : (c : ℕ) → Truthful a (crash t c)
  unfolding crash
  crash_true c =
      let g : ℕ → Object = λ i. cond (has c i) (crashed (object t (obj i))) (object t (obj i)) in
      carried a t (crash t c) h (crash_sound t s c) refl same_places
      (λ i k. subst (True i) (sym (getD_row object_count g i fresh_object k)) (one i k (has c i)))
    where
      one : (i : ℕ) → i < object_count → (m : Bool) → True i (cond m (crashed (object t (obj i))) (object t (obj i)))
      one i k true = crashed_true (heard_of a i) t.live t.log i (object t (obj i)) (h.objects i k)
      one i k false = h.objects i k

  -- so does a restart
  pub restart_true : Truthful a (restart t)
  unfolding restart durable
  restart_true =
      let g : ℕ → Object = λ i. settled t.log (durable t.log (object t (obj i))) in
      carried a t (restart t) h (restart_sound t s) refl (λ x u. absurd (no_one_live x u))
      (λ i k. subst (True i) (sym (getD_row object_count g i fresh_object k)) (one i k))
    where
      one : (i : ℕ) → i < object_count → True i (settled t.log (durable t.log (object t (obj i))))
      one i k =
          let b = object t (obj i) in
          let logged_here = entry_logged t.log in
          settled_true (heard_of a i) t.live t.log i (durable t.log b)
          (durable_true (heard_of a i) t.live t.log i b (h.objects i k))
          (all_before logged_here (keep logged_here b.saved) (keep_pass logged_here b.saved))

-- a restart leaves no saved entry
pub restart_saved : (t : Tables) (i : ℕ) → i < object_count → (object (restart t) (obj i)).saved ≡ []
unfolding restart settled durable
restart_saved t i k =
    let g : ℕ → Object = λ j. settled t.log (durable t.log (object t (obj j))) in
    let logged_here = entry_logged t.log in
    let saved = (object t (obj i)).saved in
    ap (λ (b : Object). b.saved) (getD_row object_count g i fresh_object k)
    ∙ after_leading_none logged_here (keep logged_here saved) (keep_pass logged_here saved)
