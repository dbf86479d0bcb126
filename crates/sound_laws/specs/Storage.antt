-- The steps of storage keep tables sound: save, settle, crash and restart.
-- Rests on the rules' Steps, on basics, Means, Logged and Chains. Assumes nothing.
use Rattle.std.specs.Prelude.{◌≡◌, Bool, T, length, get_or, set}
use Rattle.std.proofs.Math.Path.{refl, subst}
use Rattle.std.proofs.Common.{ap, sym, ◌∙◌, inr, le_trans, arith, lit<, length-append, length-set, get_or-set_same, get_or-set_other}
use Rattle.std.proofs.Math.Bool.{true, false, cond}
use mathlib.Core.List.{List, [], ◌∷◌, ◌++◌, map, append_assoc, append-nil}
use Prim.Native.Nat.{ℕ, ◌^◌, ◌<◌}
use Rattle.std.proofs.Math.Decide.{ℕ_discrete}
use Rattle.rules.specs.Tests.{last_or, keep, leading, after_leading, row}
use Rattle.rules.specs.Sets.{has}
use Rattle.rules.specs.Tables.{Txn, Version, Entry, Object, Live, Tables, obj, nobody, object_count, place_count, fresh_object, free_place, object, place, with_object, place_of, is_live, chain, stable_entry, latest}
use Rattle.rules.specs.Sound.{depends_on}
use Rattle.rules.specs.Steps.{chained, save, version_of, entry_logged, settled, settle, crashed, crash, durable, restart}
use Rattle.basics.specs.Ranges.{length_row, getD_row}
use Rattle.basics.specs.Lists.{All, All-map, All-append, All-last, Neighbours, Neighbours-front, Neighbours-back, last_append, keep_front, keep_pass, leading_split, leading_pass, after_leading_fail, after_leading_none}
use Rattle.basics.specs.Sets.{has_zero}
use Rattle.sound_laws.specs.Means.{Distinct, Held, Accounted, Linked, LoggedFirst, Named, PlaceOk, ObjectOk, Sound}
use Rattle.sound_laws.specs.Live.{live_at}
use Rattle.sound_laws.specs.Logged.{number_positive, number_at_most, record_names}
use Rattle.sound_laws.specs.Chains.{writers, writers_append, Distinct-back, Unlogged, Rises-unlogged, First-unlogged, parted, cut}

-- ---- tables whose objects alone change

module _ (t : Tables) (s : Sound t) where
  pub objects_anew : (bs : List Object) → length bs ≡ object_count
      → ((i : ℕ) → i < object_count → ObjectOk t.live t.log i (get_or bs i fresh_object))
      → Sound (record { next = t.next; log = t.log; live = t.live; objects = bs })
  objects_anew bs n f =
      record {
        objects_count = n;
        places_count = s.places_count;
        next_low = s.next_low;
        next_high = s.next_high;
        log_ok = s.log_ok;
        place_ok = s.place_ok;
        object_ok = f;
      }

  pub object_anew : (o : ℕ) (b : Object) → o < object_count → ObjectOk t.live t.log o b → Sound (with_object t (obj o) b)
  object_anew o b h ok =
      objects_anew (set t.objects o b) (length-set t.objects o b ∙ s.objects_count)
      (λ i k. set_ok t.objects (ObjectOk t.live t.log) o b (subst (λ (n : ℕ). o < n) (sym s.objects_count) h) ok i (s.object_ok i k))
    where
      set_ok : (bs : List Object) (P : ℕ → Object → Type 0) (o : ℕ) (b : Object) → o < length bs → P o b
          → (i : ℕ) → P i (get_or bs i fresh_object) → P i (get_or (set bs o b) i fresh_object)
      set_ok bs P o b h p i q = go (ℕ_discrete i o)
        where
          go : Dec (i ≡ o) → P i (get_or (set bs o b) i fresh_object)
          go (yes e) = subst (λ (j : ℕ). P j (get_or (set bs o b) j fresh_object)) (sym e) (subst (P o) (sym (get_or-set_same bs o b fresh_object h)) p)
          go (no d) = subst (P i) (sym (get_or-set_other bs o i b fresh_object d)) q

  -- ---- save

  pub save_sound : (o : ℕ) → o < object_count → Sound (save t (obj o))
  unfolding save
  save_sound o h =
      let b = object t (obj o) in
      object_anew o (chained b (b.saved ++ b.queued) []) h
      (parted t.live t.log o b (s.object_ok o h) (b.saved ++ b.queued) [] (sym (append-nil (chain b))) tt)

  -- ---- crash

  pub crash_sound : (c : ℕ) → Sound (crash t c)
  unfolding crash
  crash_sound c =
      let f : ℕ → Object = λ i. cond (has c i) (crashed (object t (obj i))) (object t (obj i)) in
      objects_anew (row object_count f) (length_row object_count f)
      (λ i h. subst (ObjectOk t.live t.log i) (sym (getD_row object_count f i fresh_object h)) (one i h (has c i)))
    where
      one : (i : ℕ) → i < object_count → (m : Bool) → ObjectOk t.live t.log i (cond m (crashed (object t (obj i))) (object t (obj i)))
      one i h true =
          let b = object t (obj i) in
          cut t.live t.log i b (s.object_ok i h) (record { num = 0 }) 0 b.saved [] b.queued refl refl
          (ap (λ (l : List Entry). l ++ b.queued) (sym (append-nil b.saved))) tt
      one i h false = s.object_ok i h

-- ---- settle

-- a version's value and writer
abbrev pub entry_of : Version → Entry
entry_of v = record { value = v.value; writer = v.writer }

pub last_version : (rs : List Txn) (v : Version) (es : List Entry) → entry_of (last_or v (map (version_of rs) es)) ≡ last_or (entry_of v) es
unfolding last_or
last_version rs v [] = refl
last_version rs v (e ∷ es) = last_version rs (version_of rs e) es

All-versions : (rs : List Txn) (P : Version → Type 0) (es : List Entry) → All (λ e. P (version_of rs e)) es → All P (map (version_of rs) es)
All-versions rs P [] h = tt
All-versions rs P (e ∷ es) h = (h.0, All-versions rs P es h.1)

pub settled_ok : (ls : List Live) (rs : List Txn) (i : ℕ) (b : Object) → ObjectOk ls rs i b → ObjectOk ls rs i (settled rs b)
unfolding settled latest
settled_ok ls rs i b ok =
    let lead = leading (entry_logged rs) b.saved in
    let rest = after_leading (entry_logged rs) b.saved in
    let v = last_or b.stable (map (version_of rs) lead) in
    let e : chain b ≡ lead ++ (rest ++ b.queued) =
    ap (λ (l : List Entry). l ++ b.queued) (leading_split (entry_logged rs) b.saved) ∙ append_assoc lead rest b.queued in
    let first = Neighbours-front (LoggedFirst rs) b.saved b.queued ok.logged_first in
    let none : All (Unlogged rs) (rest ++ b.queued) =
    (All-append (Unlogged rs) rest b.queued).1 (after_leading_fail (entry_logged rs) b.saved first, ok.logged_saved) in
    let last : last_or (entry_of v) (rest ++ b.queued) ≡ last_or (stable_entry b) (chain b) =
    ap (λ (f : Entry). last_or f (rest ++ b.queued)) (last_version rs b.stable lead)
    ∙ sym (last_append (stable_entry b) lead (rest ++ b.queued))
    ∙ ap (last_or (stable_entry b)) (sym e) in
    record {
      fits = le_trans (omega (arith, length-append lead (rest ++ b.queued), ap length e)) ok.fits;
      stable_fits =
          All-last (λ (w : Version). w.value < 2 ^ 64) b.stable (map (version_of rs) lead) ok.stable_fits
          (All-versions rs (λ w. w.value < 2 ^ 64) lead ((All-append (λ f. f.value < 2 ^ 64) lead (rest ++ b.queued)).0 (subst (All (λ f. f.value < 2 ^ 64)) e ok.entries_fit)).0);
      working_fits = ok.working_fits;
      entries_fit = ((All-append (λ f. f.value < 2 ^ 64) lead (rest ++ b.queued)).0 (subst (All (λ f. f.value < 2 ^ 64)) e ok.entries_fit)).1;
      holder_live = ok.holder_live;
      holder_accessed = ok.holder_accessed;
      holder_unprepared = ok.holder_unprepared;
      holder_depends =
          subst (λ (f : Entry). Held b → T (is_live ls f.writer) → T (depends_on ls b.holder f.writer)) (sym last) ok.holder_depends;
      once =
          Distinct-back (writers lead) (writers (rest ++ b.queued))
          (subst Distinct (writers_append lead (rest ++ b.queued)) (subst (λ (l : List Entry). Distinct (writers l)) e ok.once));
      accounted = ((All-append (Accounted ls rs i) lead (rest ++ b.queued)).0 (subst (All (Accounted ls rs i)) e ok.accounted)).1;
      logged_first = First-unlogged rs (rest ++ b.queued) none;
      logged_saved = ok.logged_saved;
      logged_rise = Rises-unlogged rs v.at (rest ++ b.queued) none;
      links = Neighbours-back (Linked ls) lead (rest ++ b.queued) (subst (Neighbours (Linked ls)) e ok.links);
      named =
          All-last (Named rs) b.stable (map (version_of rs) lead) ok.named
          (All-versions rs (Named rs) lead
          (All-map (λ f g. inr (number_positive rs f.writer, number_at_most rs f.writer g, ap (λ (x : Txn). x.num) (record_names rs f.writer g))) lead (leading_pass (entry_logged rs) b.saved)));
      zero_free = ok.zero_free;
    }

pub settle_sound : (t : Tables) → Sound t → (o : ℕ) → o < object_count → Sound (settle t (obj o))
unfolding settle
settle_sound t s o h = object_anew t s o (settled t.log (object t (obj o))) h (settled_ok t.live t.log o (object t (obj o)) (s.object_ok o h))

-- ---- restart

-- an object with no lock and no chain is sound whoever is live
pub bare_ok : (ls ms : List Live) (rs : List Txn) (i : ℕ) (b : Object) → ObjectOk ls rs i b → b.holder.num ≡ 0 → chain b ≡ [] → ObjectOk ms rs i b
bare_ok ls ms rs i b ok z e =
    record {
      fits = ok.fits;
      stable_fits = ok.stable_fits;
      working_fits = ok.working_fits;
      entries_fit = ok.entries_fit;
      holder_live = λ h. absurd (h z);
      holder_accessed = λ h. absurd (h z);
      holder_unprepared = λ h. absurd (h z);
      holder_depends = λ h. absurd (h z);
      once = ok.once;
      accounted = subst (All (Accounted ms rs i)) (sym e) tt;
      logged_first = ok.logged_first;
      logged_saved = ok.logged_saved;
      logged_rise = ok.logged_rise;
      links = subst (Neighbours (Linked ms)) (sym e) tt;
      named = ok.named;
      zero_free = ok.zero_free;
    }

-- what storage has of an object, settled, is sound whoever is live
restarted_ok : (ls ms : List Live) (rs : List Txn) (i : ℕ) (b : Object) → ObjectOk ls rs i b → ObjectOk ms rs i (settled rs (durable rs b))
unfolding durable settled
restarted_ok ls ms rs i b ok =
    let kept = keep (entry_logged rs) b.saved in
    let w = keep_front (entry_logged rs) b.saved (Neighbours-front (LoggedFirst rs) b.saved b.queued ok.logged_first) in
    let e : chain b ≡ (kept ++ []) ++ (w.0 ++ b.queued) =
    ap (λ (l : List Entry). l ++ b.queued) w.1 ∙ append_assoc kept w.0 b.queued
    ∙ ap (λ (l : List Entry). l ++ (w.0 ++ b.queued)) (sym (append-nil kept)) in
    let d = cut ls rs i b ok nobody 0 kept [] (w.0 ++ b.queued) refl refl e tt in
    bare_ok ls ms rs i (settled rs (durable rs b)) (settled_ok ls rs i (durable rs b) d) refl
    (append-nil (after_leading (entry_logged rs) kept) ∙ after_leading_none (entry_logged rs) kept (keep_pass (entry_logged rs) b.saved))

-- places that are all free
abbrev no_one : List Live
no_one = row place_count (λ p. free_place)

pub no_one_place : (p : ℕ) → p < place_count → place no_one p ≡ free_place
no_one_place p h = getD_row place_count (λ q. free_place) p free_place h

pub no_one_live : (x : Txn) → T (is_live no_one x) → ⊥
no_one_live x t =
    let a = live_at no_one x t in
    a.somebody (sym a.there ∙ ap (λ (l : Live). l.number.num) (no_one_place (place_of no_one x) a.below))

-- a free place is sound
pub free_ok : (next : Txn) (ls : List Live) (p : ℕ) → PlaceOk next ls p free_place
free_ok next ls p =
    record {
      accessed_fits = lit< tt;
      written_fits = lit< tt;
      prepared_fits = lit< tt;
      depends_fits = lit< tt;
      once = λ q h u. absurd (u refl);
      given = λ u. absurd (u refl);
      written_accessed = λ i h m. m;
      prepared_accessed = λ i h m. m;
      depends_live = λ q h m. absurd (has_zero q m);
      not_on_self = has_zero p;
      zero_free = λ e. (refl, refl, refl, refl);
    }

pub restart_sound : (t : Tables) → Sound t → Sound (restart t)
unfolding restart
restart_sound t s =
    let f : ℕ → Object = λ i. settled t.log (durable t.log (object t (obj i))) in
    record {
      objects_count = length_row object_count f;
      places_count = length_row place_count (λ p. free_place);
      next_low = s.next_low;
      next_high = s.next_high;
      log_ok =
          record {
            fits = s.log_ok.fits;
            once = s.log_ok.once;
            given = s.log_ok.given;
            not_live = All-map (λ x h. no_one_live x) t.log s.log_ok.given;
          };
      place_ok = λ p h. subst (PlaceOk t.next no_one p) (sym (no_one_place p h)) (free_ok t.next no_one p);
      object_ok = λ i h.
          subst (ObjectOk no_one t.log i) (sym (getD_row object_count f i fresh_object h))
          (restarted_ok t.live no_one t.log i (object t (obj i)) (s.object_ok i h));
    }
