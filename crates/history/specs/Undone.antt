-- Abort keeps the values true: those that fall take no logged entry with them, and a holder that stays finds its
-- chain as it was.
-- Rests on the rules' Falls and Steps, on basics, falls_laws, sound_laws, Keeping and Invariant. Assumes nothing.
use Rattle.std.specs.Prelude.{◌≡◌, Bool, not, cond, List, ◌++◌}
use Rattle.std.proofs.Math.Path.{refl, ap, subst}
use Rattle.std.proofs.Common.{sym, ◌∙◌}
use Rattle.std.proofs.Math.Bool.{true, false}
use Prim.Native.Nat.{ℕ, ◌<◌}
use Rattle.std.proofs.Math.Dec.{T}
use Rattle.rules.specs.Tests.{last_or, keep}
use Rattle.rules.specs.Tables.{Txn, Entry, Object, Live, Tables, obj, object_count, fresh_object, object, place_of, is_live, chain, stable_entry, latest}
use Rattle.rules.specs.Falls.{fallen, falls}
use Rattle.rules.specs.Steps.{unlocked, chained, entry_logged, undone, undo, abort}
use Rattle.basics.specs.Logic.{not_says}
use Rattle.basics.specs.Ranges.{getD_row}
use Rattle.basics.specs.Lists.{All, All-map, All-append, All-keep, keep_append, keep_all}
use Rattle.falls_laws.specs.Falls.{falls_along}
use Rattle.sound_laws.specs.Means.{Held, Sound}
use Rattle.sound_laws.specs.Live.{live_at}
use Rattle.sound_laws.specs.Known.{logged_not_live}
use Rattle.sound_laws.specs.Abort.{Closed, falls_live, gone, was_live, sets_now, all_stay, undo_sound}
use Rattle.history.specs.Keeping.{keep_keep}
use Rattle.history.specs.Accepted.{Heard}
use Rattle.history.specs.Invariant.{heard_of, Said, value_left, ObjectTrue, Truthful, carried}

module _ (a : Heard) (t : Tables) (s : Sound t) (h : Truthful a t) (f : ℕ) (closed : Closed t.live f) where
  abbrev stays_on : Entry → Bool
  stays_on e = not (falls t.live f e.writer)

  module _ (i : ℕ) (k : i < object_count) where
    abbrev b : Object
    b = object t (obj i)

    abbrev saved_left : List Entry
    saved_left = keep stays_on b.saved

    abbrev queued_left : List Entry
    queued_left = keep stays_on b.queued

    tells : ObjectTrue (heard_of a i) t.live t.log i b
    tells = h.objects i k

    both_said : All (Said (heard_of a i)) b.saved × All (Said (heard_of a i)) b.queued
    both_said = (All-append (Said (heard_of a i)) b.saved b.queued).0 tells.entries

    entries_left : All (Said (heard_of a i)) (saved_left ++ queued_left)
    entries_left =
        (All-append (Said (heard_of a i)) saved_left queued_left).1 (
          All-keep stays_on (Said (heard_of a i)) b.saved both_said.0,
          All-keep stays_on (Said (heard_of a i)) b.queued both_said.1,
        )

    -- a logged entry stays
    logged_stays : (e : Entry) → T (entry_logged t.log e) → T (stays_on e)
    logged_stays e g =
        (not_says (falls t.live f e.writer)).1
        (λ u. logged_not_live t s e.writer g (falls_live t s f closed e.writer u).0)

    settled_left : value_left t.log b saved_left ≡ value_left t.log b b.saved
    settled_left =
        ap (λ (l : List Entry). (last_or (stable_entry b) l).value)
        (keep_keep (entry_logged t.log) stays_on b.saved
        (All-map (λ e r. logged_stays e) b.saved both_said.0))

    -- what a holder that stays finds is what it found
    latest_stays : Held b → (T (falls t.live f b.holder) → ⊥)
        → latest (chained b saved_left queued_left) ≡ latest b
    unfolding latest
    latest_stays m kept =
        ap (last_or (stable_entry b))
        (sym (keep_append stays_on b.saved b.queued)
        ∙ keep_all stays_on (chain b) (all_stay t s f closed i k m kept))

    undone_true : ObjectTrue (heard_of a i) t.live t.log i (undone t.live f b)
    unfolding undone
    undone_true = go (falls t.live f b.holder) (λ u. u)
      where
        go : (c : Bool) → (T (falls t.live f b.holder) → T c)
            → ObjectTrue (heard_of a i) t.live t.log i (chained (cond c (unlocked b) b) saved_left queued_left)
        go true u =
            record {
              own = λ m. absurd (m refl);
              found = λ m. absurd (m refl);
              stable = tells.stable;
              entries = entries_left;
              settled = settled_left ∙ tells.settled;
            }
        go false u =
            record {
              own = tells.own;
              found = λ m w. tells.found m w ∙ ap (λ (e : Entry). e.value) (sym (latest_stays m u));
              stable = tells.stable;
              entries = entries_left;
              settled = settled_left ∙ tells.settled;
            }

  undo_true : Truthful a (undo t f)
  unfolding undo
  undo_true =
      let g : ℕ → Object = λ i. undone t.live f (object t (obj i)) in
      carried a t (undo t f) h (undo_sound t s f closed) refl
      (λ x u.
      let v = was_live t s f closed x u in
      (v, ap (λ (l : Live). l.written) (sets_now t s f closed x (gone t s f closed x u) v)))
      (λ i k.
      subst (ObjectTrue (heard_of a i) t.live t.log i) (sym (getD_row object_count g i fresh_object k))
      (undone_true i k))

-- abort of a live transaction keeps the values true
pub abort_true : (a : Heard) (t : Tables) → Sound t → Truthful a t → (x : Txn) → T (is_live t.live x)
    → Truthful a (abort t x)
unfolding abort
abort_true a t s h x u =
    let p = place_of t.live x in
    undo_true a t s h (fallen t.live p) (falls_along t.live p (live_at t.live x u).below)
