-- What a read gives: what the transaction whose version it finds wrote last to the object.
-- Rests on the rules' Steps and History, on basics, sound_laws and Invariant. Assumes nothing.
use Rattle.std.specs.Prelude.{◌≡◌, Bool, cond, ℕ}
use Rattle.std.proofs.Math.Path.{ap}
use Rattle.std.proofs.Common.{sym, ◌∙◌, subst, ⊎_elim, get_or-set_same}
use Rattle.std.proofs.Math.Bool.{true, false}
use Rattle.std.proofs.Math.Dec.{T}
use Rattle.rules.specs.Sets.{has}
use Rattle.rules.specs.Tables.{Txn, Object, Tables, obj, fresh_object, object, place_of, sets_of, chain, stable_entry, latest}
use Rattle.rules.specs.Steps.{held_by, take_lock, access, read}
use Rattle.rules.specs.History.{or_else, found}
use Rattle.basics.specs.Logic.{passes_or_fails, cond_true, cond_false}
use Rattle.basics.specs.Lists.{All-last}
use Rattle.sound_laws.specs.Means.{Held, Sound}
use Rattle.sound_laws.specs.Live.{live_at}
use Rattle.sound_laws.specs.Access.{MayAccess}
use Rattle.history.specs.Accepted.{Heard}
use Rattle.history.specs.Invariant.{wrote, heard_of, Said, ObjectTrue, Truthful, object_room}

module _ (a : Heard) (t : Tables) (s : Sound t) (h : Truthful a t) (x : Txn) (o : ℕ) (may : MayAccess t x o) where
  abbrev b : Object
  b = object t (obj o)

  -- what the writer of the version found wrote last
  abbrev found_value : ℕ
  found_value = or_else 0 (a (found t x (obj o)) (obj o))

  tells : ObjectTrue (heard_of a o) t.live t.log o b
  tells = h.objects o may.below

  -- the latest version is what its writer wrote last
  latest_said : Said (heard_of a o) (latest b)
  unfolding latest
  latest_said = All-last (Said (heard_of a o)) (stable_entry b) (chain b) tells.stable tells.entries

  -- a transaction that has not written the object finds the latest version, and one that has its own
  finds_latest : (T (wrote t.live x o) → ⊥) → (latest b).value ≡ found_value
  unfolding found
  finds_latest f =
      latest_said
      ∙ ap (λ (y : Txn). or_else 0 (a y (obj o))) (sym (cond_false (wrote t.live x o) x (latest b).writer f))

  finds_own : T (wrote t.live x o) → or_else 0 (a x (obj o)) ≡ found_value
  unfolding found
  finds_own w = ap (λ (y : Txn). or_else 0 (a y (obj o))) (sym (cond_true (wrote t.live x o) x (latest b).writer w))

  -- an object that it holds already
  held_gives : b.holder ≡ x → b.working ≡ found_value
  held_gives e =
      ⊎_elim
      (λ w. tells.own held (subst T (sym same) w) ∙ ap (λ (y : Txn). or_else 0 (a y (obj o))) e ∙ finds_own w)
      (λ f. tells.found held (λ w. f (subst T same w)) ∙ finds_latest f)
      (passes_or_fails (wrote t.live x o))
    where
      held : Held b
      held z = (live_at t.live x may.live).somebody (ap (λ (y : Txn). y.num) (sym e) ∙ z)

      same : wrote t.live b.holder o ≡ wrote t.live x o
      same = ap (λ (y : Txn). wrote t.live y o) e

  -- an object whose lock it takes
  taken_gives : (T (has (sets_of t.live x).accessed o) → ⊥)
      → (object (take_lock t x (obj o)) (obj o)).working ≡ found_value
  unfolding take_lock
  taken_gives new =
      let place_fine = s.place_ok (place_of t.live x) (live_at t.live x may.live).below in
      let room = object_room t s o may.below in
      ap (λ (c : Object). c.working)
      (get_or-set_same t.objects o (held_by b x (latest b).value) fresh_object room)
      ∙ finds_latest (λ w. new (place_fine.written_accessed o may.below w))

  -- a read that nothing refuses gives what the writer of the version found wrote last
  pub read_gives : (object (read t x (obj o)) (obj o)).working ≡ or_else 0 (a (found t x (obj o)) (obj o))
  unfolding read access
  read_gives = go (has (sets_of t.live x).accessed o) may.holds (λ f. f)
    where
      go : (c : Bool) → (T c → b.holder ≡ x) → ((T c → ⊥) → T (has (sets_of t.live x).accessed o) → ⊥)
          → (object (cond c t (take_lock t x (obj o))) (obj o)).working ≡ found_value
      go true e new = held_gives (e tt)
      go false e new = taken_gives (new (λ z. z))
