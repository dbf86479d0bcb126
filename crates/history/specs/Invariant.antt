-- What grown tables hold of the values written: the invariant that every call carries on.
-- Rests on the rules' Tables, on basics, sound_laws and Accepted. Assumes nothing.
use Rattle.std.specs.Prelude.{◌≡◌, refl, Bool, true, false, List, [], ℕ, ◌<◌, T, length, get_or, set}
use Rattle.std.proofs.Common.{ap, sym, ◌∙◌, subst, ⊎_elim, get_or-set_same, get_or-set_other}
use Rattle.std.proofs.Math.Option.{Option, none, some}
use Rattle.std.proofs.lemmas.List.{get_or-replicate}
use Rattle.rules.specs.Tests.{keep, last_or}
use Rattle.rules.specs.Sets.{has}
use Rattle.rules.specs.Tables.{Txn, Obj, Entry, Object, Live, Tables, obj, object_count, place_count, fresh, fresh_object, free_place, object, place_of, is_live, sets_of, chain, stable_entry, latest}
use Rattle.rules.specs.Steps.{entry_logged}
use Rattle.rules.specs.History.{last_value, last_accepted, or_else}
use Rattle.basics.specs.Ranges.{same_or_other}
use Rattle.basics.specs.Lists.{All}
use Rattle.sound_laws.specs.Means.{Held, Given, Sound}
use Rattle.sound_laws.specs.Live.{live_at}
use Rattle.history.specs.Accepted.{Heard, replayed}

-- ---- the words

-- there is a value
abbrev pub is_some : Option ℕ → Bool
is_some none = false
is_some (some v) = true

-- the transaction has object i among its written ones
abbrev pub wrote : List Live → Txn → ℕ → Bool
wrote ls x i = has (sets_of ls x).written i

-- what each transaction wrote last to object i
abbrev pub heard_of : Heard → ℕ → Txn → Option ℕ
heard_of a i x = a x (obj i)

-- the entry's value is what its writer wrote last, which f says; zero where it wrote nothing
abbrev pub Said : (Txn → Option ℕ) → Entry → Type 0
Said f e = e.value ≡ or_else 0 (f e.writer)

-- the value of the last of some saved entries that is logged, else the stable version's
abbrev pub value_left : List Txn → Object → List Entry → ℕ
value_left rs b es = (last_or (stable_entry b) (keep (entry_logged rs) es)).value

-- ---- the invariant

-- of one object; f says what each transaction wrote to it last
pub record ObjectTrue (f : Txn → Option ℕ) (ls : List Live) (rs : List Txn) (i : ℕ) (b : Object) : Type 0 where
  -- a holder that wrote the object has as its working value what it wrote last: each write sets both
  pub own : Held b → T (wrote ls b.holder i) → b.working ≡ or_else 0 (f b.holder)
  -- before that it has the latest version's: the lock was taken with it, and no one else adds to the chain meanwhile
  pub found : Held b → (T (wrote ls b.holder i) → ⊥) → b.working ≡ (latest b).value
  -- versions are what their writers wrote last: they were queued as such, and who prepared writes no more
  pub stable : Said f (stable_entry b)
  pub entries : All (Said f) (chain b)
  -- what a restart would leave is what replaying the log gives: a commit makes its entry the last logged one
  pub settled : value_left rs b b.saved ≡ replayed f 0 rs

-- of all tables; a says what each transaction wrote last to each object
pub record Truthful (a : Heard) (t : Tables) : Type 0 where
  -- a number not given out wrote nothing: who writes is live
  pub unheard : (x : Txn) → (Given t.next x → ⊥) → (o : Obj) → a x o ≡ none
  -- the set of written objects is what the transaction wrote: each write adds its object
  pub written : (x : Txn) → T (is_live t.live x)
      → (i : ℕ) → i < object_count → wrote t.live x i ≡ is_some (a x (obj i))
  -- each object is true
  pub objects : (i : ℕ) → i < object_count → ObjectTrue (heard_of a i) t.live t.log i (object t (obj i))

-- ---- carrying it on

-- the object with other places, in which its holder has written it, or not, as before
pub seen : (f : Txn → Option ℕ) (ls ms : List Live) (rs : List Txn) (i : ℕ) (b : Object) → ObjectTrue f ls rs i b
    → (Held b → wrote ms b.holder i ≡ wrote ls b.holder i) → ObjectTrue f ms rs i b
seen f ls ms rs i b o e =
    record {
      own = λ h w. o.own h (subst T (e h) w);
      found = λ h w. o.found h (λ u. w (subst T (sym (e h)) u));
      stable = o.stable;
      entries = o.entries;
      settled = o.settled;
    }

-- whoever is live at the places ms was live at ls, with the same written objects
abbrev pub Carries : List Live → List Live → Type 0
Carries ls ms = (x : Txn) → T (is_live ms x) → T (is_live ls x) × ((sets_of ms x).written ≡ (sets_of ls x).written)

-- tables u after t, where no one new is live and nobody wrote
pub carried : (a : Heard) (t u : Tables) → Truthful a t → Sound u → u.next ≡ t.next → Carries t.live u.live
    → ((i : ℕ) → i < object_count → ObjectTrue (heard_of a i) t.live u.log i (object u (obj i)))
    → Truthful a u
carried a t u h s n c o =
    record {
      unheard = λ x g. h.unheard x (subst (λ (m : Txn). Given m x → ⊥) n g);
      written = λ x l i k. ap (λ (w : ℕ). has w i) (c x l).1 ∙ h.written x (c x l).0 i k;
      objects = λ i k.
          seen (heard_of a i) t.live u.live u.log i (object u (obj i)) (o i k)
          (λ m. ap (λ (w : ℕ). has w i) (c (object u (obj i)).holder ((s.object_ok i k).holder_live m)).1);
    }

-- ---- one object set anew

-- an object below the count is in the list
pub object_room : (t : Tables) → Sound t → (o : ℕ) → o < object_count → o < length t.objects
object_room t s o k = subst (λ (n : ℕ). o < n) (sym s.objects_count) k

-- what holds of object o set anew, and of each other object, holds of each
pub set_object : (bs : List Object) (P : ℕ → Object → Type 0) (o : ℕ) (b : Object) → o < length bs → P o b
    → ((i : ℕ) → i < object_count → (i ≡ o → ⊥) → P i (get_or bs i fresh_object))
    → (i : ℕ) → i < object_count → P i (get_or (set bs o b) i fresh_object)
set_object bs P o b h p q i k =
    ⊎_elim
    (λ e. subst (λ (j : ℕ). P j (get_or (set bs o b) j fresh_object)) (sym e)
    (subst (P o) (sym (get_or-set_same bs o b fresh_object h)) p))
    (λ d. subst (P i) (sym (get_or-set_other bs o i b fresh_object d)) (q i k d))
    (same_or_other i o)

-- one object set anew, where nobody wrote
pub one_object : (a : Heard) (t : Tables) → Sound t → Truthful a t → (o : ℕ) (b : Object) → o < object_count
    → ObjectTrue (heard_of a o) t.live t.log o b
    → (i : ℕ) → i < object_count
    → ObjectTrue (heard_of a i) t.live t.log i (get_or (set t.objects o b) i fresh_object)
one_object a t s h o b k p =
    set_object t.objects (λ i c. ObjectTrue (heard_of a i) t.live t.log i c) o b (object_room t s o k) p
    (λ i m d. h.objects i m)

-- ---- the beginning

-- it holds of fresh tables, before anything was asked
pub fresh_truthful : Truthful (last_accepted []) fresh
unfolding fresh last_value keep last_or replayed
fresh_truthful =
    record {
      unheard = λ x g o. refl;
      written = λ x u i h.
          let a = live_at fresh.live x u in
          let free = get_or-replicate place_count (place_of fresh.live x) free_place free_place a.below in
          absurd (a.somebody (sym a.there ∙ ap (λ (l : Live). l.number.num) free));
      objects = λ i h.
          let bare : ObjectTrue (λ x. none) fresh.live [] i fresh_object =
          record {
            own = λ k. absurd (k refl);
            found = λ k. absurd (k refl);
            stable = refl;
            entries = tt;
            settled = refl;
          } in
          subst (ObjectTrue (λ x. none) fresh.live [] i)
          (sym (get_or-replicate object_count i fresh_object fresh_object h)) bare;
    }
