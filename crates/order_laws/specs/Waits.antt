-- Dependencies never go in a circle: whoever is depended on has prepared something, and from then on gets no dependency
-- more. So every way along dependencies ends, at a transaction that waits for nobody.
-- Rests on the rules' Steps, on basics, falls_laws, sound_laws and Changes. Assumes nothing.
use Rattle.std.specs.Prelude.{◌≡◌, Bool, true, false, cond, ◌⊎◌, length, set}
use Rattle.std.proofs.Math.Path.{refl}
use Rattle.std.proofs.Common.{ap, sym, ◌∙◌, subst, inl, inr}
use Rattle.std.proofs.Math.Logic.{⊎_elim}
use mathlib.Core.List.{List}
use Prim.Native.Nat.{ℕ, ◌<◌}
use Rattle.std.proofs.Math.Dec.{T}
use Rattle.std.proofs.lemmas.List.{get_or-replicate}
use Rattle.rules.specs.Sets.{width, has}
use Rattle.rules.specs.Tables.{Txn, Entry, Live, Tables, obj, object_count, place_count, fresh, free_place, object, place, place_of, is_live, sets_of, chain, stable_entry, latest}
use Rattle.rules.specs.Falls.{fallen}
use Rattle.rules.specs.Steps.{struck, start, take_lock, access, read, set_working, write, prepare, commit, undo, abort, restart}
use Rattle.basics.specs.Logic.{passes_or_fails}
use Rattle.basics.specs.Ranges.{same_or_other}
use Rattle.basics.specs.Lists.{All-last, All-map}
use Rattle.basics.specs.Sets.{has_zero, no_member, some_member, with_member_says, without_member_says}
use Rattle.falls_laws.specs.Falls.{falls_along}
use Rattle.sound_laws.specs.Means.{Used, Sound}
use Rattle.sound_laws.specs.Live.{live_at}
use Rattle.sound_laws.specs.Known.{logged_not_live, stable_not_live}
use Rattle.sound_laws.specs.Places.{set_here, set_elsewhere, set_place}
use Rattle.sound_laws.specs.Storage.{no_one_place}
use Rattle.sound_laws.specs.Access.{and_depends_says, accessing}
use Rattle.sound_laws.specs.Commit
use Rattle.sound_laws.specs.Commit.{MayCommit}
use Rattle.sound_laws.specs.Abort
use Rattle.sound_laws.specs.Abort.{Closed}
use Rattle.order_laws.specs.Changes.{Accessing, taken, Change, quiet, started, has_read, has_written, has_prepared, committed, aborted, restarted}

-- the transaction at place p depends on the one at place q
abbrev pub Depends : List Live → ℕ → ℕ → Type 0
Depends ls p q = T (has (place ls p).depends q)

-- nothing at the place is prepared
abbrev pub Unprepared : List Live → ℕ → Type 0
Unprepared ls p = (place ls p).prepared ≡ 0

-- every way along dependencies from place p ends
pub data Ends (ls : List Live) : ℕ → Type 0 where
  ends : (p : ℕ) → ((q : ℕ) → q < place_count → Depends ls p q → Ends ls q) → Ends ls p

-- dependencies do not go in a circle
pub record NoCircle (ls : List Live) : Type 0 where
  -- a dependency arises on the writer of a chain's entry, which has prepared that object
  pub on_prepared : (p q : ℕ) → p < place_count → q < place_count → Depends ls p q → Unprepared ls q → ⊥
  -- a dependency arises for one that has prepared nothing, on whom nobody depends, so no way comes back
  pub all_end : (p : ℕ) → p < place_count → Ends ls p

-- ---- no dependency more

-- the dependency of p on q is one of ls, and q has in ms prepared what it had in ls
abbrev IsOld : List Live → List Live → ℕ → ℕ → Type 0
IsOld ls ms p q = Depends ls p q × (Unprepared ms q → Unprepared ls q)

-- each dependency of ms is an old one
abbrev Fewer : List Live → List Live → Type 0
Fewer ls ms = (p q : ℕ) → p < place_count → q < place_count → Depends ms p q → IsOld ls ms p q

-- a dependency at a place that is known
depends_at : (ls : List Live) (p q : ℕ) (l : Live) → place ls p ≡ l → Depends ls p q → T (has l.depends q)
depends_at ls p q l e = subst (λ (i : Live). T (has i.depends q)) e

module _ (ls ms : List Live) (f : Fewer ls ms) where
  ends_still : (p : ℕ) → p < place_count → Ends ls p → Ends ms p
  ends_still p k (ends _ g) = ends p (λ q h m. ends_still q h (g q h (f p q k h m).0))

  fewer : NoCircle ls → NoCircle ms
  fewer n =
      record {
        on_prepared = λ p q k h m u. let w = f p q k h m in n.on_prepared p q k h w.0 (w.1 u);
        all_end = λ p k. ends_still p k (n.all_end p k);
      }

-- places without dependencies
none_depends : (ls : List Live) → ((p : ℕ) → p < place_count → place ls p ≡ free_place) → NoCircle ls
none_depends ls free =
    record {
      on_prepared = λ p q k h m u. none p q k m;
      all_end = λ p k. ends p (λ q h m. absurd (none p q k m));
    }
  where
    none : (p q : ℕ) → p < place_count → Depends ls p q → ⊥
    none p q k m = has_zero q (depends_at ls p q free_place (free p k) m)

-- fresh tables have no dependencies
pub fresh_waits : NoCircle fresh.live
unfolding fresh
fresh_waits = none_depends fresh.live (λ p k. get_or-replicate place_count p free_place free_place k)

-- ---- dependencies more for one that has prepared nothing

module _ (ls ms : List Live) (p : ℕ) (n : NoCircle ls) (unprepared : Unprepared ls p)
    (others : (r q : ℕ) → r < place_count → q < place_count → (r ≡ p → ⊥) → Depends ms r q → Depends ls r q)
    (its_own : (q : ℕ) → q < place_count → Depends ms p q → Unprepared ls q → ⊥)
    (prepared : (q : ℕ) → Unprepared ms q → Unprepared ls q) where
  not_it : (q : ℕ) → (Unprepared ls q → ⊥) → q ≡ p → ⊥
  not_it q f e = f (ap (λ (i : ℕ). (place ls i).prepared) e ∙ unprepared)

  other_ends : (r : ℕ) → r < place_count → (r ≡ p → ⊥) → Ends ls r → Ends ms r
  other_ends r h d (ends _ g) =
      ends r λ q j m.
      let w = others r q h j d m in
      other_ends q j (not_it q (n.on_prepared r q h j w)) (g q j w)

  more : NoCircle ms
  more =
      record {
        on_prepared = λ r q h j m u.
            ⊎_elim
            (λ e. its_own q j (subst (λ (i : ℕ). Depends ms i q) e m) (prepared q u))
            (λ d. n.on_prepared r q h j (others r q h j d m) (prepared q u))
            (same_or_other r p);
        all_end = λ r h.
            ⊎_elim
            (λ e. subst (Ends ms) (sym e) (ends p (λ q j m. other_ends q j (not_it q (its_own q j m)) (n.all_end q j))))
            (λ d. other_ends r h d (n.all_end r h))
            (same_or_other r p);
      }

-- ---- the changes, one by one

module _ (t : Tables) (n : NoCircle t.live) where
  -- one place set anew, with no dependency more and prepared what it had
  placed : Sound t → (p : ℕ) (l : Live) → p < place_count → l.depends ≡ (place t.live p).depends
      → (l.prepared ≡ 0 → Unprepared t.live p) → NoCircle (set t.live p l)
  placed s p l k same prepared =
      let fits : p < length t.live = subst (λ (i : ℕ). p < i) (sym s.places_count) k in
      let alike : Live → Live → Type 0 = λ a b. (b.depends ≡ a.depends) × (b.prepared ≡ 0 → a.prepared ≡ 0) in
      let each = set_place t.live p l fits alike (same, prepared) (λ q. (refl, λ u. u)) in
      fewer t.live (set t.live p l) (λ r q h j m. (subst (λ (d : ℕ). T (has d q)) (each r).0 m, (each q).1)) n

  -- a free place has no dependency, and the newcomer has none
  waits_start : Sound t → taken t < place_count → (place t.live (taken t)).number.num ≡ 0 → NoCircle (start t).live
  unfolding start
  waits_start s k free =
      let z = (s.place_ok (taken t) k).zero_free free in
      placed s (taken t) _ k (sym z.3) (λ u. z.2)

  waits_set_working : Sound t → (x : Txn) (o v : ℕ) → T (is_live t.live x)
      → NoCircle (set_working t x (obj o) v).live
  unfolding set_working
  waits_set_working s x o v live = placed s (place_of t.live x) _ (live_at t.live x live).below refl (λ u. u)

  waits_prepare : Sound t → (x : Txn) (o : ℕ) → T (is_live t.live x) → NoCircle (prepare t x (obj o)).live
  unfolding prepare
  waits_prepare s x o live =
      let p = place_of t.live x in
      let k = (live_at t.live x live).below in
      let old = (place t.live p).prepared in
      placed s p _ k refl
      (λ u. no_member width old (s.place_ok p k).prepared_fits
      (λ i j m. has_zero i (subst (λ (r : ℕ). T (has r i)) u ((with_member_says old o i j).1 (inl m)))))

  -- the writer of a latest version has prepared it, if it is live
  latest_prepared : Sound t → (o : ℕ) → o < object_count
      → let y = (latest (object t (obj o))).writer in
      T (is_live t.live y) → Unprepared t.live (place_of t.live y) → ⊥
  unfolding latest
  latest_prepared s o k =
      let b = object t (obj o) in
      let ls = t.live in
      All-last (λ (e : Entry). T (is_live ls e.writer) → Unprepared ls (place_of ls e.writer) → ⊥)
      (stable_entry b) (chain b)
      (λ l u. stable_not_live t s o k l)
      (All-map
      (λ e. ⊎_elim
      (λ g l u. logged_not_live t s e.writer g l)
      (λ w l u. has_zero o (subst (λ (r : ℕ). T (has r o)) u w.2)))
      (chain b) (s.object_ok o k).accounted)

  -- an access may bring a dependency, to one that has prepared nothing and on one that has
  waits_access : Sound t → (x : Txn) (o : ℕ) → Accessing t x o → NoCircle (access t x (obj o)).live
  unfolding access take_lock
  waits_access s x o a = go (has (sets_of t.live x).accessed o)
    where
      p : ℕ
      p = place_of t.live x

      k : p < place_count
      k = (live_at t.live x a.may.live).below

      fits : p < length t.live
      fits = subst (λ (i : ℕ). p < i) (sym s.places_count) k

      go : (b : Bool) → NoCircle (cond b t (take_lock t x (obj o))).live
      go true = n
      go false =
          more t.live (take_lock t x (obj o)).live p n a.unprepared
          (λ r q h j d.
          depends_at (take_lock t x (obj o)).live r q (place t.live r) (set_elsewhere t.live p _ fits r d))
          (λ q j m u.
          ⊎_elim
          (λ w. n.on_prepared p q k j w u)
          (λ w. latest_prepared s o a.may.below w.0 (subst (Unprepared t.live) w.1 u))
          ((and_depends_says t.live (place t.live p) (latest (object t (obj o))).writer q j).0
          (depends_at (take_lock t x (obj o)).live p q _ (set_here t.live p _ fits) m)))
          (set_place t.live p _ fits (λ b c. c.prepared ≡ 0 → b.prepared ≡ 0) (λ u. u) (λ q u. u))

  -- whoever still depends depends on another than the one that commits
  waits_commit : Sound t → (x : Txn) → MayCommit t x → NoCircle (commit t x).live
  unfolding commit
  waits_commit s x may = fewer t.live (commit t x).live (λ r q h j m. go r q h j m (same_or_other r p)) n
    where
      p : ℕ
      p = place_of t.live x

      ms : List Live
      ms = (commit t x).live

      go : (r q : ℕ) → r < place_count → q < place_count → Depends ms r q → (r ≡ p) ⊎ (r ≡ p → ⊥) → IsOld t.live ms r q
      go r q h j m (inl e) = absurd (has_zero q (depends_at ms r q free_place (ap (place ms) e ∙ Commit.here t s x may) m))
      go r q h j m (inr d) =
          let l = place t.live r in
          let v = depends_at ms r q (struck p l) (Commit.elsewhere t s x may r h d) m in
          let w = (without_member_says l.depends p q j).0 v in
          (w.0, λ u. ap (λ (l : Live). l.prepared) (sym (Commit.elsewhere t s x may q j w.1)) ∙ u)

  -- whoever stays depends only on such as stay
  waits_undo : Sound t → (f : ℕ) → Closed t.live f → NoCircle (undo t f).live
  unfolding undo
  waits_undo s f closed = fewer t.live (undo t f).live (λ r q h j m. go r q h j m (passes_or_fails (has f r))) n
    where
      ms : List Live
      ms = (undo t f).live

      go : (r q : ℕ) → r < place_count → q < place_count → Depends ms r q → T (has f r) ⊎ (T (has f r) → ⊥)
          → IsOld t.live ms r q
      go r q h j m (inl u) = absurd (has_zero q (depends_at ms r q free_place (Abort.fallen_place t s f closed r h u) m))
      go r q h j m (inr d) =
          let w = depends_at ms r q (place t.live r) (Abort.kept_place t s f closed r h d) m in
          let kept = Abort.kept_place t s f closed q j (λ v. d (closed r q h j w v)) in
          (w, λ u. ap (λ (l : Live). l.prepared) (sym kept) ∙ u)

-- every change keeps it
pub waits_change : (t : Tables) → NoCircle t.live → Sound t → (u : Tables) → Change t u → NoCircle u.live
unfolding read write abort restart
waits_change t n s u (quiet _ _ _ l) = subst NoCircle (sym l) n
waits_change t n s u (started k free) = waits_start t n s k free
waits_change t n s u (has_read x o a) = waits_access t n s x o a
waits_change t n s u (has_written x o v a) =
    let h = accessing t s x o a.may in
    waits_set_working (access t x (obj o)) (waits_access t n s x o a) h.sound x o v h.live
waits_change t n s u (has_prepared x o h) = waits_prepare t n s x o h.live
waits_change t n s u (committed x may) = waits_commit t n s x may
waits_change t n s u (aborted x live) =
    let p = place_of t.live x in
    waits_undo t n s (fallen t.live p) (falls_along t.live p (live_at t.live x live).below)
waits_change t n s u restarted = none_depends (restart t).live no_one_place

-- ---- who waits for nobody

-- a transaction at some place depends on nobody
pub record Unbound (ls : List Live) : Type 0 where
  pub its_place : ℕ
  pub below : its_place < place_count
  pub used : Used (place ls its_place)
  pub unbound : (place ls its_place).depends ≡ 0

-- from every live transaction the way along dependencies leads to one that waits for nobody
pub someone_unbound : (t : Tables) → Sound t → (p : ℕ) → p < place_count → Used (place t.live p) → Ends t.live p
    → Unbound t.live
someone_unbound t s p k u (ends _ f) =
    go (λ q h m. someone_unbound t s q h ((s.place_ok p k).depends_live q h m) (f q h m)) (same_or_other l.depends 0)
  where
    l : Live
    l = place t.live p

    go : ((q : ℕ) → q < place_count → Depends t.live p q → Unbound t.live) → (l.depends ≡ 0) ⊎ (l.depends ≡ 0 → ⊥)
        → Unbound t.live
    go on (inl e) = record { its_place = p; below = k; used = u; unbound = e }
    go on (inr d) =
        let w = some_member width l.depends (s.place_ok p k).depends_fits d in
        on w.0 w.1 w.2
