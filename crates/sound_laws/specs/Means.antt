-- What the rules of sound tables say, as facts to reason with: of the log, of the live transactions, of one object.
-- `means` and `tests` carry `sound` to these facts and back.
-- Rests on the rules' Sound, and on basics. Assumes nothing.
use Rattle.std.specs.Prelude.{◌≡◌, true, false, ◌&&◌, ◌||◌, ◌⊎◌, ◌↔◌, List, [], ◌∷◌, map, ℕ, suc, ◌^◌, ◌≤◌, ◌<◌, T, ltb, length}
use Rattle.std.proofs.Math.Bool.{Bool, not}
use Rattle.std.proofs.Common.{inl, inr, ⊎_elim}
use Rattle.std.proofs.Math.Dec.{eqb, leb}
use Rattle.rules.specs.Tests.{◌⇒◌, every, all, neighbours}
use Rattle.rules.specs.Sets.{width, has, within}
use Rattle.rules.specs.Tables.{Txn, Lsn, Version, Entry, Object, Live, Tables, obj, nobody, same, object_count, place_count, chain_room, log_room, last_number, object, place, is_free, is_live, sets_of, record_at, log_number, is_logged, chain, latest}
use Rattle.rules.specs.Sound.{Rule, thirty_two_objects, thirty_two_places, log_fits, chains_fit, sets_fit, values_fit, next_in_range, logged_once, logged_given_out, logged_not_live, live_once, live_given_out, written_accessed, prepared_accessed, depends_on_live, depends_not_on_self, holder_live, holder_accessed, holder_unprepared, holder_depends_on_last, chain_once, chain_accounted, logged_first, logged_saved, logged_rise, entry_depends_on_last, stable_named, free_place_zero, free_object_zero, given_out, distinct, a_word, a_set, is_held, depends_on, accounted, linked, rises, is_fresh, is_named, holds, sound}
use Rattle.basics.specs.Logic.{and_says, or_says, not_says, implies_says, equal_says, at_most_says, below_says}
use Rattle.basics.specs.Ranges.{every_says}
use Rattle.basics.specs.Lists.{All, all_says, All-map, Neighbours, neighbours_says, Neighbours-map}
use Rattle.basics.specs.Sets.{within_says}
use Rattle.basics.specs.Rules.{every_rule, by_every_rule}

-- ---- the words of the facts

-- x and y are other transactions
abbrev pub Other : Txn → Txn → Type 0
Other x y = x.num ≡ y.num → ⊥

abbrev pub Distinct : List Txn → Type 0
Distinct [] = Unit {0}
Distinct (x ∷ xs) = All (Other x) xs × Distinct xs

-- the number was given out
abbrev pub Given : Txn → Txn → Type 0
Given next x = (1 ≤ x.num) × (x.num < next.num)

-- a transaction has the place
abbrev pub Used : Live → Type 0
Used l = l.number.num ≡ 0 → ⊥

abbrev pub Held : Object → Type 0
Held b = b.holder.num ≡ 0 → ⊥

-- an entry of object i is logged, or live with the object in both written and prepared
abbrev pub Accounted : List Live → List Txn → ℕ → Entry → Type 0
Accounted ls rs i e =
    T (is_logged rs e.writer)
    ⊎ (T (is_live ls e.writer) × T (has (sets_of ls e.writer).written i) × T (has (sets_of ls e.writer).prepared i))

-- the later of two entries depends on the earlier if both are live
abbrev pub Linked : List Live → Entry → Entry → Type 0
Linked ls e f = T (is_live ls e.writer) → T (is_live ls f.writer) → T (depends_on ls f.writer e.writer)

-- the earlier of two entries is logged if the later is
abbrev pub LoggedFirst : List Txn → Entry → Entry → Type 0
LoggedFirst rs e f = T (is_logged rs f.writer) → T (is_logged rs e.writer)

-- the logged entries rise in log number, above n
abbrev pub Rises : List Txn → Lsn → List Entry → Type 0
Rises rs n [] = Unit {0}
Rises rs n (e ∷ es) =
    (T (is_logged rs e.writer) → n.num < (log_number rs e.writer).num) × Rises rs (log_number rs e.writer) es

abbrev pub Named : List Txn → Version → Type 0
Named rs v =
    ((v.value ≡ 0) × (v.writer.num ≡ 0) × (v.at.num ≡ 0))
    ⊎ ((1 ≤ v.at.num) × (v.at.num ≤ length rs) × ((record_at rs v.at).num ≡ v.writer.num))

-- ---- the facts

-- of the log
pub record LogOk (next : Txn) (rs : List Txn) (ls : List Live) : Type 0 where
  pub fits : length rs ≤ log_room
  pub once : Distinct rs
  pub given : All (Given next) rs
  pub not_live : All (λ x. T (is_live ls x) → ⊥) rs

-- of the transaction at one place
pub record PlaceOk (next : Txn) (ls : List Live) (p : ℕ) (l : Live) : Type 0 where
  pub accessed_fits : l.accessed < 2 ^ width
  pub written_fits : l.written < 2 ^ width
  pub prepared_fits : l.prepared < 2 ^ width
  pub depends_fits : l.depends < 2 ^ width
  pub once : (q : ℕ) → q < p → Used l → Other l.number (place ls q).number
  pub given : Used l → Given next l.number
  pub written_accessed : (i : ℕ) → i < width → T (has l.written i) → T (has l.accessed i)
  pub prepared_accessed : (i : ℕ) → i < width → T (has l.prepared i) → T (has l.accessed i)
  pub depends_live : (q : ℕ) → q < place_count → T (has l.depends q) → Used (place ls q)
  pub not_on_self : T (has l.depends p) → ⊥
  pub zero_free : l.number.num ≡ 0 → (l.accessed ≡ 0) × (l.written ≡ 0) × (l.prepared ≡ 0) × (l.depends ≡ 0)

-- of one object
pub record ObjectOk (ls : List Live) (rs : List Txn) (i : ℕ) (b : Object) : Type 0 where
  pub fits : length (chain b) ≤ chain_room
  pub stable_fits : b.stable.value < 2 ^ 64
  pub working_fits : b.working < 2 ^ 64
  pub entries_fit : All (λ e. e.value < 2 ^ 64) (chain b)
  pub holder_live : Held b → T (is_live ls b.holder)
  pub holder_accessed : Held b → T (has (sets_of ls b.holder).accessed i)
  pub holder_unprepared : Held b → T (has (sets_of ls b.holder).prepared i) → ⊥
  pub holder_depends : Held b → T (is_live ls (latest b).writer) → T (depends_on ls b.holder (latest b).writer)
  pub once : Distinct (map (λ e. e.writer) (chain b))
  pub accounted : All (Accounted ls rs i) (chain b)
  pub logged_first : Neighbours (LoggedFirst rs) (chain b)
  pub logged_saved : All (λ e. T (is_logged rs e.writer) → ⊥) b.queued
  pub logged_rise : Rises rs b.stable.at (chain b)
  pub links : Neighbours (Linked ls) (chain b)
  pub named : Named rs b.stable
  pub zero_free : b.holder.num ≡ 0 → b.working ≡ 0

-- of all tables
pub record Sound (t : Tables) : Type 0 where
  pub objects_count : length t.objects ≡ object_count
  pub places_count : length t.live ≡ place_count
  pub next_low : 1 ≤ t.next.num
  pub next_high : t.next.num ≤ suc last_number
  pub log_ok : LogOk t.next t.log t.live
  pub place_ok : (p : ℕ) → p < place_count → PlaceOk t.next t.live p (place t.live p)
  pub object_ok : (i : ℕ) → i < object_count → ObjectOk t.live t.log i (object t (obj i))

-- ---- tests and facts

distinct_says : (xs : List Txn) → T (distinct xs) ↔ Distinct xs
unfolding distinct
distinct_says [] = (λ t. t, λ t. t)
distinct_says (x ∷ xs) =
    let s = and_says (all (λ y. not (same x y)) xs) (distinct xs) in
    let a = all_says (λ y. not (same x y)) xs in
    let r = distinct_says xs in (
      λ t. (All-map (λ y h e. (not_says (same x y)).0 h ((equal_says x.num y.num).1 e)) xs (a.0 (s.0 t).0), r.0 (s.0 t).1),
      λ d. s.1 (a.1 (All-map (λ y h. (not_says (same x y)).1 (λ e. h ((equal_says x.num y.num).0 e))) xs d.0), r.1 d.1),
    )

rises_says : (rs : List Txn) (n : Lsn) (es : List Entry) → T (rises rs n es) ↔ Rises rs n es
unfolding rises
rises_says rs n [] = (λ t. t, λ t. t)
rises_says rs n (e ∷ es) =
    let m = log_number rs e.writer in
    let g = is_logged rs e.writer in
    let s = and_says (g ⇒ ltb n.num m.num) (rises rs m es) in
    let i = implies_says g (ltb n.num m.num) in
    let b = below_says n.num m.num in
    let r = rises_says rs m es in
    (λ t. (λ u. b.0 (i.0 (s.0 t).0 u), r.0 (s.0 t).1), λ d. s.1 (i.1 (λ u. b.1 (d.0 u)), r.1 d.1))

accounted_says : (ls : List Live) (rs : List Txn) (i : ℕ) (e : Entry) → T (accounted ls rs i e) ↔ Accounted ls rs i e
accounted_says ls rs i e =
    let g = is_logged rs e.writer in
    let l = is_live ls e.writer in
    let w = has (sets_of ls e.writer).written i in
    let p = has (sets_of ls e.writer).prepared i in
    let o = or_says g (l && w && p) in
    let a = and_says (l && w) p in
    let b = and_says l w in (
      λ t. ⊎_elim inl (λ u. inr ((b.0 (a.0 u).0).0, (b.0 (a.0 u).0).1, (a.0 u).1)) (o.0 t),
      λ d. o.1 (⊎_elim inl (λ u. inr (a.1 (b.1 (u.0, u.1), u.2))) d),
    )

linked_says : (ls : List Live) (e f : Entry) → T (linked ls e f) ↔ Linked ls e f
linked_says ls e f =
    let i = implies_says (is_live ls e.writer && is_live ls f.writer) (depends_on ls f.writer e.writer) in
    let a = and_says (is_live ls e.writer) (is_live ls f.writer) in
    (λ t u v. i.0 t (a.1 (u, v)), λ h. i.1 (λ u. h (a.0 u).0 (a.0 u).1))

named_says : (rs : List Txn) (v : Version) → T (is_fresh v || is_named rs v) ↔ Named rs v
named_says rs v =
    let o = or_says (is_fresh v) (is_named rs v) in
    let a = and_says (eqb v.value 0 && same v.writer nobody) (eqb v.at.num 0) in
    let b = and_says (eqb v.value 0) (same v.writer nobody) in
    let c = and_says (leb 1 v.at.num && leb v.at.num (length rs)) (same (record_at rs v.at) v.writer) in
    let d = and_says (leb 1 v.at.num) (leb v.at.num (length rs)) in (
      λ t. ⊎_elim
          (λ u. inl ((equal_says v.value 0).0 (b.0 (a.0 u).0).0, (equal_says v.writer.num 0).0 (b.0 (a.0 u).0).1, (equal_says v.at.num 0).0 (a.0 u).1))
          (λ u. inr ((at_most_says 1 v.at.num).0 (d.0 (c.0 u).0).0, (at_most_says v.at.num (length rs)).0 (d.0 (c.0 u).0).1, (equal_says (record_at rs v.at).num v.writer.num).0 (c.0 u).1))
          (o.0 t),
      λ h. o.1 (⊎_elim
          (λ u. inl (a.1 (b.1 ((equal_says v.value 0).1 u.0, (equal_says v.writer.num 0).1 u.1), (equal_says v.at.num 0).1 u.2)))
          (λ u. inr (c.1 (d.1 ((at_most_says 1 v.at.num).1 u.0, (at_most_says v.at.num (length rs)).1 u.1), (equal_says (record_at rs v.at).num v.writer.num).1 u.2)))
          h),
    )

-- what says nothing holds of every entry
pub anything : (es : List Entry) → All (λ e. Unit {0}) es
anything [] = tt
anything (e ∷ es) = (tt, anything es)

free_zero : (b : Object) → (b.holder.num ≡ 0 → b.working ≡ 0) → T (not (is_held b) ⇒ eqb b.working 0)
free_zero b f =
    (implies_says (not (is_held b)) (eqb b.working 0)).1
    (λ n. (equal_says b.working 0).1 (f (free (same b.holder nobody) (equal_says b.holder.num 0).0 n)))
  where
    free : (h : Bool) → (T h → b.holder.num ≡ 0) → T (not (not h)) → b.holder.num ≡ 0
    free true g t = g tt
    free false g t = absurd t

-- what turns a rule's test into what it says
ruleset says = (every_says, and_says, or_says, not_says, implies_says, equal_says, at_most_says, below_says, within_says)

module _ (t : Tables) (s : T (sound t)) where
  log_means : LogOk t.next t.log t.live
  unfolding holds
  log_means =
      record {
        fits = simp says at (every_rule t s log_fits);
        once = (distinct_says t.log).0 (every_rule t s logged_once);
        given =
            All-map (λ x h. simp says at h) t.log ((all_says (given_out t.next) t.log).0 (every_rule t s logged_given_out));
        not_live =
            All-map (λ x h. simp says at h) t.log
            ((all_says (λ x. not (is_live t.live x)) t.log).0 (every_rule t s logged_not_live));
      }

  place_means : (p : ℕ) → p < place_count → PlaceOk t.next t.live p (place t.live p)
  unfolding holds
  place_means p h =
      let fit = (simp says at (every_rule t s sets_fit)) p h in
      let zero = (simp says at (every_rule t s free_place_zero)) p h in
      record {
        accessed_fits = fit.0.0.0;
        written_fits = fit.0.0.1;
        prepared_fits = fit.0.1;
        depends_fits = fit.1;
        once = (simp says at (every_rule t s live_once)) p h;
        given = (simp says at (every_rule t s live_given_out)) p h;
        written_accessed = (simp says at (every_rule t s written_accessed)) p h;
        prepared_accessed = (simp says at (every_rule t s prepared_accessed)) p h;
        depends_live = (simp says at (every_rule t s depends_on_live)) p h;
        not_on_self = (simp says at (every_rule t s depends_not_on_self)) p h;
        zero_free = λ e. ((zero e).0.0.0, (zero e).0.0.1, (zero e).0.1, (zero e).1);
      }

  object_means : (i : ℕ) → i < object_count → ObjectOk t.live t.log i (object t (obj i))
  unfolding holds
  object_means i h =
      let b = object t (obj i) in
      let fit = (simp says at (every_rule t s values_fit)) i h in
      record {
        fits = (simp says at (every_rule t s chains_fit)) i h;
        stable_fits = fit.0.0;
        working_fits = fit.0.1;
        entries_fit = All-map (λ e k. simp says at k) (chain b) ((all_says (λ e. a_word e.value) (chain b)).0 fit.1);
        holder_live = (simp says at (every_rule t s holder_live)) i h;
        holder_accessed = (simp says at (every_rule t s holder_accessed)) i h;
        holder_unprepared = (simp says at (every_rule t s holder_unprepared)) i h;
        holder_depends = λ k u. (simp says at (every_rule t s holder_depends_on_last)) i h (k, u);
        once = (distinct_says (map (λ e. e.writer) (chain b))).0 ((simp every_says at (every_rule t s chain_once)) i h);
        accounted =
            All-map (λ e. (accounted_says t.live t.log i e).0) (chain b)
            ((all_says (accounted t.live t.log i) (chain b)).0 ((simp every_says at (every_rule t s chain_accounted)) i h));
        logged_first =
            Neighbours-map {P = λ e. Unit {0}} (λ e f u v r. simp says at r) (chain b) (anything (chain b))
            ((neighbours_says (λ e f. is_logged t.log f.writer ⇒ is_logged t.log e.writer) (chain b)).0
            ((simp every_says at (every_rule t s logged_first)) i h));
        logged_saved =
            All-map (λ e k. simp says at k) b.queued
            ((all_says (λ e. not (is_logged t.log e.writer)) b.queued).0
            ((simp every_says at (every_rule t s logged_saved)) i h));
        logged_rise = (rises_says t.log b.stable.at (chain b)).0 ((simp every_says at (every_rule t s logged_rise)) i h);
        links =
            Neighbours-map {P = λ e. Unit {0}} (λ e f u v r. (linked_says t.live e f).0 r) (chain b) (anything (chain b))
            ((neighbours_says (linked t.live) (chain b)).0 ((simp every_says at (every_rule t s entry_depends_on_last)) i h));
        named = (named_says t.log b.stable).0 ((simp every_says at (every_rule t s stable_named)) i h);
        zero_free = λ e. (simp says at (every_rule t s free_object_zero)) i h (λ k. k e);
      }

  -- sound tables have the facts
  pub means : Sound t
  unfolding holds
  means =
      let next = simp says at (every_rule t s next_in_range) in
      record {
        objects_count = simp says at (every_rule t s thirty_two_objects);
        places_count = simp says at (every_rule t s thirty_two_places);
        next_low = next.0;
        next_high = next.1;
        log_ok = log_means;
        place_ok = place_means;
        object_ok = object_means;
      }

module _ (t : Tables) (s : Sound t) where
  by_place : (f : ℕ → Live → Bool) → ((p : ℕ) → p < place_count → PlaceOk t.next t.live p (place t.live p) → T (f p (place t.live p)))
      → T (every place_count (λ p. f p (place t.live p)))
  by_place f g = (every_says place_count (λ p. f p (place t.live p))).1 (λ p h. g p h (s.place_ok p h))

  by_object : (f : ℕ → Object → Bool) → ((i : ℕ) → ObjectOk t.live t.log i (object t (obj i)) → T (f i (object t (obj i))))
      → T (every object_count (λ i. f i (object t (obj i))))
  by_object f g = (every_says object_count (λ i. f i (object t (obj i)))).1 (λ i h. g i (s.object_ok i h))

  each_rule : (r : Rule) → T (holds r t)
  unfolding holds
  each_rule thirty_two_objects = simp says s.objects_count
  each_rule thirty_two_places = simp says s.places_count
  each_rule log_fits = simp says s.log_ok.fits
  each_rule chains_fit = by_object (λ i b. leb (length (chain b)) chain_room) (λ i k. simp says k.fits)
  each_rule sets_fit =
      by_place (λ i l. a_set l.accessed && a_set l.written && a_set l.prepared && a_set l.depends)
      (λ p h k. simp says (((k.accessed_fits, k.written_fits), k.prepared_fits), k.depends_fits))
  each_rule values_fit =
      by_object (λ i b. a_word b.stable.value && a_word b.working && all (λ e. a_word e.value) (chain b))
      (λ i k. simp (says, all_says) ((k.stable_fits, k.working_fits), All-map (λ e h. simp says h) (chain (object t (obj i))) k.entries_fit))
  each_rule next_in_range = simp says (s.next_low, s.next_high)
  each_rule logged_once = (distinct_says t.log).1 s.log_ok.once
  each_rule logged_given_out = (all_says (given_out t.next) t.log).1 (All-map (λ x h. simp says h) t.log s.log_ok.given)
  each_rule logged_not_live =
      (all_says (λ x. not (is_live t.live x)) t.log).1 (All-map (λ x h. simp says h) t.log s.log_ok.not_live)
  each_rule live_once =
      by_place (λ i l. every i (λ j. not (is_free l) ⇒ not (same l.number (place t.live j).number)))
      (λ p h k. simp says k.once)
  each_rule live_given_out = by_place (λ i l. not (is_free l) ⇒ given_out t.next l.number) (λ p h k. simp says k.given)
  each_rule written_accessed = by_place (λ i l. within l.written l.accessed) (λ p h k. simp says k.written_accessed)
  each_rule prepared_accessed = by_place (λ i l. within l.prepared l.accessed) (λ p h k. simp says k.prepared_accessed)
  each_rule depends_on_live =
      by_place (λ i l. every place_count (λ j. has l.depends j ⇒ not (is_free (place t.live j)))) (λ p h k. simp says k.depends_live)
  each_rule depends_not_on_self = by_place (λ i l. not (has l.depends i)) (λ p h k. simp says k.not_on_self)
  each_rule holder_live = by_object (λ i b. is_held b ⇒ is_live t.live b.holder) (λ i k. simp says k.holder_live)
  each_rule holder_accessed =
      by_object (λ i b. is_held b ⇒ has (sets_of t.live b.holder).accessed i) (λ i k. simp says k.holder_accessed)
  each_rule holder_unprepared =
      by_object (λ i b. is_held b ⇒ not (has (sets_of t.live b.holder).prepared i)) (λ i k. simp says k.holder_unprepared)
  each_rule holder_depends_on_last =
      by_object (λ i b. is_held b && is_live t.live (latest b).writer ⇒ depends_on t.live b.holder (latest b).writer)
      (λ i k. simp says (λ h. k.holder_depends h.0 h.1))
  each_rule chain_once =
      by_object (λ i b. distinct (map (λ e. e.writer) (chain b))) (λ i k. (distinct_says (map (λ e. e.writer) (chain (object t (obj i))))).1 k.once)
  each_rule chain_accounted =
      by_object (λ i b. all (accounted t.live t.log i) (chain b))
      (λ i k. (all_says (accounted t.live t.log i) (chain (object t (obj i)))).1
      (All-map (λ e. (accounted_says t.live t.log i e).1) (chain (object t (obj i))) k.accounted))
  each_rule logged_first =
      let f : Entry → Entry → Bool = λ e f. is_logged t.log f.writer ⇒ is_logged t.log e.writer in
      by_object (λ i b. neighbours f (chain b))
      (λ i k. (neighbours_says f (chain (object t (obj i)))).1
      (Neighbours-map {P = λ e. Unit {0}} (λ e f u v r. simp says r) (chain (object t (obj i))) (anything (chain (object t (obj i)))) k.logged_first))
  each_rule logged_saved =
      by_object (λ i b. all (λ e. not (is_logged t.log e.writer)) b.queued)
      (λ i k. (all_says (λ e. not (is_logged t.log e.writer)) (object t (obj i)).queued).1
      (All-map (λ e h. simp says h) (object t (obj i)).queued k.logged_saved))
  each_rule logged_rise =
      by_object (λ i b. rises t.log b.stable.at (chain b))
      (λ i k. (rises_says t.log (object t (obj i)).stable.at (chain (object t (obj i)))).1 k.logged_rise)
  each_rule entry_depends_on_last =
      by_object (λ i b. neighbours (linked t.live) (chain b))
      (λ i k. (neighbours_says (linked t.live) (chain (object t (obj i)))).1
      (Neighbours-map {P = λ e. Unit {0}} (λ e f u v r. (linked_says t.live e f).1 r) (chain (object t (obj i))) (anything (chain (object t (obj i)))) k.links))
  each_rule stable_named =
      by_object (λ i b. is_fresh b.stable || is_named t.log b.stable) (λ i k. (named_says t.log (object t (obj i)).stable).1 k.named)
  each_rule free_place_zero =
      by_place (λ i l. is_free l ⇒ eqb l.accessed 0 && eqb l.written 0 && eqb l.prepared 0 && eqb l.depends 0)
      (λ p h k. simp says (λ e. let z = k.zero_free e in (((z.0, z.1), z.2), z.3)))
  each_rule free_object_zero =
      by_object (λ i b. not (is_held b) ⇒ eqb b.working 0)
      (λ i k. free_zero (object t (obj i)) k.zero_free)

  -- tables that have the facts are sound
  pub tests : T (sound t)
  tests = by_every_rule t each_rule
