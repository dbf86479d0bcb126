-- Start keeps tables sound.
-- Rests on the rules' Steps, on basics, Means, Live, Known and Places. Assumes nothing.
use Rattle.std.specs.Prelude.{◌≡◌, refl, Bool, List, ℕ, suc, ◌≤◌, ◌<◌, T, length, set}
use Rattle.std.proofs.Common.{ap, sym, ◌∙◌, subst, ⊎_elim, le_refl, arith, lit<, length-set}
use Rattle.std.proofs.Math.Decide.{ℕ_discrete}
use Rattle.rules.specs.Tests.{lowest}
use Rattle.rules.specs.Sets.{has, collect}
use Rattle.rules.specs.Tables.{Txn, Live, Tables, obj, txn, place_count, last_number, object, place, is_free, place_of, is_live, sets_of}
use Rattle.rules.specs.Steps.{free_places, start}
use Rattle.basics.specs.Logic.{equal_says}
use Rattle.basics.specs.Ranges.{lowest_at, same_or_other}
use Rattle.basics.specs.Lists.{All-map, All-zip}
use Rattle.basics.specs.Sets.{has_collect, has_zero}
use Rattle.sound_laws.specs.Means.{Used, PlaceOk, Sound}
use Rattle.sound_laws.specs.Live.{live_at, place_same, live_same}
use Rattle.sound_laws.specs.Known.{live_given, writers_known, latest_known, holder_known}
use Rattle.sound_laws.specs.Places.{Alike, alike_ok, set_here, set_elsewhere}

-- where a place is free, the lowest free place is one
pub lowest_free : (t : Tables) (q : ℕ) → q < place_count → T (is_free (place t.live q))
    → (lowest place_count (has (free_places t)) < place_count) × ((place t.live (lowest place_count (has (free_places t)))).number.num ≡ 0)
unfolding free_places
lowest_free t q h u =
    let f : ℕ → Bool = λ p. is_free (place t.live p) in
    let l = lowest_at place_count (has (collect place_count f)) q h (subst T (sym (has_collect place_count f q h)) u) in
    let p = lowest place_count (has (collect place_count f)) in
    let k : p < place_count = omega (arith, l.0) in
    (k, (equal_says (place t.live p).number.num 0).0 (subst T (has_collect place_count f p k) l.1))

module _ (t : Tables) (s : Sound t) (p : ℕ) (h : p < place_count) (free : (place t.live p).number.num ≡ 0) where
  abbrev newcomer : Live
  newcomer = record { number = t.next; accessed = 0; written = 0; prepared = 0; depends = 0 }

  abbrev after : List Live
  after = set t.live p newcomer

  fits : p < length t.live
  fits = subst (λ (n : ℕ). p < n) (sym s.places_count) h

  pub here : place after p ≡ newcomer
  here = set_here t.live p newcomer fits

  elsewhere : (q : ℕ) → (q ≡ p → ⊥) → place after q ≡ place t.live q
  elsewhere = set_elsewhere t.live p newcomer fits

  -- a transaction of an old number is where it was
  stays : (x : Txn) → (x.num ≡ 0 → ⊥) → x.num < t.next.num → place_of after x ≡ place_of t.live x
  stays x z k =
      place_same after t.live x
      (λ q j e. ⊎_elim (λ d. absurd (new q d e)) (λ d. ap (λ (l : Live). l.number.num) (sym (elsewhere q d)) ∙ e) (same_or_other q p))
      (λ q j e. ⊎_elim (λ d. absurd (z (sym e ∙ ap (λ (r : ℕ). (place t.live r).number.num) d ∙ free))) (λ d. ap (λ (l : Live). l.number.num) (elsewhere q d) ∙ e) (same_or_other q p))
    where
      new : (q : ℕ) → q ≡ p → (place after q).number.num ≡ x.num → ⊥
      new q d e =
          let f : t.next.num ≡ x.num = ap (λ (l : Live). l.number.num) (sym here) ∙ ap (λ (r : ℕ). (place after r).number.num) (sym d) ∙ e in
          omega arith

  -- and has the sets it had
  pub stays_sets : (x : Txn) → T (is_live t.live x) → sets_of after x ≡ sets_of t.live x
  stays_sets x u =
      let a = live_at t.live x u in
      ap (place after) (stays x a.somebody (live_given t s x u).1)
      ∙ elsewhere (place_of t.live x) (λ e. a.somebody (sym a.there ∙ ap (λ (r : ℕ). (place t.live r).number.num) e ∙ free))

  -- whoever is live and of an old number was live
  pub was_live : (x : Txn) → x.num < t.next.num → T (is_live after x) → T (is_live t.live x)
  was_live x k u = subst T (live_same after t.live x (stays x (live_at after x u).somebody k)) u

  still_live : (x : Txn) → T (is_live t.live x) → T (is_live after x)
  still_live x u =
      subst T (sym (live_same after t.live x (stays x (live_at t.live x u).somebody (live_given t s x u).1))) u

  pub seen_alike : (i : ℕ) → Alike t.live after i (λ x. x.num < t.next.num)
  seen_alike i =
      record {
        live = λ x k. still_live x;
        back = was_live;
        accessed = λ x k u. subst (λ (l : Live). T (has l.accessed i)) (sym (stays_sets x u));
        written = λ x k u. subst (λ (l : Live). T (has l.written i)) (sym (stays_sets x u));
        prepared = λ x k u. subst (λ (l : Live). T (has l.prepared i)) (sym (stays_sets x u));
        depends = λ x y j k u v m.
            subst (λ (q : ℕ). T (has (sets_of after x).depends q)) (sym (stays y (live_at t.live y v).somebody k))
            (subst (λ (l : Live). T (has l.depends (place_of t.live y))) (sym (stays_sets x u)) m);
      }

  -- the newcomer's number is new
  new_number : (q : ℕ) → q < place_count → (place t.live q).number.num ≡ t.next.num → ⊥
  new_number q k e =
      let g = (s.place_ok q k).given (λ z. zero_next (sym z ∙ e)) in
      let m = g.1 in
      omega arith
    where
      zero_next : 0 ≡ t.next.num → ⊥
      zero_next z = let l = s.next_low in omega arith

  newcomer_ok : PlaceOk (txn (suc t.next.num)) after p newcomer
  newcomer_ok =
      record {
        accessed_fits = lit< tt;
        written_fits = lit< tt;
        prepared_fits = lit< tt;
        depends_fits = lit< tt;
        once = λ q k u e. new_number q (omega arith) (ap (λ (l : Live). l.number.num) (sym (elsewhere q (λ d. below d k))) ∙ sym e);
        given = λ u. (s.next_low, le_refl (suc t.next.num));
        written_accessed = λ i k m. m;
        prepared_accessed = λ i k m. m;
        depends_live = λ q k m. absurd (has_zero q m);
        not_on_self = has_zero p;
        zero_free = λ e. (refl, refl, refl, refl);
      }
    where
      below : {q : ℕ} → q ≡ p → q < p → ⊥
      below e k = omega arith

  other_ok : (q : ℕ) → q < place_count → (q ≡ p → ⊥) → PlaceOk (txn (suc t.next.num)) after q (place t.live q)
  other_ok q k d =
      let ok = s.place_ok q k in
      record {
        accessed_fits = ok.accessed_fits;
        written_fits = ok.written_fits;
        prepared_fits = ok.prepared_fits;
        depends_fits = ok.depends_fits;
        once = λ r m u e. before r m u e (ℕ_discrete r p);
        given = λ u. ((ok.given u).0, omega (arith, (ok.given u).1));
        written_accessed = ok.written_accessed;
        prepared_accessed = ok.prepared_accessed;
        depends_live = λ r m v e. used r m v e (ℕ_discrete r p);
        not_on_self = ok.not_on_self;
        zero_free = ok.zero_free;
      }
    where
      before : (r : ℕ) → r < q → Used (place t.live q) → (place t.live q).number.num ≡ (place after r).number.num → Dec (r ≡ p) → ⊥
      before r m u e (yes i) = new_number q k (e ∙ ap (λ (j : ℕ). (place after j).number.num) i ∙ ap (λ (l : Live). l.number.num) here)
      before r m u e (no i) = (s.place_ok q k).once r m u (e ∙ ap (λ (l : Live). l.number.num) (elsewhere r i))

      used : (r : ℕ) → r < place_count → T (has (place t.live q).depends r) → (place after r).number.num ≡ 0 → Dec (r ≡ p) → ⊥
      used r m v e (yes i) = (s.place_ok q k).depends_live r m v (ap (λ (j : ℕ). (place t.live j).number.num) i ∙ free)
      used r m v e (no i) = (s.place_ok q k).depends_live r m v (ap (λ (l : Live). l.number.num) (sym (elsewhere r i)) ∙ e)

  started_ok : t.next.num ≤ last_number
      → Sound (record { next = txn (suc t.next.num); log = t.log; live = after; objects = t.objects })
  started_ok room =
      record {
        objects_count = s.objects_count;
        places_count = length-set t.live p newcomer ∙ s.places_count;
        next_low = omega (arith, s.next_low);
        next_high = omega arith;
        log_ok =
            record {
              fits = s.log_ok.fits;
              once = s.log_ok.once;
              given = All-map (λ x g. (g.0, omega (arith, g.1))) t.log s.log_ok.given;
              not_live = All-zip (λ x g f u. f (was_live x g.1 u)) t.log s.log_ok.given s.log_ok.not_live;
            };
        place_ok = λ q k. each q k (ℕ_discrete q p);
        object_ok = λ i k.
            alike_ok t.live after t.log i (object t (obj i)) (λ x. x.num < t.next.num) (seen_alike i) (s.object_ok i k)
            (holder_known t s i k)
            (λ m. subst (λ (l : Live). T (has l.prepared i)) (stays_sets (object t (obj i)).holder ((s.object_ok i k).holder_live m)))
            (writers_known t s i k)
            (latest_known t s i k);
      }
    where
      each : (q : ℕ) → q < place_count → Dec (q ≡ p) → PlaceOk (txn (suc t.next.num)) after q (place after q)
      each q k (yes e) =
          subst (λ (r : ℕ). PlaceOk (txn (suc t.next.num)) after r (place after r)) (sym e)
          (subst (PlaceOk (txn (suc t.next.num)) after p) (sym here) newcomer_ok)
      each q k (no d) = subst (PlaceOk (txn (suc t.next.num)) after q) (sym (elsewhere q d)) (other_ok q k d)

-- start keeps tables sound where a place is free and a number is left
pub start_sound : (t : Tables) → Sound t → (q : ℕ) → q < place_count → T (is_free (place t.live q)) → t.next.num ≤ last_number → Sound (start t)
unfolding start
start_sound t s q h u room =
    let l = lowest_free t q h u in
    started_ok t s (lowest place_count (has (free_places t))) l.0 l.1 room
