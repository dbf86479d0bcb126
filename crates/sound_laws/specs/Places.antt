-- Places that change while the log stays: when an object that was sound is sound still, and when a place is.
-- Rests on the rules' Tables and Sound, on basics, Means, Live and Chains. Assumes nothing.
use Rattle.std.specs.Prelude.{◌≡◌, refl, ◌⊎◌, List, ℕ, ◌<◌, T, length, get_or, set}
use Rattle.std.proofs.Common.{ap, sym, ◌∙◌, subst, inl, inr, ⊎_elim, length-set, get_or-set_same, get_or-set_other}
use Rattle.std.proofs.Math.Decide.{ℕ_discrete}
use Rattle.rules.specs.Sets.{has}
use Rattle.rules.specs.Tables.{Txn, Object, Live, Tables, obj, object_count, place_count, fresh_object, free_place, object, place, place_of, is_live, sets_of, chain, latest}
use Rattle.rules.specs.Sound.{depends_on}
use Rattle.basics.specs.Lists.{All, All-map, All-zip, Neighbours-map}
use Rattle.sound_laws.specs.Means.{Used, Held, Accounted, PlaceOk, ObjectOk, Sound, anything}
use Rattle.sound_laws.specs.Live.{live_at, place_same, live_same}

-- ---- an object seen with other places

-- the places ms show object i the transactions of a kind as ls did, or with more members in their sets
pub record Alike (ls ms : List Live) (i : ℕ) (Known : Txn → Type 0) : Type 0 where
  pub live : (x : Txn) → Known x → T (is_live ls x) → T (is_live ms x)
  pub back : (x : Txn) → Known x → T (is_live ms x) → T (is_live ls x)
  pub accessed : (x : Txn) → Known x → T (is_live ls x) → T (has (sets_of ls x).accessed i) → T (has (sets_of ms x).accessed i)
  pub written : (x : Txn) → Known x → T (is_live ls x) → T (has (sets_of ls x).written i) → T (has (sets_of ms x).written i)
  pub prepared : (x : Txn) → Known x → T (is_live ls x) → T (has (sets_of ls x).prepared i) → T (has (sets_of ms x).prepared i)
  pub depends : (x y : Txn) → Known x → Known y → T (is_live ls x) → T (is_live ls y) → T (depends_on ls x y) → T (depends_on ms x y)

pub alike_ok : (ls ms : List Live) (rs : List Txn) (i : ℕ) (b : Object) (Known : Txn → Type 0) → Alike ls ms i Known → ObjectOk ls rs i b
    → (Held b → Known b.holder)
    → (Held b → T (has (sets_of ms b.holder).prepared i) → T (has (sets_of ls b.holder).prepared i))
    → All (λ e. Known e.writer) (chain b) → Known (latest b).writer → ObjectOk ms rs i b
alike_ok ls ms rs i b Known a ok known_holder unprepared known known_latest =
    record {
      fits = ok.fits;
      stable_fits = ok.stable_fits;
      working_fits = ok.working_fits;
      entries_fit = ok.entries_fit;
      holder_live = λ h. a.live b.holder (known_holder h) (ok.holder_live h);
      holder_accessed = λ h. a.accessed b.holder (known_holder h) (ok.holder_live h) (ok.holder_accessed h);
      holder_unprepared = λ h m. ok.holder_unprepared h (unprepared h m);
      holder_depends = λ h m.
          let u = a.back (latest b).writer known_latest m in
          a.depends b.holder (latest b).writer (known_holder h) known_latest (ok.holder_live h) u (ok.holder_depends h u);
      once = ok.once;
      accounted =
          All-zip {P = λ e. Known e.writer} {Q = Accounted ls rs i}
          (λ e k. ⊎_elim inl (λ w. inr (a.live e.writer k w.0, a.written e.writer k w.0 w.1, a.prepared e.writer k w.0 w.2)))
          (chain b) known ok.accounted;
      logged_first = ok.logged_first;
      logged_saved = ok.logged_saved;
      logged_rise = ok.logged_rise;
      links =
          Neighbours-map {P = λ e. Known e.writer}
          (λ e f k l r u v. a.depends f.writer e.writer l k (a.back f.writer l v) (a.back e.writer k u) (r (a.back e.writer k u) (a.back f.writer l v)))
          (chain b) known ok.links;
      named = ok.named;
      zero_free = ok.zero_free;
    }

-- ---- a place seen beside other places

-- the place is sound beside places that have old numbers or none before it, and are used where it depends
pub beside_ok : (next : Txn) (ls ms : List Live) (p : ℕ) (l : Live) → PlaceOk next ls p l
    → ((q : ℕ) → q < p → ((place ms q).number.num ≡ (place ls q).number.num) ⊎ ((place ms q).number.num ≡ 0))
    → ((q : ℕ) → q < place_count → T (has l.depends q) → Used (place ls q) → Used (place ms q))
    → PlaceOk next ms p l
beside_ok next ls ms p l ok f g =
    record {
      accessed_fits = ok.accessed_fits;
      written_fits = ok.written_fits;
      prepared_fits = ok.prepared_fits;
      depends_fits = ok.depends_fits;
      once = λ q h u e. ⊎_elim (λ r. ok.once q h u (e ∙ r)) (λ r. u (e ∙ r)) (f q h);
      given = ok.given;
      written_accessed = ok.written_accessed;
      prepared_accessed = ok.prepared_accessed;
      depends_live = λ q h m. g q h m (ok.depends_live q h m);
      not_on_self = ok.not_on_self;
      zero_free = ok.zero_free;
    }

-- ---- one place set anew, its number kept

module _ (ls : List Live) (p : ℕ) (l : Live) (h : p < length ls) where
  pub set_here : place (set ls p l) p ≡ l
  set_here = get_or-set_same ls p l free_place h

  pub set_elsewhere : (q : ℕ) → (q ≡ p → ⊥) → place (set ls p l) q ≡ place ls q
  set_elsewhere q d = get_or-set_other ls p q l free_place d

  -- what goes from the old to the new place, and from any place to itself, goes from ls to the new places
  pub set_place : (R : Live → Live → Type 0) → R (place ls p) l → ((q : ℕ) → R (place ls q) (place ls q)) → (q : ℕ) → R (place ls q) (place (set ls p l) q)
  set_place R r f q = go (ℕ_discrete q p)
    where
      go : Dec (q ≡ p) → R (place ls q) (place (set ls p l) q)
      go (yes e) = subst (λ (j : ℕ). R (place ls j) (place (set ls p l) j)) (sym e) (subst (R (place ls p)) (sym set_here) r)
      go (no d) = subst (R (place ls q)) (sym (set_elsewhere q d)) (f q)

  module _ (number : l.number ≡ (place ls p).number) where
    pub set_number : (q : ℕ) → (place (set ls p l) q).number ≡ (place ls q).number
    set_number = set_place (λ k m. m.number ≡ k.number) number (λ q. refl)

    pub set_place_of : (x : Txn) → place_of (set ls p l) x ≡ place_of ls x
    set_place_of x =
        place_same (set ls p l) ls x
        (λ q k e. ap (λ (y : Txn). y.num) (sym (set_number q)) ∙ e)
        (λ q k e. ap (λ (y : Txn). y.num) (set_number q) ∙ e)

    pub set_live : (x : Txn) → is_live (set ls p l) x ≡ is_live ls x
    set_live x = live_same (set ls p l) ls x (set_place_of x)

    -- a set of the new places has what it had
    pub set_grows : (f : Live → ℕ) (i : ℕ) → (T (has (f (place ls p)) i) → T (has (f l) i)) → (x : Txn)
        → T (has (f (sets_of ls x)) i) → T (has (f (sets_of (set ls p l) x)) i)
    set_grows f i g x m =
        subst (λ (q : ℕ). T (has (f (place (set ls p l) q)) i)) (sym (set_place_of x))
        (set_place (λ k n. T (has (f k) i) → T (has (f n) i)) g (λ q u. u) (place_of ls x) m)

    -- and where the new place has no more, no more
    pub set_back : (f : Live → ℕ) (i : ℕ) → (T (has (f l) i) → T (has (f (place ls p)) i)) → (x : Txn)
        → T (has (f (sets_of (set ls p l) x)) i) → T (has (f (sets_of ls x)) i)
    set_back f i g x m =
        set_place (λ k n. T (has (f n) i) → T (has (f k) i)) g (λ q u. u) (place_of ls x)
        (subst (λ (q : ℕ). T (has (f (place (set ls p l) q)) i)) (set_place_of x) m)

    pub set_alike : (i : ℕ)
        → (T (has (place ls p).accessed i) → T (has l.accessed i))
        → (T (has (place ls p).written i) → T (has l.written i))
        → (T (has (place ls p).prepared i) → T (has l.prepared i))
        → ((q : ℕ) → q < place_count → T (has (place ls p).depends q) → T (has l.depends q))
        → Alike ls (set ls p l) i (λ x. Unit {0})
    set_alike i a w r d =
        record {
          live = λ x k t. subst T (sym (set_live x)) t;
          back = λ x k t. subst T (set_live x) t;
          accessed = λ x k t. set_grows (λ m. m.accessed) i a x;
          written = λ x k t. set_grows (λ m. m.written) i w x;
          prepared = λ x k t. set_grows (λ m. m.prepared) i r x;
          depends = λ x y j k t u m.
              subst (λ (q : ℕ). T (has (sets_of (set ls p l) x).depends q)) (sym (set_place_of y))
              (set_grows (λ n. n.depends) (place_of ls y) (d (place_of ls y) (live_at ls y u).below) x m);
        }

    -- a place that was sound beside the old places is beside the new ones
    pub set_beside : (next : Txn) (q : ℕ) (m : Live) → PlaceOk next ls q m → PlaceOk next (set ls p l) q m
    set_beside next q m ok =
        beside_ok next ls (set ls p l) q m ok
        (λ r k. inl (ap (λ (x : Txn). x.num) (set_number r)))
        (λ r k n u e. u (ap (λ (x : Txn). x.num) (sym (set_number r)) ∙ e))

-- ---- one place and one object set anew

-- what the new place of a transaction has for object i: no member less, and of prepared none more
pub record Grown (l m : Live) (i : ℕ) : Type 0 where
  pub accessed : T (has l.accessed i) → T (has m.accessed i)
  pub written : T (has l.written i) → T (has m.written i)
  pub prepared : T (has l.prepared i) → T (has m.prepared i)
  pub unprepared : T (has m.prepared i) → T (has l.prepared i)

module _ (t : Tables) (s : Sound t) (o p : ℕ) (b : Object) (l : Live) (ho : o < object_count) (hp : p < place_count)
    (number : l.number ≡ (place t.live p).number)
    (depends : (q : ℕ) → q < place_count → T (has (place t.live p).depends q) → T (has l.depends q)) where
  fits : p < length t.live
  fits = subst (λ (n : ℕ). p < n) (sym s.places_count) hp

  fits_object : o < length t.objects
  fits_object = subst (λ (n : ℕ). o < n) (sym s.objects_count) ho

  -- an object that no one holds is seen as before, if the sets grow for it
  pub unheld_ok : (i : ℕ) (c : Object) → (T (has (place t.live p).accessed i) → T (has l.accessed i))
      → (T (has (place t.live p).written i) → T (has l.written i))
      → (T (has (place t.live p).prepared i) → T (has l.prepared i))
      → c.holder.num ≡ 0 → ObjectOk t.live t.log i c → ObjectOk (set t.live p l) t.log i c
  unheld_ok i c a w r z ok =
      alike_ok t.live (set t.live p l) t.log i c (λ x. Unit {0}) (set_alike t.live p l fits number i a w r depends) ok
      (λ h. tt) (λ h. absurd (h z)) (anything (chain c)) tt

  -- any object is, if prepared has no member more for it
  pub grown_ok : (i : ℕ) (c : Object) → Grown (place t.live p) l i → ObjectOk t.live t.log i c → ObjectOk (set t.live p l) t.log i c
  grown_ok i c g ok =
      alike_ok t.live (set t.live p l) t.log i c (λ x. Unit {0})
      (set_alike t.live p l fits number i g.accessed g.written g.prepared depends) ok
      (λ h. tt) (λ h. set_back t.live p l fits number (λ m. m.prepared) i g.unprepared c.holder) (anything (chain c)) tt

  pub placed_sound : PlaceOk t.next t.live p l → ((i : ℕ) → i < object_count → (i ≡ o → ⊥) → Grown (place t.live p) l i)
      → ObjectOk (set t.live p l) t.log o b
      → Sound (record { next = t.next; log = t.log; live = set t.live p l; objects = set t.objects o b })
  placed_sound place_fine grown object_fine =
      record {
        objects_count = length-set t.objects o b ∙ s.objects_count;
        places_count = length-set t.live p l ∙ s.places_count;
        next_low = s.next_low;
        next_high = s.next_high;
        log_ok =
            record {
              fits = s.log_ok.fits;
              once = s.log_ok.once;
              given = s.log_ok.given;
              not_live = All-map (λ x f u. f (subst T (set_live t.live p l fits number x) u)) t.log s.log_ok.not_live;
            };
        place_ok = λ q k. each_place q k (ℕ_discrete q p);
        object_ok = λ i k. each_object i k (ℕ_discrete i o);
      }
    where
      each_place : (q : ℕ) → q < place_count → Dec (q ≡ p) → PlaceOk t.next (set t.live p l) q (place (set t.live p l) q)
      each_place q k (yes e) =
          subst (λ (r : ℕ). PlaceOk t.next (set t.live p l) r (place (set t.live p l) r)) (sym e)
          (subst (PlaceOk t.next (set t.live p l) p) (sym (set_here t.live p l fits)) (set_beside t.live p l fits number t.next p l place_fine))
      each_place q k (no d) =
          subst (PlaceOk t.next (set t.live p l) q) (sym (set_elsewhere t.live p l fits q d))
          (set_beside t.live p l fits number t.next q (place t.live q) (s.place_ok q k))

      each_object : (i : ℕ) → i < object_count → Dec (i ≡ o) → ObjectOk (set t.live p l) t.log i (get_or (set t.objects o b) i fresh_object)
      each_object i k (yes e) =
          subst (λ (j : ℕ). ObjectOk (set t.live p l) t.log j (get_or (set t.objects o b) j fresh_object)) (sym e)
          (subst (ObjectOk (set t.live p l) t.log o) (sym (get_or-set_same t.objects o b fresh_object fits_object)) object_fine)
      each_object i k (no d) =
          subst (ObjectOk (set t.live p l) t.log i) (sym (get_or-set_other t.objects o i b fresh_object d))
          (grown_ok i (object t (obj i)) (grown i k d) (s.object_ok i k))
