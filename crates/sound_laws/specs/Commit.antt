-- Commit keeps tables sound: the transaction's entries become logged, right after those that were, and nobody waits
-- for it any more.
-- Rests on the rules' Steps, on basics, Means, Live, Logged, Known and Chains. Assumes nothing.
use Rattle.std.specs.Prelude.{◌≡◌, refl, cond, ◌⊎◌, List, [], ◌∷◌, ◌++◌, ℕ, suc, ◌-◌, ◌≤◌, ◌<◌, eqb, length, get_or}
use Rattle.std.proofs.Common.{ap, sym, ◌∙◌, subst, inl, inr, ⊎_elim, arith}
use Rattle.std.proofs.Math.Dec.{T}
use Rattle.std.proofs.Math.ListN.{length-append, get_or-append}
use Rattle.rules.specs.Tests.{row, leading, after_leading}
use Rattle.rules.specs.Sets.{width, has, without_member}
use Rattle.rules.specs.Tables.{Txn, Lsn, Entry, Live, Tables, obj, nobody, object_count, place_count, log_room, free_place, object, place, place_of, is_live, sets_of, log_number, is_logged, chain, latest}
use Rattle.rules.specs.Sound.{depends_on}
use Rattle.rules.specs.Steps.{struck, entry_logged, commit}
use Rattle.basics.specs.Logic.{equal_says, passes_or_fails, cond_true, cond_false}
use Rattle.basics.specs.Ranges.{length_row, getD_row, same_or_other}
use Rattle.basics.specs.Lists.{All, All-map, All-zip, All-append, Neighbours, Neighbours-map, Neighbours-zip, Neighbours-back, leading_split, leading_pass, after_leading_fail}
use Rattle.basics.specs.Sets.{has_zero, no_member, without_member_says, without_member_lt}
use Rattle.sound_laws.specs.Means.{Other, Held, Given, Accounted, Linked, LoggedFirst, Rises, PlaceOk, ObjectOk, Sound}
use Rattle.sound_laws.specs.Live.{At, same_txn, live_at, place_same, live_same, once, place_at}
use Rattle.sound_laws.specs.Logged.{logged_more, logged_new, logged_before, number_stays, number_next, number_at_most}
use Rattle.sound_laws.specs.Known.{live_given, logged_not_live}
use Rattle.sound_laws.specs.Chains.{Distinct-more, Unlogged, Rises-unlogged}
use Rattle.sound_laws.specs.Storage.{free_ok}

-- what commit needs of sound tables
pub record MayCommit (t : Tables) (x : Txn) : Type 0 where
  pub live : T (is_live t.live x)
  pub prepared : (i : ℕ) → i < object_count → T (has (sets_of t.live x).accessed i) → T (has (sets_of t.live x).prepared i)
  -- a written object has no queued entry of the transaction
  pub saved : (i : ℕ) → i < object_count → T (has (sets_of t.live x).written i) → All (λ e. Other e.writer x) (object t (obj i)).queued
  pub no_dependency : (sets_of t.live x).depends ≡ 0
  pub room : suc (length t.log) ≤ log_room

module _ (t : Tables) (s : Sound t) (x : Txn) (may : MayCommit t x) where
  abbrev p : ℕ
  p = place_of t.live x

  abbrev now : ℕ → Live
  now q = cond (eqb q p) free_place (struck p (place t.live q))

  abbrev ms : List Live
  ms = row place_count now

  abbrev rs : List Txn
  rs = t.log ++ x ∷ []

  at : At t.live x p
  at = live_at t.live x may.live

  pub here : place ms p ≡ free_place
  here =
      getD_row place_count now p free_place at.below
      ∙ cond_true (eqb p p) free_place (struck p (place t.live p)) ((equal_says p p).1 refl)

  pub elsewhere : (q : ℕ) → q < place_count → (q ≡ p → ⊥) → place ms q ≡ struck p (place t.live q)
  elsewhere q k d =
      getD_row place_count now q free_place k
      ∙ cond_false (eqb q p) free_place (struck p (place t.live q)) (λ u. d ((equal_says q p).0 u))

  -- ---- who is live

  -- the transaction's own place
  own : (q : ℕ) → q < place_count → (place t.live q).number.num ≡ x.num → q ≡ p
  own q k e = sym (place_at t.live (once t s) x q (record { somebody = at.somebody; below = k; there = e }))

  stays : (y : Txn) → (y.num ≡ 0 → ⊥) → Other y x → place_of ms y ≡ place_of t.live y
  stays y z d =
      place_same ms t.live y
      (λ q k e. ⊎_elim (λ r. absurd (z (sym e ∙ number_here q r))) (λ r. ap (λ (l : Live). l.number.num) (sym (elsewhere q k r)) ∙ e) (same_or_other q p))
      (λ q k e. ⊎_elim (λ r. absurd (d (sym e ∙ ap (λ (j : ℕ). (place t.live j).number.num) r ∙ at.there))) (λ r. ap (λ (l : Live). l.number.num) (elsewhere q k r) ∙ e) (same_or_other q p))
    where
      number_here : (q : ℕ) → q ≡ p → (place ms q).number.num ≡ 0
      number_here q r = ap (λ (j : ℕ). (place ms j).number.num) r ∙ ap (λ (l : Live). l.number.num) here

  gone : T (is_live ms x) → ⊥
  gone u =
      let a = live_at ms x u in
      ⊎_elim
      (λ r. a.somebody (sym a.there ∙ ap (λ (j : ℕ). (place ms j).number.num) r ∙ ap (λ (l : Live). l.number.num) here))
      (λ r. r (own (place_of ms x) a.below (ap (λ (l : Live). l.number.num) (sym (elsewhere (place_of ms x) a.below r)) ∙ a.there)))
      (same_or_other (place_of ms x) p)

  pub other_of : (y : Txn) → T (is_live ms y) → Other y x
  other_of y u e = gone (subst (λ (z : Txn). T (is_live ms z)) (same_txn y x e) u)

  pub was_live : (y : Txn) → T (is_live ms y) → T (is_live t.live y)
  was_live y u = subst T (live_same ms t.live y (stays y (live_at ms y u).somebody (other_of y u))) u

  pub still_live : (y : Txn) → Other y x → T (is_live t.live y) → T (is_live ms y)
  still_live y d u = subst T (sym (live_same ms t.live y (stays y (live_at t.live y u).somebody d))) u

  place_other : (y : Txn) → Other y x → T (is_live t.live y) → place_of t.live y ≡ p → ⊥
  place_other y d u e = d (sym (live_at t.live y u).there ∙ ap (λ (j : ℕ). (place t.live j).number.num) e ∙ at.there)

  pub sets_now : (y : Txn) → Other y x → T (is_live t.live y) → sets_of ms y ≡ struck p (sets_of t.live y)
  sets_now y d u =
      let a = live_at t.live y u in
      ap (place ms) (stays y a.somebody d) ∙ elsewhere (place_of t.live y) a.below (place_other y d u)

  -- a dependency on another stays
  pub depends_now : (y z : Txn) → Other y x → Other z x → T (is_live t.live y) → T (is_live t.live z) → T (depends_on t.live y z) → T (depends_on ms y z)
  depends_now y z d c u v m =
      let a = live_at t.live z v in
      subst (λ (q : ℕ). T (has (sets_of ms y).depends q)) (sym (stays z a.somebody c))
      (subst (λ (l : Live). T (has l.depends (place_of t.live z))) (sym (sets_now y d u))
      ((without_member_says (sets_of t.live y).depends p (place_of t.live z) a.below).1 (m, place_other z c v)))

  -- ---- the log

  pub unlogged : T (is_logged t.log x) → ⊥
  unlogged g = logged_not_live t s x g may.live

  -- whoever precedes the transaction in a chain is logged
  before_logged : (i : ℕ) (e f : Entry) → Accounted t.live t.log i e → Linked t.live e f → f.writer ≡ x → T (is_logged t.log e.writer)
  before_logged i e f a l r =
      ⊎_elim (λ g. g)
      (λ w. absurd
      (has_zero (place_of t.live e.writer)
      (subst (λ (d : ℕ). T (has d (place_of t.live e.writer))) may.no_dependency
      (subst (λ (y : Txn). T (depends_on t.live y e.writer)) r (l w.0 (subst (λ (y : Txn). T (is_live t.live y)) (sym r) may.live))))))
      a

  pub logged_or_x : (y : Txn) → T (is_logged rs y) → T (is_logged t.log y) ⊎ (y ≡ x)
  logged_or_x y g =
      ⊎_elim (λ e. inr (same_txn y x e)) (λ d. inl (logged_before t.log x y d g)) (same_or_other y.num x.num)

  -- entries that were not logged, with x at most at their head, rise above a log number of the old log
  rises_rest : (i : ℕ) (n : Lsn) (es : List Entry) → n.num ≤ length t.log → All (Unlogged t.log) es → All (Accounted t.live t.log i) es
      → Neighbours (Linked t.live) es → Rises rs n es
  rises_rest i n [] k u a r = tt
  rises_rest i n (e ∷ es) k u a r = (
    λ g. ⊎_elim (λ w. absurd (u.0 w)) (λ w. subst (λ (y : Txn). n.num < (log_number rs y).num) (sym w) (head_rises (number_next t.log x unlogged))) (logged_or_x e.writer g),
    Rises-unlogged rs (log_number rs e.writer) es (later e es u.0 u.1 a.0 a.1 r),
  )
    where
      head_rises : (log_number rs x).num ≡ suc (length t.log) → n.num < (log_number rs x).num
      head_rises q = omega arith

      later : (f : Entry) (fs : List Entry) → Unlogged t.log f → All (Unlogged t.log) fs → Accounted t.live t.log i f
          → All (Accounted t.live t.log i) fs → Neighbours (Linked t.live) (f ∷ fs) → All (Unlogged rs) fs
      later f [] v w b c q = tt
      later f (h ∷ hs) v w b c q =
          (λ g. ⊎_elim w.0 (λ j. v (before_logged i f h b q.0 j)) (logged_or_x h.writer g), later h hs w.0 w.1 c.0 c.1 q.1)

  -- logged entries in front keep their numbers
  rises_front : (n : Lsn) (es fs : List Entry) → n.num ≤ length t.log → All (λ e. T (is_logged t.log e.writer)) es → Rises t.log n (es ++ fs)
      → ((m : Lsn) → m.num ≤ length t.log → Rises rs m fs) → Rises rs n (es ++ fs)
  rises_front n [] fs k g r f = f n k
  rises_front n (e ∷ es) fs k g r f =
      let same = number_stays t.log x e.writer g.0 in (
        λ w. subst (λ (m : Lsn). n.num < m.num) (sym same) (r.0 g.0),
        subst (λ (m : Lsn). Rises rs m (es ++ fs)) (sym same)
            (rises_front (log_number t.log e.writer) es fs (number_at_most t.log e.writer g.0) g.1 r.1 f),
      )

  -- ---- one object

  -- the transaction holds nothing: what it accessed it prepared
  holder_other : (i : ℕ) → i < object_count → Held (object t (obj i)) → Other (object t (obj i)).holder x
  holder_other i k h e =
      let ok = s.object_ok i k in
      let r = same_txn (object t (obj i)).holder x e in
      ok.holder_unprepared h
      (subst (λ (y : Txn). T (has (sets_of t.live y).prepared i)) (sym r)
      (may.prepared i k (subst (λ (y : Txn). T (has (sets_of t.live y).accessed i)) r (ok.holder_accessed h))))

  -- no queued entry is the transaction's
  queued_other : (i : ℕ) → i < object_count → All (λ e. Other e.writer x) (object t (obj i)).queued
  queued_other i k = go (passes_or_fails (has (sets_of t.live x).written i))
    where
      go : T (has (sets_of t.live x).written i) ⊎ (T (has (sets_of t.live x).written i) → ⊥) → All (λ e. Other e.writer x) (object t (obj i)).queued
      go (inl m) = may.saved i k m
      go (inr f) =
          All-map
          (λ e. ⊎_elim
          (λ g r. unlogged (subst (λ (y : Txn). T (is_logged t.log y)) (same_txn e.writer x r) g))
          (λ w r. f (subst (λ (y : Txn). T (has (sets_of t.live y).written i)) (same_txn e.writer x r) w.1)))
          (object t (obj i)).queued
          ((All-append (Accounted t.live t.log i) (object t (obj i)).saved (object t (obj i)).queued).0 (s.object_ok i k).accounted).1

  object_fine : (i : ℕ) → i < object_count → ObjectOk ms rs i (object t (obj i))
  object_fine i k =
      let b = object t (obj i) in
      let ok = s.object_ok i k in
      let lead = leading (entry_logged t.log) (chain b) in
      let rest = after_leading (entry_logged t.log) (chain b) in
      let split = leading_split (entry_logged t.log) (chain b) in
      record {
        fits = ok.fits;
        stable_fits = ok.stable_fits;
        working_fits = ok.working_fits;
        entries_fit = ok.entries_fit;
        holder_live = λ h. still_live b.holder (holder_other i k h) (ok.holder_live h);
        holder_accessed = λ h.
            subst (λ (l : Live). T (has l.accessed i)) (sym (sets_now b.holder (holder_other i k h) (ok.holder_live h))) (ok.holder_accessed h);
        holder_unprepared = λ h m.
            ok.holder_unprepared h (subst (λ (l : Live). T (has l.prepared i)) (sets_now b.holder (holder_other i k h) (ok.holder_live h)) m);
        holder_depends = λ h u.
            let v = was_live (latest b).writer u in
            depends_now b.holder (latest b).writer (holder_other i k h) (other_of (latest b).writer u) (ok.holder_live h) v (ok.holder_depends h v);
        once = ok.once;
        accounted = All-map (accounted_now i) (chain b) ok.accounted;
        logged_first =
            Neighbours-zip {P = Accounted t.live t.log i} {Q = LoggedFirst t.log} {R = Linked t.live}
            (λ e f a c q r g. logged_more t.log x e.writer (⊎_elim q (λ j. before_logged i e f a r j) (logged_or_x f.writer g)))
            (chain b) ok.accounted ok.logged_first ok.links;
        logged_saved =
            All-zip {P = λ e. Other e.writer x} {Q = Unlogged t.log} (λ e d f g. f (logged_before t.log x e.writer d g))
            b.queued (queued_other i k) ok.logged_saved;
        logged_rise =
            subst (Rises rs b.stable.at) (sym split)
            (rises_front b.stable.at lead rest (stable_number i k) (leading_pass (entry_logged t.log) (chain b)) (subst (Rises t.log b.stable.at) split ok.logged_rise)
            (λ m j. rises_rest i m rest j
            (after_leading_fail (entry_logged t.log) (chain b) ok.logged_first)
            ((All-append (Accounted t.live t.log i) lead rest).0 (subst (All (Accounted t.live t.log i)) split ok.accounted)).1
            (Neighbours-back (Linked t.live) lead rest (subst (Neighbours (Linked t.live)) split ok.links))));
        links =
            Neighbours-map {P = Accounted t.live t.log i}
            (λ e f a c r u v. depends_now f.writer e.writer (other_of f.writer v) (other_of e.writer u) (was_live f.writer v) (was_live e.writer u) (r (was_live e.writer u) (was_live f.writer v)))
            (chain b) ok.accounted ok.links;
        named = ⊎_elim inl (λ n. inr (n.0, omega (arith, n.1, length-append t.log (x ∷ [])), ap (λ (y : Txn). y.num) (old_record b.stable.at.num n.0 n.1) ∙ n.2)) ok.named;
        zero_free = ok.zero_free;
      }
    where
      accounted_now : (j : ℕ) (e : Entry) → Accounted t.live t.log j e → Accounted ms rs j e
      accounted_now j e =
          ⊎_elim
          (λ g. inl (logged_more t.log x e.writer g))
          (λ w. ⊎_elim
          (λ r. inl (subst (λ (y : Txn). T (is_logged rs y)) (sym (same_txn e.writer x r)) (logged_new t.log x)))
          (λ d. inr (
            still_live e.writer d w.0,
            subst (λ (l : Live). T (has l.written j)) (sym (sets_now e.writer d w.0)) w.1,
            subst (λ (l : Live). T (has l.prepared j)) (sym (sets_now e.writer d w.0)) w.2,
          ))
          (same_or_other e.writer.num x.num))

      stable_number : (j : ℕ) → j < object_count → (object t (obj j)).stable.at.num ≤ length t.log
      stable_number j h = ⊎_elim (λ z. omega (arith, z.2)) (λ n. n.1) (s.object_ok j h).named

      old_record : (n : ℕ) → 1 ≤ n → n ≤ length t.log → get_or rs (n - 1) nobody ≡ get_or t.log (n - 1) nobody
      old_record n h k = get_or-append t.log (x ∷ []) nobody (n - 1) (omega arith)

  -- ---- the places

  place_fine : (q : ℕ) → q < place_count → PlaceOk t.next ms q (place ms q)
  place_fine q k =
      ⊎_elim
      (λ e. subst (PlaceOk t.next ms q) (sym (ap (place ms) e ∙ here)) (free_ok t.next ms q))
      (λ d. subst (PlaceOk t.next ms q) (sym (elsewhere q k d)) (struck_fine d))
      (same_or_other q p)
    where
      struck_fine : (q ≡ p → ⊥) → PlaceOk t.next ms q (struck p (place t.live q))
      struck_fine d =
          let ok = s.place_ok q k in
          let l = place t.live q in
          record {
            accessed_fits = ok.accessed_fits;
            written_fits = ok.written_fits;
            prepared_fits = ok.prepared_fits;
            depends_fits = without_member_lt l.depends p;
            once = λ r h u e. ⊎_elim
                (λ j. u (e ∙ ap (λ (n : ℕ). (place ms n).number.num) j ∙ ap (λ (m : Live). m.number.num) here))
                (λ j. ok.once r h u (e ∙ ap (λ (m : Live). m.number.num) (elsewhere r (omega arith) j)))
                (same_or_other r p);
            given = ok.given;
            written_accessed = ok.written_accessed;
            prepared_accessed = ok.prepared_accessed;
            depends_live = λ r h m e.
                let w = (without_member_says l.depends p r h).0 m in
                ok.depends_live r h w.0 (ap (λ (n : Live). n.number.num) (sym (elsewhere r h w.1)) ∙ e);
            not_on_self = λ m. ok.not_on_self ((without_member_says l.depends p q k).0 m).0;
            zero_free = λ e.
                let z = ok.zero_free e in
                (z.0, z.1, z.2, no_member width (without_member l.depends p) (without_member_lt l.depends p) (λ r h m. has_zero r (subst (λ (n : ℕ). T (has n r)) z.3 ((without_member_says l.depends p r h).0 m).0)));
          }

  pub commit_sound : Sound (commit t x)
  unfolding commit
  commit_sound =
      record {
        objects_count = s.objects_count;
        places_count = length_row place_count now;
        next_low = s.next_low;
        next_high = s.next_high;
        log_ok =
            record {
              fits = omega (arith, length-append t.log (x ∷ []), may.room);
              once = Distinct-more t.log x s.log_ok.once (All-map (λ y f e. f (subst (λ (z : Txn). T (is_live t.live z)) (sym (same_txn y x e)) may.live)) t.log s.log_ok.not_live);
              given = (All-append (Given t.next) t.log (x ∷ [])).1 (s.log_ok.given, (live_given t s x may.live, tt));
              not_live =
                  (All-append (λ y. T (is_live ms y) → ⊥) t.log (x ∷ [])).1
                  (All-map (λ y f u. f (was_live y u)) t.log s.log_ok.not_live, (gone, tt));
            };
        place_ok = place_fine;
        object_ok = object_fine;
      }
