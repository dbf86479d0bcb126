-- The objects: the words' tests pass exactly where the tables' rules hold.
-- Rests on the rules' Layout, on basics, sound_laws, Index, Test, Seats, Found, At and Chained. Assumes nothing.
use Rattle.std.specs.Prelude.{◌≡◌, refl, List, map, ℕ, zero, suc, ◌+◌, ◌-◌, ◌^◌, ◌≤◌, ◌<◌, T, get_or}
use Rattle.std.proofs.Common.{ap, sym, ◌∙◌, subst, inl, inr, ⊎_elim, arith}
use Rattle.rules.specs.Sets.{has}
use Rattle.rules.specs.Tables.{Txn, Live, Entry, txn, nobody, chain_room, place_count, is_live, sets_of, log_number, is_logged, chain, latest}
use Rattle.rules.specs.Sound.{depends_on}
use Rattle.rules.specs.Layout.{stable_writer_at, stable_number_at, holder_at, saved_count_at, queued_count_at, depends_at, no_entry, word, entry_in, live_in, object_in, version_in}
use Rattle.basics.specs.Logic.{is_true, is_false, from_true}
use Rattle.basics.specs.Ranges.{getD_row, same_or_other}
use Rattle.basics.specs.Lists.{All-at}
use Rattle.sound_laws.specs.Means.{Held, Accounted, Linked, LoggedFirst, Named, ObjectOk}
use Rattle.tables.specs.Index.{key}
use Rattle.tables.specs.Test.{count_in, number_in, seat_in, length_in, writer_in, number_before, seat_before, RecordsTest, LoggedTest, LiveTest, HeldTest, EntryTest, StableTest, ObjectTest, PastChain}
use Rattle.tables.specs.Seats.{seat_of_somebody}
use Rattle.tables.specs.Found.{log_in, places_in, log_length, logged_says, number_is, key_number, live_says, place_is, sets_are}
use Rattle.tables.specs.At.{at_All, Distinct-at, at_Distinct, number_above, Rises-at, at_Rises}
use Rattle.tables.specs.Chained.{chain_length, chain_at, queued_length, queued_at, each_entry, of_entry, each_pair, of_pair, writer_at, writers_length, latest_first, latest_at}

-- who is logged is not live
abbrev pub Apart : List ℕ → Type 0
Apart ws = (x : ℕ) → 0 < number_in ws x → seat_in ws x < place_count → ⊥

module _ (ws : List ℕ) (o : ℕ) where
  -- ---- who is logged, who is live, and who depends on whom, by number

  logged_of : (x : ℕ) → 0 < number_in ws x → T (is_logged (log_in ws) (txn x))
  logged_of x = (logged_says ws x).1

  has_set : (set : Live → ℕ) (x i : ℕ) → seat_in ws x < place_count → T (has (set (live_in ws (seat_in ws x))) i)
      → T (has (set (sets_of (places_in ws) (txn x))) i)
  has_set set x i h t = subst (λ (l : Live). T (has (set l) i)) (sym (sets_are ws x h)) t

  set_has : (set : Live → ℕ) (x i : ℕ) → seat_in ws x < place_count → T (has (set (sets_of (places_in ws) (txn x))) i)
      → T (has (set (live_in ws (seat_in ws x))) i)
  set_has set x i h t = subst (λ (l : Live). T (has (set l) i)) (sets_are ws x h) t

  depends_of : (x y : ℕ) → seat_in ws x < place_count → seat_in ws y < place_count
      → T (has (word ws (depends_at + seat_in ws x)) (seat_in ws y)) → T (depends_on (places_in ws) (txn x) (txn y))
  depends_of x y h k t =
      subst (λ (p : ℕ). T (has (sets_of (places_in ws) (txn x)).depends p)) (sym (place_is ws y k))
      (has_set (λ l. l.depends) x (seat_in ws y) h t)

  of_depends : (x y : ℕ) → seat_in ws x < place_count → seat_in ws y < place_count
      → T (depends_on (places_in ws) (txn x) (txn y)) → T (has (word ws (depends_at + seat_in ws x)) (seat_in ws y))
  of_depends x y h k t =
      set_has (λ l. l.depends) x (seat_in ws y) h
      (subst (λ (p : ℕ). T (has (sets_of (places_in ws) (txn x)).depends p)) (place_is ws y k) t)

  -- the stable version's record
  stable_record : (k : ℕ) → 0 < k → k ≤ count_in ws → (get_or (log_in ws) (k - 1) nobody).num ≡ word ws (k + 1)
  stable_record k h m =
      ap (λ (x : Txn). x.num) (getD_row (count_in ws) (λ i. txn (key ws i)) (k - 1) nobody (omega arith))
      ∙ ap (word ws) (omega arith)

  module _ (values : (k : ℕ) → word ws k < 2 ^ 64) (r : RecordsTest ws) (apart : Apart ws) where
    -- ---- words that pass

    module _ (t : ObjectTest ws o) where
      entry : (j : ℕ) → j < length_in ws o → EntryTest ws o j
      entry = t.chain.entries

      -- the writer of a logged or a live entry
      logged_test : (j : ℕ) (h : j < length_in ws o) → T (is_logged (log_in ws) (txn (writer_in ws o j)))
          → LoggedTest j (word ws (saved_count_at + o)) (number_before ws o j) (number_in ws (writer_in ws o j))
      logged_test j h u = (entry j h).logged ((logged_says ws (writer_in ws o j)).0 u)

      unlogged : (x : ℕ) → seat_in ws x < place_count → number_in ws x ≡ 0
      unlogged x h = let f : 0 < number_in ws x → ⊥ = λ k. apart x k h in omega arith

      first_logged : (j : ℕ) → suc j < length_in ws o → T (is_logged (log_in ws) (txn (writer_in ws o (suc j))))
          → T (is_logged (log_in ws) (txn (writer_in ws o j)))
      first_logged j h u = logged_of (writer_in ws o j) ((logged_test (suc j) h u).first (omega arith))

      stable_unseated : seat_in ws (word ws (stable_writer_at + o)) < place_count → ⊥
      stable_unseated h =
          let n = word ws (stable_number_at + o) in
          let x = word ws (stable_writer_at + o) in
          ⊎_elim
          (λ e. seat_of_somebody ws x h (t.stable.fresh e).1)
          (λ d.
          let m = t.stable.named (omega arith) in
          apart x (key_number ws x (n - 1) (omega (arith, m.0)) (ap (word ws) (omega arith) ∙ m.1)) h)
          (same_or_other n 0)

      -- the last entry that is live, or the stable version, which is not
      latest_seat : (n : ℕ) → length_in ws o ≡ n → T (is_live (places_in ws) (latest (object_in ws o)).writer)
          → (y : ℕ) × ((latest (object_in ws o)).writer ≡ txn y) × (seat_in ws y ≡ seat_before ws o n) × (seat_in ws y < place_count)
      latest_seat zero e u =
          let w = ap (λ (v : Entry). v.writer) (latest_first ws o t.fits e) in
          absurd (stable_unseated ((live_says ws (word ws (stable_writer_at + o))).0 (subst (λ (x : Txn). T (is_live (places_in ws) x)) w u)))
      latest_seat (suc m) e u =
          let w = ap (λ (v : Entry). v.writer) (latest_at ws o t.fits m e) in
          (writer_in ws o m, w, refl, (live_says ws (writer_in ws o m)).0 (subst (λ (x : Txn). T (is_live (places_in ws) x)) w u))

      held : Held (object_in ws o) → HeldTest ws o (seat_before ws o (length_in ws o)) (seat_in ws (word ws (holder_at + o)))
      held = t.chain.holder.held

      named : Named (log_in ws) (version_in ws o)
      named =
          ⊎_elim
          (λ e. inl ((t.stable.fresh e).0, (t.stable.fresh e).1, e))
          (λ d.
          let n = word ws (stable_number_at + o) in
          let m = t.stable.named (omega arith) in
          inr (omega arith, omega (arith, m.0, log_length ws), stable_record n (omega arith) m.0 ∙ m.1))
          (same_or_other (word ws (stable_number_at + o)) 0)

      accounted : (j : ℕ) → j < length_in ws o → Accounted (places_in ws) (log_in ws) o (entry_in ws o j)
      accounted j h =
          let x = writer_in ws o j in
          ⊎_elim
          (λ e.
          let l = (entry j h).live e in
          inr ((live_says ws x).1 l.live, has_set (λ v. v.written) x o l.live l.in_set, has_set (λ v. v.prepared) x o l.live (from_true _ l.as_asked)))
          (λ d. inl (logged_of x (omega arith)))
          (same_or_other (number_in ws x) 0)

      rises : (j : ℕ) → j < length_in ws o → T (is_logged (log_in ws) (txn (writer_in ws o j)))
          → number_before ws o j < (log_number (log_in ws) (txn (writer_in ws o j))).num
      rises j h u = omega (arith, (logged_test j h u).rises, number_is ws (writer_in ws o j) r u)

      above : (j : ℕ) → j < length_in ws o → T (is_logged (log_in ws) (txn (writer_in ws o j)))
          → number_above (log_in ws) no_entry (object_in ws o).stable.at (chain (object_in ws o)) j ≡ number_before ws o j
      above zero h u = refl
      above (suc j) h u =
          ap (λ (e : Entry). (log_number (log_in ws) e.writer).num) (chain_at ws o t.fits j (omega arith))
          ∙ number_is ws (writer_in ws o j) r (first_logged j h u)

      linked : (j : ℕ) → suc j < length_in ws o → Linked (places_in ws) (entry_in ws o j) (entry_in ws o (suc j))
      linked j h u v =
          let x = writer_in ws o (suc j) in
          let y = writer_in ws o j in
          let k = (live_says ws x).0 v in
          let m = (live_says ws y).0 u in
          depends_of x y k m (((entry (suc j) h).live (unlogged x k)).linked m)

      pub object_ok : ObjectOk (places_in ws) (log_in ws) o (object_in ws o)
      object_ok =
          let x = word ws (holder_at + o) in
          record {
            fits = rw (chain_length ws o t.fits) t.fits;
            stable_fits = values _;
            working_fits = values _;
            entries_fit = each_entry ws o t.fits (λ e. e.value < 2 ^ 64) (λ j h. values _);
            holder_live = λ k. (live_says ws x).1 (held k).live;
            holder_accessed = λ k. has_set (λ l. l.accessed) x o (held k).live (held k).in_set;
            holder_unprepared = λ k u. subst T (held k).as_asked (set_has (λ l. l.prepared) x o (held k).live u);
            holder_depends = λ k u.
                let w = latest_seat (length_in ws o) refl u in
                subst (λ (y : Txn). T (depends_on (places_in ws) (txn x) y)) (sym w.1)
                (depends_of x w.0 (held k).live w.3
                (subst (λ (s : ℕ). T (has (word ws (depends_at + seat_in ws x)) s)) (sym w.2) ((held k).linked (omega (arith, w.2, w.3)))));
            once =
                at_Distinct nobody (map (λ e. e.writer) (chain (object_in ws o)))
                (λ i j h k e.
                let m : j < length_in ws o = omega (arith, writers_length ws o t.fits) in
                let l : i < length_in ws o = omega arith in
                (entry j m).other i h
                (ap (λ (y : Txn). y.num) (sym (writer_at ws o t.fits i l)) ∙ e ∙ ap (λ (y : Txn). y.num) (writer_at ws o t.fits j m)));
            accounted = each_entry ws o t.fits (Accounted (places_in ws) (log_in ws) o) accounted;
            logged_first = each_pair ws o t.fits (LoggedFirst (log_in ws)) first_logged;
            logged_saved =
                at_All no_entry (λ e. T (is_logged (log_in ws) e.writer) → ⊥) (object_in ws o).queued
                (λ j h u.
                let k : j < word ws (queued_count_at + o) = omega (arith, queued_length ws o t.fits) in
                let i = word ws (saved_count_at + o) + j in
                omega (
                  arith,
                  (logged_test i (omega arith)
                      (subst (λ (e : Entry). T (is_logged (log_in ws) e.writer)) (queued_at ws o t.fits j k) u)).is_saved,
                ));
            logged_rise =
                at_Rises (log_in ws) no_entry (object_in ws o).stable.at (chain (object_in ws o))
                (λ j h u.
                let k : j < length_in ws o = omega (arith, chain_length ws o t.fits) in
                let e = chain_at ws o t.fits j k in
                let v = subst (λ (w : Entry). T (is_logged (log_in ws) w.writer)) e u in
                rw (e, above j k v) (rises j k v));
            links = each_pair ws o t.fits (Linked (places_in ws)) linked;
            named = named;
            zero_free = t.chain.holder.free;
          }

    -- ---- objects that the rules hold of

    module _ (fits : length_in ws o ≤ chain_room) (k : ObjectOk (places_in ws) (log_in ws) o (object_in ws o)) where
      before_logged : (j : ℕ) → suc j < length_in ws o → 0 < number_in ws (writer_in ws o (suc j)) → 0 < number_in ws (writer_in ws o j)
      before_logged j h n =
          (logged_says ws (writer_in ws o j)).0
          (of_pair ws o fits (LoggedFirst (log_in ws)) k.logged_first j h (logged_of (writer_in ws o (suc j)) n))

      above_is : (j : ℕ) → j < length_in ws o → 0 < number_in ws (writer_in ws o j)
          → number_above (log_in ws) no_entry (object_in ws o).stable.at (chain (object_in ws o)) j ≡ number_before ws o j
      above_is zero h n = refl
      above_is (suc j) h n =
          ap (λ (e : Entry). (log_number (log_in ws) e.writer).num) (chain_at ws o fits j (omega arith))
          ∙ number_is ws (writer_in ws o j) r (logged_of (writer_in ws o j) (before_logged j h n))

      rises_test : (j : ℕ) → j < length_in ws o → 0 < number_in ws (writer_in ws o j) → number_before ws o j < number_in ws (writer_in ws o j)
      rises_test j h n =
          let e = chain_at ws o fits j h in
          let u = logged_of (writer_in ws o j) n in
          let m =
          rw e at (Rises-at (log_in ws) no_entry (object_in ws o).stable.at (chain (object_in ws o)) k.logged_rise j (rw (chain_length ws o fits) h)
          (subst (λ (w : Entry). T (is_logged (log_in ws) w.writer)) (sym e) u)) in
          omega (arith, m, above_is j h n, number_is ws (writer_in ws o j) r u)

      saved_test : (j : ℕ) → j < length_in ws o → 0 < number_in ws (writer_in ws o j) → word ws (saved_count_at + o) ≤ j → ⊥
      saved_test j h n m =
          let q = j - word ws (saved_count_at + o) in
          let l : q < word ws (queued_count_at + o) = omega arith in
          let e = queued_at ws o fits q l ∙ ap (entry_in ws o) (let z : word ws (saved_count_at + o) + q ≡ j = omega arith in z) in
          All-at (λ v. T (is_logged (log_in ws) v.writer) → ⊥) (object_in ws o).queued q no_entry k.logged_saved (rw (queued_length ws o fits) l)
          (subst (λ (v : Entry). T (is_logged (log_in ws) v.writer)) (sym e) (logged_of (writer_in ws o j) n))

      first_test : (j : ℕ) → j < length_in ws o → 0 < number_in ws (writer_in ws o j) → 0 < j → 0 < number_before ws o j
      first_test zero h n z = absurd (omega arith)
      first_test (suc j) h n z = before_logged j h n

      linked_test : (j : ℕ) → j < length_in ws o → seat_in ws (writer_in ws o j) < place_count → seat_before ws o j < place_count
          → T (has (word ws (depends_at + seat_in ws (writer_in ws o j))) (seat_before ws o j))
      linked_test zero h s m = absurd (omega arith)
      linked_test (suc j) h s m =
          of_depends (writer_in ws o (suc j)) (writer_in ws o j) s m
          (of_pair ws o fits (Linked (places_in ws)) k.links j h ((live_says ws (writer_in ws o j)).1 m) ((live_says ws (writer_in ws o (suc j))).1 s))

      live_test : (j : ℕ) → j < length_in ws o → number_in ws (writer_in ws o j) ≡ 0
          → LiveTest ws o (seat_before ws o j) (seat_in ws (writer_in ws o j))
      live_test j h z =
          let x = writer_in ws o j in
          ⊎_elim
          (λ u. absurd (omega (arith, (logged_says ws x).0 u)))
          (λ a.
          let s = (live_says ws x).0 a.0 in
          record {
            live = s;
            in_set = set_has (λ l. l.written) x o s a.1;
            as_asked = is_true _ (set_has (λ l. l.prepared) x o s a.2);
            linked = linked_test j h s;
          })
          (of_entry ws o fits (Accounted (places_in ws) (log_in ws) o) k.accounted j h)

      other_test : (j : ℕ) → j < length_in ws o → (i : ℕ) → i < j → writer_in ws o i ≡ writer_in ws o j → ⊥
      other_test j h i l e =
          Distinct-at nobody (map (λ v. v.writer) (chain (object_in ws o))) k.once i j l (rw (writers_length ws o fits) h)
          (ap (λ (y : Txn). y.num) (writer_at ws o fits i (omega arith)) ∙ e ∙ ap (λ (y : Txn). y.num) (sym (writer_at ws o fits j h)))

      entry_test : (j : ℕ) → j < length_in ws o → EntryTest ws o j
      entry_test j h =
          record {
            other = other_test j h;
            logged = λ n. record {
              is_saved = (let f : word ws (saved_count_at + o) ≤ j → ⊥ = saved_test j h n in omega arith);
              rises = rises_test j h n;
              first = first_test j h n;
            };
            live = live_test j h;
          }

      -- the holder depends on the last entry, if that is live
      last_test : (d : Held (object_in ws o)) (n : ℕ) → length_in ws o ≡ n → seat_in ws (word ws (holder_at + o)) < place_count
          → seat_before ws o n < place_count → T (has (word ws (depends_at + seat_in ws (word ws (holder_at + o)))) (seat_before ws o n))
      last_test d zero e s m = absurd (omega arith)
      last_test d (suc n) e s m =
          let w = ap (λ (v : Entry). v.writer) (latest_at ws o fits n e) in
          of_depends (word ws (holder_at + o)) (writer_in ws o n) s m
          (subst (λ (y : Txn). T (depends_on (places_in ws) (txn (word ws (holder_at + o))) y)) w
          (k.holder_depends d (subst (λ (y : Txn). T (is_live (places_in ws) y)) (sym w) ((live_says ws (writer_in ws o n)).1 m))))

      held_test : Held (object_in ws o) → HeldTest ws o (seat_before ws o (length_in ws o)) (seat_in ws (word ws (holder_at + o)))
      held_test d =
          let x = word ws (holder_at + o) in
          let s = (live_says ws x).0 (k.holder_live d) in
          record {
            live = s;
            in_set = set_has (λ l. l.accessed) x o s (k.holder_accessed d);
            as_asked = is_false _ (λ u. k.holder_unprepared d (has_set (λ l. l.prepared) x o s u));
            linked = last_test d (length_in ws o) refl s;
          }

      stable_test : StableTest ws o
      stable_test =
          let n = word ws (stable_number_at + o) in
          record {
            fresh = λ e. ⊎_elim (λ z. (z.0, z.1)) (λ m. absurd (omega (arith, m.0))) k.named;
            named = λ h.
                ⊎_elim
                (λ z. absurd (omega (arith, z.2)))
                (λ m.
                let l : n ≤ count_in ws = omega (arith, m.1, log_length ws) in
                (l, sym (stable_record n h l) ∙ m.2))
                k.named;
          }

      pub object_test : PastChain ws o (length_in ws o) → ObjectTest ws o
      object_test past =
          record {
            fits = fits;
            past = past;
            stable = stable_test;
            chain = record { entries = entry_test; holder = record { free = k.zero_free; held = held_test } };
          }
