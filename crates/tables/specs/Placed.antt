-- The log and the places: the words' tests pass exactly where the tables' rules hold.
-- Rests on the rules' Layout, on basics, words_laws, sound_laws, Highest, Index, Test, Seats, Bits, Found and At. Assumes nothing.
use Rattle.std.specs.Prelude.{◌≡◌, refl, List, ℕ, ◌+◌, ◌^◌, ◌≤◌, ◌<◌, eqb, length, get_or}
use Rattle.std.proofs.Common.{ap, sym, ◌∙◌, ⊎_elim, arith}
use Rattle.std.proofs.Math.Path.{subst}
use Rattle.std.proofs.lemmas.Nat.{and_le_r}
use Rattle.std.proofs.Math.Dec.{T}
use Rattle.rules.specs.Sets.{width, has}
use Rattle.rules.specs.Tables.{Txn, Live, txn, nobody, log_room, place_count, place, is_live}
use Rattle.rules.specs.Layout.{next_at, number_at, accessed_at, written_at, prepared_at, depends_at, word, live_in}
use Rattle.basics.specs.Logic.{equal_says, not_says}
use Rattle.basics.specs.Ranges.{length_row, getD_row, lowest_is, same_or_other}
use Rattle.basics.specs.Lists.{All, All-at}
use Rattle.basics.specs.Sets.{collect_lt, has_collect, has_zero}
use Rattle.words_laws.specs.Unpacked.{place_read}
use Rattle.sound_laws.specs.Means.{Distinct, Given, LogOk, PlaceOk}
use Rattle.sound_laws.specs.Live.{at_live}
use Rattle.tables.specs.Highest.{none_highest}
use Rattle.tables.specs.Index.{key, names, number_among}
use Rattle.tables.specs.Test.{count_in, used_in, RecordsTest, FreeTest, UsedTest, PlaceTest, PlacesTest, Unlogged}
use Rattle.tables.specs.Seats.{has_seat, is_used, seat_somebody, seat_found, not_both}
use Rattle.tables.specs.Bits.{and_within, within_and}
use Rattle.tables.specs.Found.{log_in, places_in, key_number, other_records, live_says}
use Rattle.tables.specs.At.{at_All, Distinct-at, at_Distinct}

-- ---- the log

module _ (ws : List ℕ) where
  abbrev pub next_in : Txn
  next_in = txn (word ws next_at)

  record_read : (i : ℕ) → i < count_in ws → get_or (log_in ws) i nobody ≡ txn (key ws i)
  record_read i h = getD_row (count_in ws) (λ j. txn (key ws j)) i nobody h

  size : length (log_in ws) ≡ count_in ws
  size = length_row (count_in ws) (λ j. txn (key ws j))

  -- what holds of every record's transaction
  each_record : (P : Txn → Type 0) → ((i : ℕ) → i < count_in ws → P (txn (key ws i))) → All P (log_in ws)
  each_record P f =
      at_All nobody P (log_in ws)
      (λ i h.
      let k : i < count_in ws = omega (arith, size) in
      subst P (sym (record_read i k)) (f i k))

  of_record : (P : Txn → Type 0) → All P (log_in ws) → (i : ℕ) → i < count_in ws → P (txn (key ws i))
  of_record P a i h = subst P (record_read i h) (All-at P (log_in ws) i nobody a (rw size h))

  -- no transaction of a place is logged
  pub unlogged_places : PlacesTest ws → Unlogged ws
  unlogged_places t p h d = ((t p h).used d).unlogged

  pub log_ok : count_in ws ≤ log_room → RecordsTest ws → PlacesTest ws → LogOk next_in (log_in ws) (places_in ws)
  log_ok fits r t =
      record {
        fits = rw size fits;
        once =
            at_Distinct nobody (log_in ws)
            (λ i j h k e.
            let m : j < count_in ws = omega (arith, size) in
            let l : i < count_in ws = omega arith in
            other_records ws r i j h m
            (ap (λ (x : Txn). x.num) (sym (record_read i l)) ∙ e ∙ ap (λ (x : Txn). x.num) (record_read j m)));
        given = each_record (Given next_in) (λ i h. ((r i h).low, (r i h).high));
        not_live =
            each_record (λ x. T (is_live (places_in ws) x) → ⊥)
            (λ i h u. not_both ws (unlogged_places t) (key ws i) (key_number ws (key ws i) i h refl) ((live_says ws (key ws i)).0 u));
      }

  -- of distinct records each is the first to name its transaction
  first_record : Distinct (log_in ws) → (i : ℕ) → i < count_in ws → number_among ws i (key ws i) ≡ 0
  first_record d i h =
      none_highest (names ws (key ws i)) i
      (λ j k t.
      Distinct-at nobody (log_in ws) d j i k (rw size h)
      (ap (λ (x : Txn). x.num) (record_read j (omega arith))
      ∙ (equal_says (key ws j) (key ws i)).0 t
      ∙ ap (λ (x : Txn). x.num) (sym (record_read i h))))

  pub records_test : LogOk next_in (log_in ws) (places_in ws) → RecordsTest ws
  records_test k i h =
      let g = of_record (Given next_in) k.given i h in
      record { low = g.0; high = g.1; first = first_record k.once i h }

  -- ---- the places

  -- a place is used where its number is in the set of used places
  used_says : (q : ℕ) → q < place_count → T (has (used_in ws) q) → word ws (number_at + q) ≡ 0 → ⊥
  unfolding used_in
  used_says q h t e =
      (not_says (eqb (word ws (number_at + q)) 0)).0 (subst T (has_collect width (is_used ws) q h) t)
      ((equal_says (word ws (number_at + q)) 0).1 e)

  says_used : (q : ℕ) → q < place_count → (word ws (number_at + q) ≡ 0 → ⊥) → T (has (used_in ws) q)
  unfolding used_in
  says_used q h d =
      subst T (sym (has_collect width (is_used ws) q h))
      ((not_says (eqb (word ws (number_at + q)) 0)).1 (λ t. d ((equal_says (word ws (number_at + q)) 0).0 t)))

  used_lt : used_in ws < 2 ^ width
  unfolding used_in
  used_lt = collect_lt width (is_used ws)

  number_at_place : (q : ℕ) → q < place_count → (place (places_in ws) q).number.num ≡ word ws (number_at + q)
  number_at_place q h = ap (λ (l : Live). l.number.num) (place_read ws q h)

  module _ (p : ℕ) (h : p < place_count) where
    free_ok : word ws (number_at + p) ≡ 0 → FreeTest ws p → PlaceOk next_in (places_in ws) p (live_in ws p)
    free_ok e f =
        let none : (s i : ℕ) → s ≡ 0 → T (has s i) → ⊥ = λ s i z t. has_zero i (subst (λ (n : ℕ). T (has n i)) z t) in
        record {
          accessed_fits = omega (arith, f.accessed);
          written_fits = omega (arith, f.written);
          prepared_fits = omega (arith, f.prepared);
          depends_fits = omega (arith, f.depends);
          once = λ q k u. absurd (u e);
          given = λ u. absurd (u e);
          written_accessed = λ i k t. absurd (none (word ws (written_at + p)) i f.written t);
          prepared_accessed = λ i k t. absurd (none (word ws (prepared_at + p)) i f.prepared t);
          depends_live = λ q k t. absurd (none (word ws (depends_at + p)) q f.depends t);
          not_on_self = none (word ws (depends_at + p)) p f.depends;
          zero_free = λ z. (f.accessed, f.written, f.prepared, f.depends);
        }

    used_ok : (word ws (number_at + p) ≡ 0 → ⊥) → UsedTest ws p → PlaceOk next_in (places_in ws) p (live_in ws p)
    used_ok d t =
        let s = t.sets in
        let a = word ws (accessed_at + p) in
        let w = word ws (written_at + p) in
        let r = word ws (prepared_at + p) in
        let e = word ws (depends_at + p) in
        let x = word ws (number_at + p) in
        record {
          accessed_fits = s.fits;
          written_fits = omega (arith, s.fits, s.written_accessed, and_le_r w a);
          prepared_fits = omega (arith, s.fits, s.prepared_accessed, and_le_r r a);
          depends_fits = omega (arith, used_lt, s.depends_used, and_le_r e (used_in ws));
          once = λ q k u z.
              let m : q < place_count = omega arith in
              let l = lowest_is place_count (has_seat ws x) in
              l.none_below q (omega (arith, seat_somebody ws x d, t.first))
              ((equal_says (word ws (number_at + q)) x).1 (sym (number_at_place q m) ∙ sym z));
          given = λ u. (omega arith, t.high);
          written_accessed = λ i k. and_within w a s.written_accessed i;
          prepared_accessed = λ i k. and_within r a s.prepared_accessed i;
          depends_live = λ q k u z.
              used_says q k (and_within e (used_in ws) s.depends_used q u) (sym (number_at_place q k) ∙ z);
          not_on_self = s.not_on_self;
          zero_free = λ z. absurd (d z);
        }

    pub place_ok : PlaceTest ws p → PlaceOk next_in (places_in ws) p (place (places_in ws) p)
    place_ok t =
        subst (PlaceOk next_in (places_in ws) p) (sym (place_read ws p h))
        (⊎_elim (λ e. free_ok e (t.free e)) (λ d. used_ok d (t.used d)) (same_or_other (word ws (number_at + p)) 0))

    pub place_test : LogOk next_in (log_in ws) (places_in ws) → PlaceOk next_in (places_in ws) p (place (places_in ws) p) → PlaceTest ws p
    place_test l g =
        let k = subst (PlaceOk next_in (places_in ws) p) (place_read ws p h) g in
        let x = word ws (number_at + p) in
        record {
          free = λ e.
              let z = k.zero_free e in
              record { accessed = z.0; written = z.1; prepared = z.2; depends = z.3 };
          used = λ d. record {
            high = (k.given d).1;
            first =
                sym (seat_found ws x d p (λ q m e. k.once q m d (sym e ∙ sym (number_at_place q (omega arith)))) h refl);
            unlogged =
                none_highest (names ws x) (count_in ws)
                (λ i m t.
                let e = (equal_says (key ws i) x).0 t in
                of_record (λ y. T (is_live (places_in ws) y) → ⊥) l.not_live i m
                (at_live (places_in ws) (txn (key ws i)) p
                (record { somebody = λ z. d (sym e ∙ z); below = h; there = number_at_place p h ∙ sym e })));
            sets = record {
              fits = k.accessed_fits;
              written_accessed = within_and (word ws (written_at + p)) (word ws (accessed_at + p)) k.written_fits k.accessed_fits k.written_accessed;
              prepared_accessed = within_and (word ws (prepared_at + p)) (word ws (accessed_at + p)) k.prepared_fits k.accessed_fits k.prepared_accessed;
              depends_used =
                  within_and (word ws (depends_at + p)) (used_in ws) k.depends_fits used_lt
                  (λ q m t. says_used q m (λ e. k.depends_live q m t (number_at_place q m ∙ e)));
              not_on_self = k.not_on_self;
            };
          };
        }
