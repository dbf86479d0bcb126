-- Words that pass the code's tests are the sound ones.
-- Rests on the rules' Layout, on basics, words_laws, sound_laws, Tells, Test, Seats, Found, Placed and Objects. Assumes nothing.
use Rattle.std.specs.Prelude.{◌≡◌, Bool, false, ℕ, ◌^◌, ◌<◌, T}
use Rattle.std.proofs.Common.{ap, sym}
use Rattle.std.proofs.Math.Path.{subst}
use mathlib.Core.List.{List}
use Rattle.rules.specs.Tables.{Txn, Entry, txn, place_count, object_count}
use Rattle.rules.specs.Layout.{next_at, word, live_in, object_in, unpack, sound_words}
use Rattle.basics.specs.Logic.{same_test}
use Rattle.basics.specs.Ranges.{length_row}
use Rattle.words_laws.specs.Fits.{Fits, sound_words_says}
use Rattle.words_laws.specs.Unpacked.{object_read}
use Rattle.sound_laws.specs.Means.{LogOk, ObjectOk, Sound, means, tests}
use Rattle.tables.specs.Tells.{Tells}
use Rattle.tables.specs.Test.{length_in, RecordsTest, PlacesTest, PastChain, CountsTest, RestTest}
use Rattle.tables.specs.Seats.{not_both}
use Rattle.tables.specs.Found.{log_in, places_in, log_is}
use Rattle.tables.specs.Placed.{unlogged_places, log_ok, records_test, place_ok, place_test}
use Rattle.tables.specs.Objects.{object_ok, object_test}

module _ (ws : List ℕ) (values : (k : ℕ) → word ws k < 2 ^ 64) where
  -- ---- sound words pass

  module _ (s : T (sound_words ws)) where
    fits : Fits ws
    fits = ((sound_words_says ws).0 s).0

    facts : Sound (unpack ws)
    facts = means (unpack ws) ((sound_words_says ws).0 s).1

    log_facts : LogOk (txn (word ws next_at)) (log_in ws) (places_in ws)
    unfolding unpack
    log_facts = subst (λ (l : List Txn). LogOk (txn (word ws next_at)) l (places_in ws)) (log_is ws fits.log_count_fits) facts.log_ok

    records : RecordsTest ws
    records = records_test ws log_facts

    places : PlacesTest ws
    unfolding unpack
    places p h = place_test ws p h log_facts (facts.place_ok p h)

    object_facts : (o : ℕ) → o < object_count → ObjectOk (places_in ws) (log_in ws) o (object_in ws o)
    object_facts o h =
        subst (λ (l : List Txn). ObjectOk (places_in ws) l o (object_in ws o)) (log_is ws fits.log_count_fits)
        (subst (ObjectOk (places_in ws) (unpack ws).log o) (object_read ws o h) (facts.object_ok o h))

    past_chain : (o : ℕ) → o < object_count → PastChain ws o (length_in ws o)
    past_chain o h j k g =
        let e = fits.past_chain o j h k g in
        (ap (λ (v : Entry). v.value) e, ap (λ (v : Entry). v.writer.num) e)

    pub counts_told : CountsTest ws
    unfolding unpack
    counts_told =
        record {
          right_length = fits.right_length;
          next_low = facts.next_low;
          next_high = facts.next_high;
          count_fits = fits.log_count_fits;
        }

    pub rest_told : RestTest ws
    rest_told =
        record {
          records = records;
          past_log = fits.past_log;
          places = places;
          objects = λ o h.
              object_test ws o values records (not_both ws (unlogged_places ws places)) (fits.chain_count_fits o h) (object_facts o h) (past_chain o h);
        }

  -- ---- words that pass are sound

  module _ (c : CountsTest ws) (r : RestTest ws) where
    all_fits : Fits ws
    all_fits =
        record {
          right_length = c.right_length;
          log_count_fits = c.count_fits;
          chain_count_fits = λ o h. (r.objects o h).fits;
          past_log = r.past_log;
          past_chain = λ o j h k g.
              let e = (r.objects o h).past j k g in
              λ n. record { value = e.0 n; writer = txn (e.1 n) };
        }

    all_facts : Sound (unpack ws)
    unfolding unpack
    all_facts =
        record {
          objects_count = length_row object_count (object_in ws);
          places_count = length_row place_count (live_in ws);
          next_low = c.next_low;
          next_high = c.next_high;
          log_ok =
              subst (λ (l : List Txn). LogOk (txn (word ws next_at)) l (places_in ws)) (sym (log_is ws c.count_fits))
              (log_ok ws c.count_fits r.records r.places);
          place_ok = λ p h. place_ok ws p h (r.places p h);
          object_ok = λ o h.
              subst (ObjectOk (places_in ws) (unpack ws).log o) (sym (object_read ws o h))
              (subst (λ (l : List Txn). ObjectOk (places_in ws) l o (object_in ws o)) (sym (log_is ws c.count_fits))
              (object_ok ws o values r.records (not_both ws (unlogged_places ws r.places)) (r.objects o h)));
        }

    pub passed_sound : T (sound_words ws)
    passed_sound = (sound_words_says ws).1 (all_fits, tests (unpack ws) all_facts)

  -- ---- the answer

  -- counts that are out of range make words that are not sound
  pub counts_fail : (CountsTest ws → ⊥) → false ≡ sound_words ws
  counts_fail f = same_test false (sound_words ws) (λ t. absurd t) (λ s. f (counts_told s))

  -- the answer of the rest is the answer
  pub rest_answers : CountsTest ws → (answer : Bool) → Tells answer (RestTest ws) → answer ≡ sound_words ws
  rest_answers c answer t = same_test answer (sound_words ws) (λ a. passed_sound c (t.says a)) (λ s. t.shows (rest_told s))
