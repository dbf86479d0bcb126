-- Tables whose lists have the sizes that the words have room for, as sound tables do: the words that say what they
-- hold unpack to them, and fit.
-- Rests on the rules' Layout and Sound, on basics, Parts, Says and Fits. Assumes nothing.
use Rattle.std.specs.Prelude.{◌≡◌, List, ℕ, ◌+◌, ◌≤◌, ◌<◌, min, T, length, get_or}
use Rattle.std.proofs.Math.Path.{ap}
use Rattle.std.proofs.Common.{◌∙◌, arith, length-append, get_or-append-add}
use Rattle.std.proofs.Math.ListN.{get_or-append, get_or-eq_default}
use Rattle.rules.specs.Tests.{row}
use Rattle.rules.specs.Tables.{Txn, Object, Tables, txn, obj, nobody, object_count, place_count, chain_room, log_room, fresh_object, free_place, object, chain}
use Rattle.rules.specs.Sound.{thirty_two_objects, thirty_two_places, log_fits, chains_fit, holds, sound}
use Rattle.rules.specs.Layout.{log_count_at, log_at, word_count, no_entry, unpack, word, entry_in, live_in, saved_count_in, queued_count_in, object_in}
use Rattle.basics.specs.Logic.{equal_says, at_most_says}
use Rattle.basics.specs.Ranges.{every_says}
use Rattle.basics.specs.Rules.{every_rule}
use Rattle.words_laws.specs.Parts.{row_is}
use Rattle.words_laws.specs.Says.{saved_count, queued_count, holder, working, Says, place_said, version_said, entry_said}
use Rattle.words_laws.specs.Fits.{Fits, chain_count_in}

-- the tables' lists have the sizes that the words have room for
pub record Sized (t : Tables) : Type 0 where
  pub places : length t.live ≡ place_count
  pub objects : length t.objects ≡ object_count
  pub log : length t.log ≤ log_room
  pub chains : (i : ℕ) → i < object_count
      → length (object t (obj i)).saved + length (object t (obj i)).queued ≤ chain_room

-- sound tables have these sizes
pub sound_sized : (t : Tables) → T (sound t) → Sized t
unfolding holds
sound_sized t s =
    record {
      places = (equal_says (length t.live) place_count).0 (every_rule t s thirty_two_places);
      objects = (equal_says (length t.objects) object_count).0 (every_rule t s thirty_two_objects);
      log = (at_most_says (length t.log) log_room).0 (every_rule t s log_fits);
      chains = simp (every_says, at_most_says, length-append) at (every_rule t s chains_fit);
    }

module _ (ws : List ℕ) (t : Tables) (s : Says ws t) (z : Sized t) where
  log_back : (unpack ws).log ≡ t.log
  unfolding unpack
  log_back =
      row_is (min (word ws log_count_at) log_room) (λ i. txn (word ws (log_at + i))) nobody t.log
      (omega (arith, s.log_count, z.log))
      (λ i h. ap txn (s.log i (omega arith)))

  live_back : (unpack ws).live ≡ t.live
  unfolding unpack
  live_back = row_is place_count (live_in ws) free_place t.live z.places (place_said ws t s)

  module _ (i : ℕ) (h : i < object_count) where
    saved_back : row (saved_count_in ws i) (entry_in ws i) ≡ (object t (obj i)).saved
    saved_back =
        let b : Object = object t (obj i) in
        let room = z.chains i h in
        let n : length b.saved ≡ saved_count_in ws i = omega (arith, s.column saved_count i h) in
        row_is (saved_count_in ws i) (entry_in ws i) no_entry b.saved n
        (λ j k.
        entry_said ws t s i h j (omega arith) ∙ get_or-append b.saved b.queued no_entry j (omega arith))

    queued_back : row (queued_count_in ws i) (λ j. entry_in ws i (saved_count_in ws i + j)) ≡ (object t (obj i)).queued
    queued_back =
        let b : Object = object t (obj i) in
        let room = z.chains i h in
        let n : saved_count_in ws i ≡ length b.saved = omega (arith, s.column saved_count i h) in
        let m : length b.queued ≡ queued_count_in ws i = omega (arith, s.column queued_count i h) in
        row_is (queued_count_in ws i) (λ j. entry_in ws i (saved_count_in ws i + j)) no_entry b.queued m
        (λ j k.
        entry_said ws t s i h (saved_count_in ws i + j) (omega arith)
        ∙ ap (λ (l : ℕ). get_or (chain b) (l + j) no_entry) n
        ∙ get_or-append-add b.saved b.queued j no_entry)

    object_back : object_in ws i ≡ object t (obj i)
    object_back =
        λ n.
        record {
          stable = version_said ws t s i h n;
          holder = txn (s.column holder i h n);
          working = s.column working i h n;
          saved = saved_back n;
          queued = queued_back n;
        }

    -- how long a chain is, by the words' counts
    chain_length : length (chain (object t (obj i))) ≡ chain_count_in ws i
    chain_length =
        simp length-append (omega (arith, s.column saved_count i h, s.column queued_count i h))

  objects_back : (unpack ws).objects ≡ t.objects
  unfolding unpack
  objects_back = row_is object_count (object_in ws) fresh_object t.objects z.objects object_back

  -- words that say what such tables hold unpack to them
  pub says_unpack : unpack ws ≡ t
  unfolding unpack
  says_unpack = λ n. record { next = txn (s.next n); log = log_back n; live = live_back n; objects = objects_back n }

  -- and fit, where they have the right length
  pub says_fits : length ws ≡ word_count → Fits ws
  says_fits e =
      record {
        right_length = e;
        log_count_fits = omega (arith, s.log_count, z.log);
        chain_count_fits = λ i h. omega (arith, s.column saved_count i h, s.column queued_count i h, z.chains i h);
        past_log = λ i h k.
            let past : length t.log ≤ i = omega (arith, s.log_count) in
            s.log i h ∙ ap (λ (x : Txn). x.num) (get_or-eq_default t.log nobody {n = i} past);
        past_chain = λ i j h k g.
            let past : length (chain (object t (obj i))) ≤ j = omega (arith, chain_length i h) in
            entry_said ws t s i h j k ∙ get_or-eq_default (chain (object t (obj i))) no_entry {n = j} past;
      }
