-- On sound words: what commit, undo, crash, settle and restart write is what the rules' step leaves of the tables.
-- Rests on the rules' Layout and Steps, on words_laws, sound_laws, and on this crate's law of each step. Assumes nothing.
use Rattle.std.specs.Prelude.{◌≡◌, Bool, true, false, cond, List, ℕ, ◌+◌, ◌-◌, ◌^◌, ◌<◌, ◌≤◌, T, length}
use Rattle.std.proofs.Math.Path.{ap}
use Rattle.std.proofs.Common.{ap₂, sym, ◌∙◌, subst, add-one, arith}
use Rattle.rules.specs.Tests.{sum}
use Rattle.rules.specs.Sets.{width, has}
use Rattle.rules.specs.Tables.{Tables, txn, obj, object_count, place_count, log_room, chain_room, object, place_of, is_live, log_number}
use Rattle.rules.specs.Steps.{commit, undo, crash, settle, settle_count, restart, live_count}
use Rattle.rules.specs.Layout.{log_count_at, depends_at, queued_count_at, word_count, pack, unpack, word, sound_words}
use Rattle.words_laws.specs.Fits.{sound_words_says}
use Rattle.words_laws.specs.Says.{depends, pack_says}
use Rattle.words_laws.specs.Words.{words_again, sound_words_say, tables_again, unpacked_sound}
use Rattle.sound_laws.specs.Means.{Sound, means, tests}
use Rattle.sound_laws.specs.Live.{live_at}
use Rattle.sound_laws.specs.Abort.{Closed}
use Rattle.ends_laws.specs.Loops.{after, loop}
use Rattle.ends_laws.specs.Entries.{writer_place}
use Rattle.ends_laws.specs.Places.{free_words, add_record, record_packs}
use Rattle.ends_laws.specs.Commit.{strike, commit_words, commit_packs, logged}
use Rattle.ends_laws.specs.Undo.{undo_object, undo_place, undo_words, undo_packs}
use Rattle.ends_laws.specs.Crash.{crash_object, crash_words, crash_packs, queued_then, queued_few}
use Rattle.ends_laws.specs.Settle.{settle_number, settle_object, settle_number_packed, settle_none, settle_some}
use Rattle.ends_laws.specs.Restart.{settle_first, settle_first_sound, settle_first_words, wipe, wipe_words, used_count, used_packed, restart_packs}

-- how many of object i's entries a crash of the objects c drops
abbrev pub dropped : List ℕ → ℕ → ℕ → ℕ
dropped ws c i = cond (has c i) (length (object (unpack ws) (obj i)).queued) 0

-- one object more, as the code counts
pub dropped_more : (ws : List ℕ) (c i d r : ℕ) → d ≡ sum i (dropped ws c) → r ≡ dropped ws c i
    → d + r ≡ sum (i + 1) (dropped ws c)
unfolding sum
dropped_more ws c i d r e f = ap₂ ◌+◌ e f ∙ ap (λ (n : ℕ). sum n (dropped ws c)) (sym (add-one i))

module _ (ws : List ℕ) (s : T (sound_words ws)) where
  pub size : length ws ≡ word_count
  size = ((sound_words_says ws).0 s).0.right_length

  ok : Sound (unpack ws)
  ok = means (unpack ws) (unpacked_sound ws s)

  -- what holds of the packed tables holds of the words
  from_packed : (P : List ℕ → Type 0) → P (pack (unpack ws)) → P ws
  from_packed P p = subst P (words_again ws s) p

  -- ---- commit

  pub log_count_is : word ws log_count_at ≡ length (unpack ws).log
  log_count_is = (sound_words_say ws s).log_count

  pub seat_below : (x p : ℕ) → T (is_live (unpack ws).live (txn x)) → p ≡ place_of (unpack ws).live (txn x)
      → p < place_count
  seat_below x p live there = omega (arith, (live_at (unpack ws).live (txn x) live).below)

  module _ (x : ℕ) (room : length (unpack ws).log < log_room) where
    pub commit_leaves : (p : ℕ) → T (is_live (unpack ws).live (txn x)) → p ≡ place_of (unpack ws).live (txn x)
        → {us vs rs : List ℕ} → us ≡ add_record x ws → vs ≡ loop place_count (strike p) us → rs ≡ free_words p vs
        → rs ≡ pack (commit (unpack ws) (txn x))
    unfolding commit_words
    commit_leaves p live there e f g =
        after (free_words p) (after (loop place_count (strike p)) e f) g
        ∙ from_packed (λ vs. commit_words x p vs ≡ pack (commit (unpack ws) (txn x)))
        (commit_packs (unpack ws) ok x room p live there)

    -- with the record added, the dependencies are sets still
    pub depends_fit : (q : ℕ) → q < place_count → word (add_record x ws) (depends_at + q) < 2 ^ width
    depends_fit q h =
        from_packed (λ vs. word (add_record x vs) (depends_at + q) < 2 ^ width)
        (subst (λ (n : ℕ). n < 2 ^ width)
        (sym
        (ap (λ (vs : List ℕ). word vs (depends_at + q)) (record_packs (unpack ws) x room)
        ∙ (pack_says (logged (unpack ws) x)).column depends q h))
        (ok.place_ok q h).depends_fits)

  -- ---- undo

  pub undo_leaves : (f : ℕ) → Closed (unpack ws).live f → {us vs : List ℕ} → us ≡ loop object_count (undo_object f) ws
      → vs ≡ loop place_count (undo_place f) us
      → vs ≡ pack (undo (unpack ws) f)
  unfolding undo_words
  undo_leaves f closed e g =
      after (loop place_count (undo_place f)) e g
      ∙ from_packed (λ vs. undo_words f vs ≡ pack (undo (unpack ws) f)) (undo_packs (unpack ws) ok f closed)

  -- ---- crash

  module _ (c : ℕ) where
    pub crash_leaves : crash_words c ws ≡ pack (crash (unpack ws) c)
    crash_leaves = from_packed (λ vs. crash_words c vs ≡ pack (crash (unpack ws) c)) (crash_packs (unpack ws) ok c)

    -- at its turn an object has its queued entries still
    queued_at_turn : (i : ℕ) → i < object_count
        → word (loop i (crash_object c) ws) (queued_count_at + i) ≡ length (object (unpack ws) (obj i)).queued
    queued_at_turn i h =
        from_packed
        (λ vs. word (loop i (crash_object c) vs) (queued_count_at + i) ≡ length (object (unpack ws) (obj i)).queued)
        (queued_then (unpack ws) ok c i h)

    -- at its turn an object drops those
    pub drops : (i : ℕ) → i < object_count → (vs : List ℕ) → vs ≡ loop i (crash_object c) ws
        → cond (has c i) (word vs (queued_count_at + i)) 0 ≡ dropped ws c i
    drops i h vs e =
        ap (λ (n : ℕ). cond (has c i) n 0) (ap (λ (us : List ℕ). word us (queued_count_at + i)) e ∙ queued_at_turn i h)

    pub drops_few : (i : ℕ) → i < object_count → dropped ws c i ≤ chain_room
    drops_few i h = go (has c i)
      where
        go : (b : Bool) → cond b (length (object (unpack ws) (obj i)).queued) 0 ≤ chain_room
        go true = queued_few (unpack ws) ok c i h
        go false = omega arith

  -- ---- settle

  module _ (o : ℕ) (h : o < object_count) where
    pub settle_number_is : settle_number ws o ≡ settle_count (unpack ws) (obj o)
    settle_number_is =
        from_packed (λ vs. settle_number vs o ≡ settle_count (unpack ws) (obj o))
        (settle_number_packed (unpack ws) ok o h)

    pub settle_leaves_none : settle_number ws o ≡ 0 → ws ≡ pack (settle (unpack ws) (obj o))
    settle_leaves_none e =
        from_packed (λ vs. vs ≡ pack (settle (unpack ws) (obj o)))
        (settle_none (unpack ws) ok o h (sym settle_number_is ∙ e))

    pub settle_leaves_some : (k n : ℕ) → k ≡ settle_number ws o → 0 < k
        → n ≡ (log_number (unpack ws).log (txn (word ws (writer_place o (k - 1))))).num
        → settle_object o k n ws ≡ pack (settle (unpack ws) (obj o))
    settle_leaves_some k n e g r =
        let count = settle_count (unpack ws) (obj o) in
        let same : k ≡ count = e ∙ settle_number_is in
        ap (λ (m : ℕ). settle_object o k m ws) r
        ∙ ap (λ (j : ℕ). settle_object o j (number ws j) ws) same
        ∙ from_packed (λ vs. settle_object o count (number vs count) vs ≡ pack (settle (unpack ws) (obj o)))
        (settle_some (unpack ws) ok o h (subst (λ (j : ℕ). 0 < j) same g))
      where
        number : List ℕ → ℕ → ℕ
        number vs j = (log_number (unpack ws).log (txn (word vs (writer_place o (j - 1))))).num

  -- ---- restart

  pub used_is : used_count ws ≡ live_count (unpack ws)
  used_is = from_packed (λ vs. used_count vs ≡ live_count (unpack ws)) (used_packed (unpack ws))

  -- once the first objects are settled the words are sound, and one object more goes on from there
  pub still_sound : (n : ℕ) → n ≤ object_count → T (sound_words (pack (settle_first n (unpack ws))))
  still_sound = settle_first_words (unpack ws) ok

  pub settle_next : (n : ℕ) → n ≤ object_count → {us vs : List ℕ} → us ≡ pack (settle_first n (unpack ws))
      → vs ≡ pack (settle (unpack us) (obj n))
      → vs ≡ pack (settle_first (n + 1) (unpack ws))
  unfolding settle_first
  settle_next n h e f =
      after (λ us. pack (settle (unpack us) (obj n))) e f
      ∙ ap (λ (t : Tables). pack (settle t (obj n)))
      (tables_again (settle_first n (unpack ws))
      (tests (settle_first n (unpack ws)) (settle_first_sound (unpack ws) ok n h)))
      ∙ ap (λ (m : ℕ). pack (settle_first m (unpack ws))) (sym (add-one n))

  pub restart_leaves : {us vs rs : List ℕ} → us ≡ pack (settle_first object_count (unpack ws))
      → vs ≡ loop object_count wipe us
      → rs ≡ loop place_count free_words vs
      → rs ≡ pack (restart (unpack ws))
  unfolding wipe_words
  restart_leaves e f g =
      after (loop place_count free_words) (after (loop object_count wipe) e f) g
      ∙ restart_packs (unpack ws) ok
