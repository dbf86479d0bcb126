-- The words that crash writes are what the rules' crash packs to.
-- Rests on the rules' Layout and Steps, on words_laws, sound_laws, and on Loops to Cuts. Assumes nothing.
use Rattle.std.specs.Prelude.{◌≡◌, refl, Bool, true, false, cond, List, ℕ, ◌+◌, ◌<◌, ◌≤◌, length, get_or, set}
use Rattle.std.proofs.Common.{ap, ◌∙◌, le_refl, arith, length-append}
use Rattle.rules.specs.Sets.{has}
use Rattle.rules.specs.Tables.{Object, Tables, obj, object_count, chain_room, fresh_object, object}
use Rattle.rules.specs.Steps.{crashed, crash}
use Rattle.rules.specs.Layout.{saved_count_at, queued_count_at, pack, word}
use Rattle.words_laws.specs.Says.{saved_count, queued_count, pack_says}
use Rattle.sound_laws.specs.Means.{Sound}
use Rattle.ends_laws.specs.Loops.{loop, loop_row, loop_turns, turns, turns_after}
use Rattle.ends_laws.specs.Cuts.{keep_saved, with_objects, object_again, keep_saved_packs}

-- object i with its lock free and its saved entries alone, if it is one of the set
abbrev pub crash_object : ℕ → ℕ → List ℕ → List ℕ
crash_object c i ws = cond (has c i) (keep_saved i (word ws (saved_count_at + i)) ws) ws

unfoldable pub crash_words : ℕ → List ℕ → List ℕ
crash_words c ws = loop object_count (crash_object c) ws

module _ (t : Tables) (s : Sound t) (c : ℕ) where
  abbrev now : ℕ → Object → Object
  now i b = cond (has c i) (crashed b) b

  object_crashed : (i : ℕ) (bs : List Object) → i < length t.objects → length bs ≡ length t.objects
      → get_or bs i fresh_object ≡ object t (obj i)
      → crash_object c i (pack (with_objects t bs)) ≡ pack (with_objects t (set bs i (now i (object t (obj i)))))
  object_crashed i bs m n e = go (has c i)
    where
      u : Tables
      u = with_objects t bs

      b : Object
      b = object t (obj i)

      h : i < object_count
      h = omega (arith, s.objects_count)

      go : (z : Bool) → cond z (keep_saved i (word (pack u) (saved_count_at + i)) (pack u)) (pack u)
          ≡ pack (with_objects t (set bs i (cond z (crashed b) b)))
      go true =
          ap (λ (k : ℕ). keep_saved i k (pack u))
          ((pack_says u).column saved_count i h ∙ ap (λ (o : Object). length o.saved) e)
          ∙ keep_saved_packs u (n ∙ s.objects_count) i h b e b.saved b.queued refl
      go false =
          object_again u i ∙ ap (λ (o : Object). pack (with_objects t (set bs i o))) e

  pub crash_packs : crash_words c (pack t) ≡ pack (crash t c)
  unfolding crash_words crash
  crash_packs =
      loop_row fresh_object now t.objects (with_objects t) (crash_object c) object_crashed object_count
      s.objects_count

  -- at its turn an object has its queued entries still
  pub queued_then : (i : ℕ) → i < object_count
      → word (loop i (crash_object c) (pack t)) (queued_count_at + i) ≡ length (object t (obj i)).queued
  queued_then i h =
      let u = with_objects t (turns fresh_object now t.objects i) in
      ap (λ (ws : List ℕ). word ws (queued_count_at + i))
      (loop_turns fresh_object now t.objects (with_objects t) (crash_object c) object_crashed i
      (omega (arith, s.objects_count)))
      ∙ (pack_says u).column queued_count i h
      ∙ ap (λ (o : Object). length o.queued) (turns_after fresh_object now t.objects i i (le_refl i))

  pub queued_few : (i : ℕ) → i < object_count → length (object t (obj i)).queued ≤ chain_room
  queued_few i h =
      omega (arith, (s.object_ok i h).fits, length-append (object t (obj i)).saved (object t (obj i)).queued)
