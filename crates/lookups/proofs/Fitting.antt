-- What the code needs to know of sound words: that they fit, and that the sets of a place are sets.
-- Rests on the rules' Layout, on words_laws and on sound_laws. Assumes nothing.
use mathlib.Core.Path.{◌≡◌, subst}
use mathlib.Core.List.{List}
use Prim.Native.Nat.{ℕ, ◌+◌, ◌^◌, ◌≤◌, ◌<◌}
use lib.Dec.{T}
use lib.ListN.{length, length-set}
use Rattle.rules.specs.Sets.{width}
use Rattle.rules.specs.Tables.{Live, object_count, place_count, chain_room, log_room}
use Rattle.rules.specs.Layout.{log_count_at, saved_count_at, queued_count_at, accessed_at, written_at, prepared_at, depends_at, word_count, word, unpack, live_in, sound_words}
use Rattle.words_laws.specs.Fits.{Fits, sound_words_says}
use Rattle.words_laws.specs.Unpacked.{place_read}
use Rattle.words_laws.specs.Words.{unpacked_sound}
use Rattle.sound_laws.specs.Means.{means}

pub record SetsFit (l : Live) : Type 0 where
  pub accessed : l.accessed < 2 ^ width
  pub written : l.written < 2 ^ width
  pub prepared : l.prepared < 2 ^ width
  pub depends : l.depends < 2 ^ width

module _ (ws : List ℕ) (s : T (sound_words ws)) where
  pub fitting : Fits ws
  fitting = ((sound_words_says ws).0 s).0

  -- the words of a place that are sets are sets
  pub sets_fit : (p : ℕ) → p < place_count → SetsFit (live_in ws p)
  sets_fit p h =
      let ok = (means (unpack ws) (unpacked_sound ws s)).place_ok p h in
      subst SetsFit (place_read ws p h)
      (record {
        accessed = ok.accessed_fits;
        written = ok.written_fits;
        prepared = ok.prepared_fits;
        depends = ok.depends_fits;
      })

-- The same in bare numbers: `bounds`, which a crate lists for the check to find its indices, sums and sets in range.
pub words_length : (ws : List ℕ) → T (sound_words ws) → length ws ≡ word_count
words_length ws s = (fitting ws s).right_length

pub log_fits : (ws : List ℕ) → T (sound_words ws) → word ws log_count_at ≤ log_room
log_fits ws s = (fitting ws s).log_count_fits

module _ (ws : List ℕ) (i : ℕ) where
  pub chain_fits : T (sound_words ws) → i < object_count → word ws (saved_count_at + i) + word ws (queued_count_at + i) ≤ chain_room
  chain_fits s h = (fitting ws s).chain_count_fits i h

  pub accessed_fits : T (sound_words ws) → i < place_count → word ws (accessed_at + i) < 2 ^ width
  accessed_fits s h = (sets_fit ws s i h).accessed

  pub written_fits : T (sound_words ws) → i < place_count → word ws (written_at + i) < 2 ^ width
  written_fits s h = (sets_fit ws s i h).written

  pub prepared_fits : T (sound_words ws) → i < place_count → word ws (prepared_at + i) < 2 ^ width
  prepared_fits s h = (sets_fit ws s i h).prepared

  pub depends_fits : T (sound_words ws) → i < place_count → word ws (depends_at + i) < 2 ^ width
  depends_fits s h = (sets_fit ws s i h).depends

pub ruleset bounds = (words_length, log_fits, chain_fits, accessed_fits, written_fits, prepared_fits, depends_fits, length-set)
