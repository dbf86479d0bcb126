-- Words and tables determine each other where they are sound: packing what was unpacked gives the words again, and
-- unpacking what was packed gives the tables again.
-- Rests on the rules' Layout and Sound, on Parts, Says, Fits, Unpacked and Sized. Assumes nothing.
use Rattle.std.specs.Prelude.{◌≡◌, List, ℕ, T, length}
use Rattle.std.proofs.Common.{ap, ◌∙◌}
use Rattle.rules.specs.Tables.{Tables}
use Rattle.rules.specs.Sound.{sound}
use Rattle.rules.specs.Layout.{word_count, pack, unpack, sound_words}
use Rattle.words_laws.specs.Parts.{extend_length}
use Rattle.words_laws.specs.Says.{Says, first_words, parts, pack_parts, pack_says, says_packed}
use Rattle.words_laws.specs.Fits.{sound_words_says}
use Rattle.words_laws.specs.Unpacked.{unpack_says}
use Rattle.words_laws.specs.Sized.{sound_sized, says_unpack, says_fits}

-- packed tables have the right count of words
pub pack_length : (t : Tables) → length (pack t) ≡ word_count
unfolding parts
pack_length t = ap length (pack_parts t) ∙ extend_length (first_words t) (parts t)

-- sound words say what their tables hold
pub sound_words_say : (ws : List ℕ) → T (sound_words ws) → Says ws (unpack ws)
sound_words_say ws s = unpack_says ws ((sound_words_says ws).0 s).0

-- sound words are what their tables pack to
pub words_again : (ws : List ℕ) → T (sound_words ws) → pack (unpack ws) ≡ ws
words_again ws s = says_packed ws (unpack ws) ((sound_words_says ws).0 s).0.right_length (sound_words_say ws s)

-- sound tables are what their words unpack to
pub tables_again : (t : Tables) → T (sound t) → unpack (pack t) ≡ t
tables_again t s = says_unpack (pack t) t (pack_says t) (sound_sized t s)

-- sound tables pack to sound words, and sound words unpack to sound tables
pub packed_sound : (t : Tables) → T (sound t) → T (sound_words (pack t))
packed_sound t s =
    (sound_words_says (pack t)).1
    (says_fits (pack t) t (pack_says t) (sound_sized t s) (pack_length t), rw (tables_again t s) s)

pub unpacked_sound : (ws : List ℕ) → T (sound_words ws) → T (sound (unpack ws))
unpacked_sound ws s = ((sound_words_says ws).0 s).1
