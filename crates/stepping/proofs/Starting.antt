-- Fresh words are sound.
-- Rests on the rules' Tables, Layout and Runs, and on words_laws' Words. Assumes nothing.
use Rattle.std.specs.Prelude.{◌≡◌, List, ℕ, T}
use Rattle.rules.specs.Tables.{fresh}
use Rattle.rules.specs.Layout.{pack, sound_words}
use Rattle.rules.specs.Runs.{fresh_sound}
use Rattle.words_laws.specs.Words.{packed_sound}

pub starts_sound : {ws : List ℕ} → ws ≡ pack fresh → T (sound_words ws)
starts_sound e = rw e (packed_sound fresh fresh_sound)
