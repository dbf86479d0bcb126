-- Lines on sound tables leave sound tables.
-- Rests on the rules' Session, on frames_laws' Frames and on sound_laws' Kept. Assumes nothing.
use Rattle.std.specs.Prelude.{◌≡◌, refl, List, [], ◌∷◌, ℕ, T}
use Rattle.std.proofs.Math.Option.{Option, none, some}
use Rattle.rules.specs.Tables.{Tables}
use Rattle.rules.specs.Sound.{sound}
use Rattle.rules.specs.Answers.{Call}
use Rattle.rules.specs.Frames.{read_frame}
use Rattle.rules.specs.Session.{asked, line, tables_after_lines}
use Rattle.frames_laws.specs.Frames.{read_in_width}
use Rattle.sound_laws.specs.Kept.{kept}

pub line_sound : (t : Tables) (l : List ℕ) → T (sound t) → T (sound (line t l).tables)
unfolding line asked
line_sound t l s = go (read_frame l) refl
  where
    go : (m : Option Call) → read_frame l ≡ m → T (sound (asked t m).tables)
    go none e = s
    go (some c) e = kept t c (read_in_width l c e) s

pub lines_sound : (t : Tables) (ls : List (List ℕ)) → T (sound t) → T (sound (tables_after_lines t ls))
unfolding tables_after_lines
lines_sound t [] s = s
lines_sound t (l ∷ ls) s = lines_sound (line t l).tables ls (line_sound t l s)
