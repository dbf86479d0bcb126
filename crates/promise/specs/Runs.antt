-- A few runs of calls from fresh tables, with what they answer and leave computed; and that calls keep tables sound.
-- Rests on the rules' definitions, on basics' Logic and sound_laws' Kept. Assumes nothing.
use Rattle.std.specs.Prelude.{◌≡◌, refl, List, [], ◌∷◌, ℕ, T, length}
use Rattle.rules.specs.Tests.{all}
use Rattle.rules.specs.Tables.{Tables, fresh}
use Rattle.rules.specs.Sound.{sound}
use Rattle.rules.specs.Answers.{Call, Answer, call}
use Rattle.rules.specs.Frames.{in_width}
use Rattle.rules.specs.Runs.{starts, reads, writes, prepares, saves, commits, aborts, looks, after}
use Rattle.basics.specs.Logic.{and_says}
use Rattle.sound_laws.specs.Kept.{kept}

-- calls whose fields have their widths keep tables sound
pub after_sound : (t : Tables) (cs : List Call) → T (all in_width cs) → T (sound t) → T (sound (after t cs))
unfolding after
after_sound t [] w s = s
after_sound t (c ∷ cs) w s =
    let (here, there) = (and_says (in_width c) (all in_width cs)).0 w in
    after_sound (call t c).tables cs there (kept t c here s)

-- an answer that something is done
abbrev pub done : ℕ → Answer
done v = record { number = 0; value = v }

-- ---- what they answer and leave

-- on fresh tables start gives 1, look and save give 0
pub first_start : (call fresh starts).answer ≡ done 1
unfolding after fresh
first_start = refl

pub first_look : (call fresh (looks 0)).answer ≡ done 0
unfolding after fresh
first_look = refl

pub first_save : (call fresh (saves 0)).answer ≡ done 0
unfolding after fresh
first_save = refl

-- start moves the next number on
pub next_before : fresh.next.num ≡ 1
unfolding fresh
next_before = refl

pub next_after : (call fresh starts).tables.next.num ≡ 2
unfolding after fresh
next_after = refl

-- 1 wrote object 0 and prepared it: save gives 1
abbrev pub one_queued : List Call
one_queued = starts ∷ writes 1 0 5 ∷ prepares 1 0 ∷ []

pub queued_save : (call (after fresh one_queued) (saves 0)).answer ≡ done 1
unfolding after fresh
queued_save = refl

-- 1 alone falls alone
abbrev pub one_alone : List Call
one_alone = starts ∷ []

pub alone_falls : (call (after fresh one_alone) (aborts 1)).answer ≡ done 1
unfolding after fresh
alone_falls = refl

-- 2 read what 1 wrote and falls with it
abbrev pub one_and_reader : List Call
one_and_reader = starts ∷ starts ∷ writes 1 0 5 ∷ prepares 1 0 ∷ reads 2 0 ∷ []

pub reader_falls : (call (after fresh one_and_reader) (aborts 1)).answer ≡ done 2
unfolding after fresh
reader_falls = refl

-- 1 is committed and 2 live: commit of 2 makes the log longer
abbrev pub one_committed : List Call
one_committed = starts ∷ commits 1 ∷ starts ∷ []

pub log_before : length (after fresh one_committed).log ≡ 1
unfolding after fresh
log_before = refl

pub log_after : length (call (after fresh one_committed) (commits 2)).tables.log ≡ 2
unfolding after fresh
log_after = refl
