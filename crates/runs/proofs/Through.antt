-- A run between two lines: what the lines answered so far gave and left, how one more line goes on from there, and when
-- they are the lines that the room has answer lines for.
-- Rests on the rules' Frames, Layout and Session, on frames_laws' Lines, words_laws' Words, and on Cut, Kept, Ran and
-- Stepped. Assumes nothing.
use mathlib.Core.Path.{◌≡◌, refl, sym, ap, ◌∙◌}
use mathlib.Core.List.{List, [], ◌∷◌, ◌++◌, append_assoc, append-nil}
use Prim.Native.Nat.{ℕ, ◌+◌, ◌-◌, ◌*◌, ◌/◌, ◌≤◌, ◌<◌}
use native.Mathlib.Omega.{arith}
use lib.Dec.{T}
use lib.ListN.{length, take, drop, length-append, length-drop, drop_of_length-le}
use lib.Seq.{length-take-le, take_all, take_at, drop_at, drop-drop}
use Rattle.rules.specs.Tables.{Tables}
use Rattle.rules.specs.Sound.{sound}
use Rattle.rules.specs.Frames.{write_answer}
use Rattle.rules.specs.Layout.{pack, unpack, sound_words}
use Rattle.rules.specs.Session.{lines, line, answer_lines, answer_length, tables_after_lines, answered}
use Rattle.frames_laws.specs.Lines as laws
use Rattle.frames_laws.specs.Lines.{flat}
use Rattle.words_laws.specs.Words.{pack_length, words_again, tables_again, packed_sound, unpacked_sound}
use Rattle.runs.specs.Kept.{lines_sound}
use Rattle.runs.specs.Ran.{RanLines}
use Rattle.runs.specs.Stepped.{Stepped}

-- ---- one line more

flat_more : (ls : List (List ℕ)) (l : List ℕ) → flat (ls ++ l ∷ []) ≡ flat ls ++ l
unfolding flat
flat_more [] l = append-nil l
flat_more (m ∷ ls) l = rw (flat_more ls l) (sym (append_assoc m (flat ls) l))

tables_more : (t : Tables) (ls : List (List ℕ)) (l : List ℕ)
    → tables_after_lines t (ls ++ l ∷ []) ≡ (line (tables_after_lines t ls) l).tables
unfolding tables_after_lines
tables_more t [] l = refl
tables_more t (m ∷ ls) l = tables_more (line t m).tables ls l

answers_more : (t : Tables) (ls : List (List ℕ)) (l : List ℕ)
    → answer_lines t (ls ++ l ∷ []) ≡ answer_lines t ls ++ write_answer (line (tables_after_lines t ls) l).answer
unfolding answer_lines tables_after_lines
answers_more t [] l = append-nil _
answers_more t (m ∷ ls) l = rw (answers_more (line t m).tables ls l) (simp append_assoc)

pub answers_length : (t : Tables) (ls : List (List ℕ)) → length (answer_lines t ls) ≡ answer_length * length ls
unfolding answer_lines
answers_length t [] = refl
answers_length t (l ∷ ls) =
    simp length-append (omega (arith, laws.answer_length (line t l).answer, answers_length (line t l).tables ls))

-- ---- the lines answered so far

-- n lines of the text, `at` bytes of it, were answered on the words ws and into the room; they left vs and filled
pub record Through (ws text room : List ℕ) (n at : ℕ) (vs filled : List ℕ) : Type 0 where
  pub done : List (List ℕ)
  pub parted : lines text ≡ done ++ lines (drop at text)
  pub count : length done ≡ n
  pub passed : length (flat done) ≡ at
  pub within : at ≤ length text
  pub left : vs ≡ pack (tables_after_lines (unpack ws) done)
  pub answers : filled ≡ answer_lines (unpack ws) done ++ drop (answer_length * n) room
  pub fits : answer_length * n ≤ length room

module _ (ws text room : List ℕ) (s : T (sound_words ws)) where
  pub begun : Through ws text room 0 0 ws room
  unfolding flat tables_after_lines answer_lines
  begun =
      record {
        done = [];
        parted = refl;
        count = refl;
        passed = refl;
        within = omega arith;
        left = sym (words_again ws s);
        answers = refl;
        fits = omega arith;
      }

  module _ (n at : ℕ) (vs filled : List ℕ) (r : Through ws text room n at vs filled) where
    now_sound : T (sound (tables_after_lines (unpack ws) r.done))
    now_sound = lines_sound (unpack ws) r.done (unpacked_sound ws s)

    pub stays_sound : T (sound_words vs)
    stays_sound = rw r.left (packed_sound (tables_after_lines (unpack ws) r.done) now_sound)

    pub words_length : length vs ≡ length ws
    words_length = ap length r.left ∙ pack_length _ ∙ sym (pack_length (unpack ws)) ∙ ap length (words_again ws s)

    written_length : length (answer_lines (unpack ws) r.done) ≡ answer_length * n
    written_length = answers_length (unpack ws) r.done ∙ rw r.count

    pub room_length : length filled ≡ length room
    room_length = ap length r.answers ∙ simp (length-append, length-drop) (omega (arith, written_length, r.fits))

    pub one_more : (m : ℕ) (us bytes : List ℕ) → answer_length * n + answer_length ≤ length room
        → Stepped vs (drop at text) (drop (answer_length * n) filled) m us bytes
        → Through ws text room (n + 1) (at + m) us (take (answer_length * n) filled ++ bytes)
    one_more m us bytes h step =
        let t = tables_after_lines (unpack ws) r.done in
        let l = take m (drop at text) in
        let written = answer_lines (unpack ws) r.done in
        let place = answer_length * n in
        let rest : m ≤ length text - at = rw length-drop at step.first.within in
        let long : length l ≡ m = length-take-le m (drop at text) step.first.within in
        let next_place : place + answer_length ≡ answer_length * (n + 1) = omega arith in
        let unpacked : unpack vs ≡ t = ap unpack r.left ∙ tables_again t now_sound in
        record {
          done = r.done ++ l ∷ [];
          parted = r.parted ∙ rw (step.first.cut, drop-drop m at text, append_assoc);
          count = simp length-append (omega arith);
          passed = rw (flat_more r.done l) (simp length-append (omega (arith, r.passed, long)));
          within = omega (arith, rest);
          left = step.left ∙ rw (unpacked, tables_more (unpack ws) r.done l);
          answers =
              rw (step.answers, unpacked, r.answers, answers_more (unpack ws) r.done l)
              (rw (take_at written (drop place room) place written_length, drop_at written (drop place room) place written_length)
              (rw (drop-drop answer_length place room, next_place, append_assoc)));
          fits = omega arith;
        }

    finished : answered text (length room) ≡ r.done → RanLines ws text room (record { lines = n; used = at }) vs filled
    finished e =
        record {
          lines = rw (e, r.count);
          used = rw (e, r.passed);
          left = rw e r.left;
          answers = rw e r.answers;
        }

    -- no byte is left
    pub all_answered : length text ≤ at → RanLines ws text room (record { lines = n; used = at }) vs filled
    unfolding answered lines
    all_answered h =
        finished
        (rw (r.parted, drop_of_length-le text h, append-nil)
        (take_all (length room / answer_length) r.done (omega (arith, r.count, r.fits))))

    -- no room is left
    pub room_filled : length room < answer_length * n + answer_length → RanLines ws text room (record { lines = n; used = at }) vs filled
    unfolding answered
    room_filled h =
        finished
        (rw r.parted (take_at r.done (lines (drop at text)) (length room / answer_length) (omega (arith, r.count, r.fits))))
