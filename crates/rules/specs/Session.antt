-- What whole calls give: a call on lent words, the fresh call, a line, a whole text of lines, and a run of many lines on
-- lent words.
-- Rests on Tables, Answers, Layout and Frames.
use Rattle.std.specs.Prelude.{cond, List, [], ◌∷◌, ◌++◌, ℕ, ◌*◌, ◌/◌, eqb, length, take, drop}
use Rattle.std.proofs.Math.Option.{Option, none, some}
use Rattle.rules.specs.Tables.{Tables, fresh}
use Rattle.rules.specs.Answers.{Call, Answer, Outcome, Refusal, unsound, bad_frame, number_of, call}
use Rattle.rules.specs.Layout.{word_count, pack, unpack, sound_words}
use Rattle.rules.specs.Frames.{line_feed, read_frame, write_answer}

-- ---- calls on lent words

-- an answer, and the words as they are left
pub record Left : Type 0 where
  pub answer : Answer
  pub words : List ℕ

-- a refusal that gives 0
abbrev pub plainly : Refusal → Answer
plainly r = record { number = number_of r; value = 0 }

-- unsound words are left as they are
unfoldable pub call_words : List ℕ → Call → Left
call_words ws c =
    cond (sound_words ws)
    (let r = call (unpack ws) c in record { answer = r.answer; words = pack r.tables })
    (record { answer = plainly unsound; words = ws })

-- the call without a frame: makes lent words fresh, whatever they held
unfoldable pub fresh_words : List ℕ → Left
fresh_words ws =
    cond (eqb (length ws) word_count)
    (record { answer = record { number = 0x00; value = 0 }; words = pack fresh })
    (record { answer = plainly unsound; words = ws })

-- a line: a bad frame gives 12 before all else
unfoldable pub asked_words : List ℕ → Option Call → Left
asked_words ws none = record { answer = plainly bad_frame; words = ws }
asked_words ws (some c) = call_words ws c

-- a line on lent words
unfoldable pub line_words : List ℕ → List ℕ → Left
line_words ws l = asked_words ws (read_frame l)

-- ---- texts of lines

-- the lines of a text, each with its line feed; a last one without a line feed is a line unless it is empty
unfoldable pub onto_first : ℕ → List (List ℕ) → List (List ℕ)
onto_first b [] = (b ∷ []) ∷ []
onto_first b (l ∷ ls) = (b ∷ l) ∷ ls

-- the lines of a text
unfoldable pub lines : List ℕ → List (List ℕ)
lines [] = []
lines (b ∷ bs) = cond (eqb b line_feed) ((b ∷ []) ∷ lines bs) (onto_first b (lines bs))

-- what a line gives and leaves, on tables
unfoldable pub asked : Tables → Option Call → Outcome
asked t none = record { answer = plainly bad_frame; tables = t }
asked t (some c) = call t c

-- a line on tables
unfoldable pub line : Tables → List ℕ → Outcome
line t l = asked t (read_frame l)

-- the answer lines of lines taken one after the other
unfoldable pub answer_lines : Tables → List (List ℕ) → List ℕ
answer_lines t [] = []
answer_lines t (l ∷ ls) = write_answer (line t l).answer ++ answer_lines (line t l).tables ls

-- the stepping program: what a whole text answers, starting fresh
unfoldable pub session : List ℕ → List ℕ
session text = answer_lines fresh (lines text)

-- ---- a text of many lines on lent words, with room for the answers

-- how many bytes an answer line has
abbrev pub answer_length : ℕ
answer_length = 19

-- the tables that lines leave
unfoldable pub tables_after_lines : Tables → List (List ℕ) → Tables
tables_after_lines t [] = t
tables_after_lines t (l ∷ ls) = tables_after_lines (line t l).tables ls

-- the lines of a text that are answered: as many as the room has answer lines
unfoldable pub answered : List ℕ → ℕ → List (List ℕ)
answered text room = take (room / answer_length) (lines text)

-- an answer, the words and the answers' room as they are left
pub record Ran : Type 0 where
  pub answer : Answer
  pub words : List ℕ
  pub room : List ℕ

-- sound words: line after line is answered while the room has 19 bytes left; gives how many were. Unsound words give
-- 01, and nothing is written
unfoldable pub run_words : List ℕ → List ℕ → List ℕ → Ran
run_words ws text room =
    cond (sound_words ws)
    (let ls = answered text (length room) in
    record {
      answer = record { number = 0x00; value = length ls };
      words = pack (tables_after_lines (unpack ws) ls);
      room = answer_lines (unpack ws) ls ++ drop (answer_length * length ls) room;
    })
    (record { answer = plainly unsound; words = ws; room = room })
