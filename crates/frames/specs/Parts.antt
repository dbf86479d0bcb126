-- What each part of the code gives: what a byte and a field stand for, and what four fields ask.
-- Rests on the rules' Tests, Tables, Answers and Frames, and on calls' Kinds.
use Rattle.std.specs.Prelude.{cond, ◌&&◌, List, [], ◌∷◌, ℕ, ◌+◌, ◌*◌}
use Rattle.std.proofs.Math.Option.{Option, none, some}
use Rattle.rules.specs.Tests.{row}
use Rattle.rules.specs.Tables.{txn, obj}
use Rattle.rules.specs.Answers.{is_start}
use Rattle.rules.specs.Answers as rules
use Rattle.rules.specs.Frames.{is_digit, digit_value, unused_zero}
use Rattle.calls.specs.Kinds.{is_kind, kind_numbered}

-- ---- digits

-- what a byte stands for that is no digit: more than eight digits can
abbrev pub no_digit : ℕ
no_digit = 0x100000000

-- what a byte stands for
abbrev pub value_of : ℕ → ℕ
value_of b = cond (is_digit b) (digit_value b) no_digit

-- what each byte stands for
unfoldable pub digit_values : List ℕ
digit_values = row 256 value_of

-- ---- fields

-- what the bytes of a stretch stand for together, after those that stand for a
unfoldable pub sum_after : ℕ → List ℕ → ℕ
sum_after a [] = a
sum_after a (b ∷ bs) = sum_after (a * 16 + value_of b) bs

-- what the bytes of a stretch stand for together
abbrev pub sum_in : List ℕ → ℕ
sum_in = sum_after 0

-- ---- calls

-- the call that four fields stand for
abbrev pub call_numbered : ℕ → ℕ → ℕ → ℕ → rules.Call
call_numbered n x o v = record { kind = kind_numbered n; who = txn x; what = obj o; value = v }

-- what they ask: a kind's number, and its unused fields zero
abbrev pub asked : ℕ → ℕ → ℕ → ℕ → Option rules.Call
asked n x o v =
    cond (is_kind n && unused_zero (call_numbered n x o v)) (some (call_numbered n x o v)) none
