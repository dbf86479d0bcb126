-- Frames: a line to a call or to a bad frame, a call to its line, an answer to its line. A line is a list of bytes,
-- its line feed included.
-- Rests on Tests, Tables and Answers.
use Rattle.std.specs.Prelude.{Bool, true, false, cond, ◌&&◌, ◌||◌, List, [], ◌∷◌, ◌++◌, ℕ, zero, suc, ◌+◌, ◌-◌, ◌*◌, ◌/◌, ◌%◌, ◌^◌, eqb, ltb, leb, length, get_or, take, drop}
use Rattle.std.proofs.Math.Option.{Option, none, some}
use Rattle.rules.specs.Tests.{all}
use Rattle.rules.specs.Tables.{txn, obj}
use Rattle.rules.specs.Answers.{Kind, is_start, is_read, is_write, is_prepare, is_save, is_commit, is_abort, is_settle, is_crash, is_restart, is_status, is_look, kind_number, Call, Answer}

-- the byte that ends a line
abbrev pub line_feed : ℕ
line_feed = 10

-- ---- the fields that each kind uses

-- which of the three fields a kind uses
pub record Fields : Type 0 where
  pub transaction : Bool
  pub object : Bool
  pub value : Bool

-- the fields, by whether each is used
abbrev pub uses : Bool → Bool → Bool → Fields
uses x o v = record { transaction = x; object = o; value = v }

-- the table of used fields
unfoldable pub fields_of : Kind → Fields
fields_of is_start = uses false false false
fields_of is_read = uses true true false
fields_of is_write = uses true true true
fields_of is_prepare = uses true true false
fields_of is_save = uses false true false
fields_of is_commit = uses true false false
fields_of is_abort = uses true false false
fields_of is_settle = uses false true false
fields_of is_crash = uses false false true
fields_of is_restart = uses false false false
fields_of is_status = uses true false false
fields_of is_look = uses false true false

-- an unused field is zero
unfoldable pub unused_zero : Call → Bool
unused_zero c =
    ((fields_of c.kind).transaction || eqb c.who.num 0)
    && ((fields_of c.kind).object || eqb c.what.num 0)
    && ((fields_of c.kind).value || eqb c.value 0)

-- the fields have their widths: 32 bits, 8 bits, 64 bits
unfoldable pub in_width : Call → Bool
in_width c = ltb c.who.num (2 ^ 32) && ltb c.what.num (2 ^ 8) && ltb c.value (2 ^ 64)

-- ---- lower-case hexadecimal digits, high digits first

-- one of 0 to 9, a to f
abbrev pub is_digit : ℕ → Bool
is_digit b = leb 48 b && leb b 57 || leb 97 b && leb b 102

-- the number that a digit stands for
abbrev pub digit_value : ℕ → ℕ
digit_value b = cond (leb b 57) (b - 48) (b - 87)

-- the digit that stands for a number below 16
abbrev pub digit : ℕ → ℕ
digit n = cond (ltb n 10) (48 + n) (87 + n)

-- the number that digits stand for, after those that stand for a
unfoldable pub number_after : ℕ → List ℕ → ℕ
number_after a [] = a
number_after a (b ∷ bs) = number_after (a * 16 + digit_value b) bs

-- the number that digits stand for
abbrev pub number_in : List ℕ → ℕ
number_in = number_after 0

-- a number as so many digits
unfoldable pub digits : ℕ → ℕ → List ℕ
digits zero n = []
digits (suc w) n = digits w (n / 16) ++ digit (n % 16) ∷ []

-- ---- call lines: kind (2 digits), transaction (8), object (2), value (16), line feed

-- how many bytes a call line has, its line feed included
abbrev pub frame_length : ℕ
frame_length = 29

-- the kinds, from 01 on
unfoldable pub kinds : List Kind
kinds =
    is_start
    ∷ is_read
    ∷ is_write
    ∷ is_prepare
    ∷ is_save
    ∷ is_commit
    ∷ is_abort
    ∷ is_settle
    ∷ is_crash
    ∷ is_restart
    ∷ is_status
    ∷ is_look
    ∷ []

-- the number of a line's kind
abbrev pub kind_field : List ℕ → ℕ
kind_field l = number_in (take 2 l)

-- the call that the digits of a line stand for
unfoldable pub call_in : List ℕ → Call
call_in l =
    record {
      kind = get_or kinds (kind_field l - 1) is_start;
      who = txn (number_in (take 8 (drop 2 l)));
      what = obj (number_in (take 2 (drop 10 l)));
      value = number_in (take 16 (drop 12 l));
    }

-- the right length, lower-case hexadecimal digits and a line feed, a kind from 01 to 0c, unused fields zero
unfoldable pub is_frame : List ℕ → Bool
is_frame l =
    eqb (length l) frame_length
    && all is_digit (take 28 l)
    && eqb (get_or l 28 0) line_feed
    && leb 1 (kind_field l)
    && leb (kind_field l) (length kinds)
    && unused_zero (call_in l)

-- the call of a line, or none where it is a bad frame
unfoldable pub read_frame : List ℕ → Option Call
read_frame l = cond (is_frame l) (some (call_in l)) none

-- the line of a call
unfoldable pub write_frame : Call → List ℕ
write_frame c =
    digits 2 (kind_number c.kind)
    ++ digits 8 c.who.num
    ++ digits 2 c.what.num
    ++ digits 16 c.value
    ++ line_feed ∷ []

-- ---- answer lines: number (2 digits), value (16), line feed

-- the line of an answer
unfoldable pub write_answer : Answer → List ℕ
write_answer a = digits 2 a.number ++ digits 16 a.value ++ line_feed ∷ []
