-- A frame read and written back is the same frame; a call written as a frame reads back as that call; two lines that
-- read as the same call are the same line.
-- Rests on the rules' Frames, on basics' Ranges, and on Stretches and Digits. Assumes nothing.
use Rattle.std.specs.Prelude.{◌≡◌, refl, Bool, true, false, cond, ◌&&◌, List, [], ◌∷◌, ◌++◌, ◌↔◌, ℕ, suc, ◌+◌, ◌-◌, ◌^◌, ◌≤◌, ◌<◌, T, eqb, leb, length, get_or, take, drop}
use Rattle.std.proofs.Common.{sym, ap, ◌∙◌, arith, eqb→eq, leb→le, length-drop, length-take-le, take-add, take-suc, take_all}
use Rattle.std.proofs.Math.Option.{none, some, none-ne-some}
use Rattle.rules.specs.Tests.{every, all}
use Rattle.rules.specs.Answers.{Kind, is_start, is_read, is_write, is_prepare, is_save, is_commit, is_abort, is_settle, is_crash, is_restart, is_status, is_look, kind_number, Call}
use Rattle.rules.specs.Frames.{line_feed, frame_length, is_digit, number_in, digits, kinds, kind_field, call_in, is_frame, read_frame, write_frame, in_width, unused_zero}
use Rattle.basics.specs.Ranges.{every_at}
use Rattle.frames_laws.specs.Stretches.{passed, all_append, all_stretch}
use Rattle.frames_laws.specs.Digits.{digits_are_digits, number_of_digits, digits_of_number, number_bound}

-- ---- kinds and their numbers

-- the kind of each number from 01 to 0c has that number
number_of_kind : (n : ℕ) → 1 ≤ n → n ≤ 12 → kind_number (get_or kinds (n - 1) is_start) ≡ n
unfolding every kinds kind_number
number_of_kind n h k =
    let there = every_at 12 (λ i. eqb (kind_number (get_or kinds i is_start)) (suc i)) tt (n - 1) (omega arith) in
    omega (arith, eqb→eq)

-- the number of each kind is from 01 to 0c, and the kind of that number is that kind
numbered : (k : Kind)
    → T (leb 1 (kind_number k) && leb (kind_number k) 12) × (get_or kinds (kind_number k - 1) is_start ≡ k)
unfolding kinds kind_number
numbered is_start = (tt, refl)
numbered is_read = (tt, refl)
numbered is_write = (tt, refl)
numbered is_prepare = (tt, refl)
numbered is_save = (tt, refl)
numbered is_commit = (tt, refl)
numbered is_abort = (tt, refl)
numbered is_settle = (tt, refl)
numbered is_crash = (tt, refl)
numbered is_restart = (tt, refl)
numbered is_status = (tt, refl)
numbered is_look = (tt, refl)

-- ---- what the tests of a frame say

record Frame (l : List ℕ) : Type 0 where
  long : length l ≡ frame_length
  hex : T (all is_digit (take 28 l))
  ended : get_or l 28 0 ≡ line_feed
  kind_low : 1 ≤ kind_field l
  kind_high : kind_field l ≤ 12
  unused : T (unused_zero (call_in l))

frame_iff : (l : List ℕ) → T (is_frame l) ↔ Frame l
unfolding is_frame kinds
frame_iff l = (
  λ t.
      let (((((long, hex), ended), kind_low), kind_high), unused) = simp passed at t in
      record { long = long; hex = hex; ended = ended; kind_low = kind_low; kind_high = kind_high; unused = unused },
  λ f. simp passed (((((f.long, f.hex), f.ended), f.kind_low), f.kind_high), f.unused),
)

-- ---- the fields of a frame

-- w digits from place `at` on
module _ (l : List ℕ) (f : Frame l) (at w : ℕ) (fits : T (leb (at + w) 28)) where
  field_hex : T (all is_digit (take w (drop at l)))
  field_hex = all_stretch is_digit at w 28 l (leb→le (at + w) 28 fits) f.hex

  field_length : length (take w (drop at l)) ≡ w
  field_length = length-take-le w (drop at l) (rw length-drop (omega (arith, leb→le (at + w) 28 fits)))

  field_bound : number_in (take w (drop at l)) < 16 ^ w
  field_bound = rw field_length at (number_bound (take w (drop at l)) field_hex)

  field_back : digits w (number_in (take w (drop at l))) ≡ take w (drop at l)
  field_back = rw field_length at (digits_of_number (take w (drop at l)) field_hex)

-- a frame is its fields and a line feed
fields_joined : (l : List ℕ) → Frame l
    → take 2 l ++ take 8 (drop 2 l) ++ take 2 (drop 10 l) ++ take 16 (drop 12 l) ++ line_feed ∷ [] ≡ l
fields_joined l f =
    rw (← (take-add 2 8 l), ← (take-add 10 2 l), ← (take-add 12 16 l), ← f.ended)
    (sym (take-suc l 28 0 (omega arith)) ∙ take_all 29 l (omega arith))

-- ---- reading

-- what a test lets through
let_through : {A : Type 0} (b : Bool) (x y : A) → (cond b (some x) none ≡ some y) ↔ (T b × (x ≡ y))
let_through true x y = (λ e. (tt, cc), λ r. ap some r.1)
let_through false x y = (λ e. absurd (none-ne-some y e), λ r. absurd r.0)

read_iff : (l : List ℕ) (c : Call) → (read_frame l ≡ some c) ↔ (Frame l × (call_in l ≡ c))
unfolding read_frame
read_iff l c = (
  λ e. let (t, r) = (let_through (is_frame l) (call_in l) c).0 e in ((frame_iff l).0 t, r),
  λ r. (let_through (is_frame l) (call_in l) c).1 ((frame_iff l).1 r.0, r.1),
)

-- what a line reads as has its widths
pub read_in_width : (l : List ℕ) (c : Call) → read_frame l ≡ some c → T (in_width c)
unfolding in_width call_in
read_in_width l c e =
    let (f, r) = (read_iff l c).0 e in
    rw (← r) (simp passed ((field_bound l f 2 8 tt, field_bound l f 10 2 tt), field_bound l f 12 16 tt))

-- what a line reads as has its unused fields zero
pub read_unused_zero : (l : List ℕ) (c : Call) → read_frame l ≡ some c → T (unused_zero c)
read_unused_zero l c e = let (f, r) = (read_iff l c).0 e in rw r at f.unused

-- a frame read and written back is the same frame
pub written_back : (l : List ℕ) (c : Call) → read_frame l ≡ some c → write_frame c ≡ l
unfolding write_frame call_in
written_back l c e =
    let (f, r) = (read_iff l c).0 e in
    rw (← r, number_of_kind (kind_field l) f.kind_low f.kind_high)
    (rw (field_back l f 0 2 tt, field_back l f 2 8 tt)
    (rw (field_back l f 10 2 tt, field_back l f 12 16 tt) (fields_joined l f)))

-- ---- writing

-- the kind field of a written call is the number of its kind
written_kind : (c : Call) → kind_field (write_frame c) ≡ kind_number c.kind
unfolding write_frame digits
written_kind c =
    let (low, high) = simp passed at (numbered c.kind).0 in
    number_of_digits 2 (kind_number c.kind) (omega arith)

written_call : (c : Call) → T (in_width c) → call_in (write_frame c) ≡ c
unfolding in_width call_in write_frame digits
written_call c w =
    let ((who, what), value) = simp passed at w in
    rw (written_kind c, (numbered c.kind).1, number_of_digits 8 c.who.num who)
    (rw (number_of_digits 2 c.what.num what, number_of_digits 16 c.value value))

written_digits : (k x o v : ℕ) → T (all is_digit (digits 2 k ++ digits 8 x ++ digits 2 o ++ digits 16 v))
written_digits k x o v = search (all_append, digits_are_digits)

written_frame : (c : Call) → T (in_width c) → T (unused_zero c) → Frame (write_frame c)
unfolding write_frame digits
written_frame c w u =
    let (low, high) = simp passed at (numbered c.kind).0 in
    record {
      long = refl;
      hex = written_digits (kind_number c.kind) c.who.num c.what.num c.value;
      ended = refl;
      kind_low = omega (arith, written_kind c);
      kind_high = omega (arith, written_kind c);
      unused = rw (written_call c w) u;
    }

-- a call written as a frame reads back as that call
pub read_back : (c : Call) → T (in_width c) → T (unused_zero c) → read_frame (write_frame c) ≡ some c
read_back c w u = (read_iff (write_frame c) c).1 (written_frame c w u, written_call c w)

-- two lines that read as the same call are the same line
pub one_line : (l m : List ℕ) (c : Call) → read_frame l ≡ some c → read_frame m ≡ some c → l ≡ m
one_line l m c e f = sym (written_back l c e) ∙ written_back m c f
