-- `Digits::read` meets its contract: a line of another length or end, and one whose numbers tell of another character than
-- digits, is refused by the rules too; of any other the rules read what its fields ask.
-- Assumes nothing.
use Rattle.std.proofs.Common.{◌≡◌, ◌∙◌, Bool, List, ℕ, ◌+◌, ◌*◌, ◌^◌, ◌<◌, arith, T, length}
use Rattle.rules.specs.Frames.{frame_length}
use Rattle.basics.specs.Logic.{from_true}
use Rattle.frames.specs.Parts.{no_digit}
use Rattle.frames.proofs.Lines.{wrong_length, wrong_end, Numbers, all_small, wrong_character, value_fits, read_fields}
use Rattle.frames.proofs.digits.Digits.read.Goals.{After-number-low, Else-line-ne-LINE_FEED, Else-not-all_digits}
use Rattle.frames.proofs.digits.Digits.read.Goals as goal

-- where its length and its line feed are known to be right
abbrev shaped : After-number-low → Else-line-ne-LINE_FEED
shaped c = (goal.at.After-number-low c).Else-line-ne-LINE_FEED

-- the line, and the numbers of its fields
abbrev line : After-number-low → List ℕ
line c = (shaped c).before.before.before.before.args.line.now

numbers : (c : After-number-low)
    → Numbers (line c) c.number-kind.result c.number-who.result
    c.number-what.result c.number-high.result c.number-low.result
numbers c =
    record {
      kind = c.number-kind.ensures;
      who = c.number-who.ensures;
      what = c.number-what.ensures;
      high = c.number-high.ensures;
      low = c.number-low.ensures;
    }

-- the test of the five numbers
abbrev digits_alone : After-number-low → Bool
digits_alone c =
    all_small c.number-kind.result c.number-who.result
    c.number-what.result c.number-high.result c.number-low.result

-- where it passes
module _ (c : Else-not-all_digits) where
  long : length (line (goal.at.Else-not-all_digits c).After-number-low) ≡ frame_length
  long = c.if-other_length.false

  small : T (digits_alone (goal.at.Else-not-all_digits c).After-number-low)
  small = from_true (digits_alone (goal.at.Else-not-all_digits c).After-number-low) c.if-not-all_digits.false

  fits : c.number-high.result * no_digit + c.number-low.result < 2 ^ 64
  fits = value_fits _ _ _ _ _ _ (numbers (goal.at.Else-not-all_digits c).After-number-low) long small

pub returns-then-other_length : goal.returns-then-other_length
returns-then-other_length c = wrong_length c.args.line.now c.if-other_length.true

pub returns-then-line-ne-LINE_FEED : goal.returns-then-line-ne-LINE_FEED
returns-then-line-ne-LINE_FEED c = wrong_end c.args.line.now c.if-line-ne-LINE_FEED.true

pub returns-then-not-all_digits : goal.returns-then-not-all_digits
returns-then-not-all_digits c = wrong_character _ _ _ _ _ _ (numbers (goal.at.returns-then-not-all_digits c).After-number-low) (λ t. rw c.if-not-all_digits.true at t)

pub overflow_mul-high : goal.overflow_mul-high
overflow_mul-high c = omega (arith, fits (goal.at.overflow_mul-high c).Else-not-all_digits)

pub overflow_add-high : goal.overflow_add-high
overflow_add-high c = omega (arith, fits (goal.at.overflow_add-high c).Else-not-all_digits)

pub returns : goal.returns
returns c = let all : Else-not-all_digits = (goal.at.returns c).Else-not-all_digits in
    c.ask.ensures
    ∙ read_fields _ _ _ _ _ _ (numbers (goal.at.returns c).After-number-low) (long all) (small all) c.if-line-ne-LINE_FEED.false
