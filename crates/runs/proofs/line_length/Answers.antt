-- `runs::line_length` meets its contract: the line ends at the first line feed, or with the text.
-- Assumes nothing.
use Rattle.std.proofs.Common.{◌≡◌, sym, ◌∙◌, List, ℕ, ◌≤◌, ◌<◌, Bool, false, None, arith, length, get_or}
use Rattle.std.specs.List.{position, position_or_len}
use Rattle.std.proofs.lemmas.Bool.{eqb-true, eqb-false}
use Rattle.std.proofs.lemmas.Grind.{common_steps}
use Rattle.std.proofs.lemmas.List.Quantifiers.{position-Some}
use Rattle.std.proofs.lemmas.List.Sums.{fails_before_first}
use Rattle.rules.specs.Frames.{line_feed}
use Rattle.runs.specs.Cut.{is_line_feed, ends_at, ends_with_text}
use Rattle.runs.proofs.line_length.Goals as goal

position-None : (p : ℕ → Bool) (l : List ℕ) → position p l ≡ None → (k : ℕ) → k < length l → p (get_or l k 0) ≡ false
position-None p l e k h =
    let past : length l ≤ position_or_len p l = grind (arith, common_steps) in
    fails_before_first p l k 0 (omega arith)

pub overflow_add-result : goal.overflow_add-result
overflow_add-result c = omega (arith, (position-Some is_line_feed c.args.text.now c.in-Some.last 0 (sym c.line_end.ensures ∙ c.in-Some.is)).0)

pub returns-in-Some : goal.returns-in-Some
returns-in-Some c =
    let text = c.args.text.now in
    let (within, ends, before) = position-Some is_line_feed text c.in-Some.last 0 (sym c.line_end.ensures ∙ c.in-Some.is) in
    ends_at text c.in-Some.last within (λ k h. eqb-false (get_or text k 0) line_feed (before k h))
    (eqb-true (get_or text c.in-Some.last 0) line_feed ends)

pub returns-in-None : goal.returns-in-None
returns-in-None c =
    let text = c.args.text.now in
    ends_with_text text c.requires
    (λ k h. eqb-false (get_or text k 0) line_feed (position-None is_line_feed text (sym c.line_end.ensures ∙ c.in-None.is) k h))
