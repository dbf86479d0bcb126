-- `maruvoog::mv_fresh` meets its contract: words of the right count are made fresh, and others are left as they are.
-- Assumes nothing.
use Rattle.std.proofs.Common.{◌≡◌, List, ℕ, eq-eqb, ne_eqb, length}
use Rattle.rules.specs.Tables.{fresh}
use Rattle.rules.specs.Answers.{unsound}
use Rattle.rules.specs.Layout.{word_count, pack}
use Rattle.rules.specs.Session.{plainly, fresh_words}
use Rattle.calls.specs.declared.Answer.{Answer}
use Rattle.calls.specs.Meaning.{answer_of}
use Rattle.maruvoog.specs.Promised.{Leaves}
use Rattle.maruvoog.proofs.mv_fresh.Goals as goal

right_count : (ws vs : List ℕ) (a : Answer) → length ws ≡ word_count → vs ≡ pack fresh
    → answer_of a ≡ record { number = 0; value = 0 } → Leaves (fresh_words ws) a vs
unfolding fresh_words
right_count ws vs a e f g = let t = eq-eqb (length ws) word_count e in record { answer = rw t g; words = rw t f }

wrong_count : (ws : List ℕ) (a : Answer) → (length ws ≡ word_count → ⊥) → answer_of a ≡ plainly unsound → Leaves (fresh_words ws) a ws
unfolding fresh_words
wrong_count ws a e g = let t = ne_eqb (length ws) word_count e in record { answer = rw t g; words = rw t }

pub returns-then-right_count : goal.returns-then-right_count
returns-then-right_count c = right_count _ _ _ c.if-right_count.true c.fresh.ensures c.done.ensures

pub returns-else-right_count : goal.returns-else-right_count
returns-else-right_count c = wrong_count _ _ c.if-right_count.false c.unsound.ensures
