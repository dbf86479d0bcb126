-- The first line of a text: where it ends, and what tells that it ends there.
-- Rests on the rules' Frames and Session. Assumes nothing.
use Rattle.std.specs.Prelude.{◌≡◌, ◌==◌, Bool, List, [], ◌∷◌, ℕ, zero, suc, ◌+◌, ◌≤◌, ◌<◌, length, get_or, take, drop}
use Rattle.std.proofs.Common.{add-one, arith, eq-eqb, ne_eqb}
use Rattle.std.proofs.Math.Seq.{take-length, drop-length}
use Rattle.rules.specs.Frames.{line_feed}
use Rattle.rules.specs.Session.{onto_first, lines}

abbrev pub is_line_feed : ℕ → Bool
is_line_feed b = b == line_feed

-- the first n bytes of the text are its first line
pub record FirstLine (text : List ℕ) (n : ℕ) : Type 0 where
  pub some : 0 < n
  pub within : n ≤ length text
  pub cut : lines text ≡ take n text ∷ lines (drop n text)

-- none of the first n bytes is a line feed
abbrev pub Unended : List ℕ → ℕ → Type 0
Unended bs n = (k : ℕ) → k < n → get_or bs k 0 ≡ line_feed → ⊥

first_ends : (bs : List ℕ) (n : ℕ) → n < length bs → Unended bs n → get_or bs n 0 ≡ line_feed
    → lines bs ≡ take (suc n) bs ∷ lines (drop (suc n) bs)
unfolding lines onto_first
first_ends [] n h none e = absurd (omega arith)
first_ends (b ∷ bs) zero h none e = rw (eq-eqb b line_feed e)
first_ends (b ∷ bs) (suc n) h none e =
    rw (ne_eqb b line_feed (none 0 (omega arith)), first_ends bs n (omega arith) (λ k l. none (suc k) (omega arith)) e)

-- a line feed at n with none before it ends the first line
pub ends_at : (bs : List ℕ) (n : ℕ) → n < length bs → Unended bs n → get_or bs n 0 ≡ line_feed → FirstLine bs (n + 1)
ends_at bs n h none e = record { some = omega arith; within = omega arith; cut = rw add-one (first_ends bs n h none e) }

alone : (bs : List ℕ) → 0 < length bs → Unended bs (length bs) → lines bs ≡ bs ∷ []
unfolding lines onto_first
alone [] h none = absurd (omega arith)
alone (b ∷ []) h none = rw (ne_eqb b line_feed (none 0 (omega arith)))
alone (b ∷ c ∷ bs) h none =
    rw (ne_eqb b line_feed (none 0 (omega arith)), alone (c ∷ bs) (omega arith) (λ k l. none (suc k) (omega arith)))

-- a text without a line feed is one line
pub ends_with_text : (bs : List ℕ) → 0 < length bs → Unended bs (length bs) → FirstLine bs (length bs)
unfolding lines
ends_with_text bs h none =
    record { some = h; within = omega arith; cut = rw (take-length bs, drop-length bs) (alone bs h none) }
