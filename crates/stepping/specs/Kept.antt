-- What the whole lines of a text are, and what is kept of an unfinished one.
-- Rests on the rules' Frames.
use Rattle.std.specs.Prelude.{◌≡◌, List, ◌⊎◌, ℕ, ◌+◌, ◌≤◌, ◌<◌, length, get_or, take, drop}
use Rattle.rules.specs.Frames.{line_feed}

abbrev pub most_kept : ℕ
most_kept = 30

-- the first n bytes end in the last line feed of the text
pub record Whole (text : List ℕ) (n : ℕ) : Type 0 where
  pub within : n ≤ length text
  pub ended : (m : ℕ) → m + 1 ≡ n → get_or text m 0 ≡ line_feed
  pub unended : (k : ℕ) → n ≤ k → k < length text → get_or text k 0 ≡ line_feed → ⊥

-- the bytes between two places stand at the front now, all of them or as many as are kept
pub record Moved (bs : List ℕ) (from end n : ℕ) (cs : List ℕ) : Type 0 where
  pub within : from + n ≤ end
  pub few : n ≤ most_kept
  pub all : (from + n ≡ end) ⊎ (n ≡ most_kept)
  pub moved : take n cs ≡ take n (drop from bs)
