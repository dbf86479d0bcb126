-- What it means that the lines of a text were answered as the rules say, from an input that may know what it still gives,
-- to an output that may know what it holds.
-- Rests on the rules' Layout and Session.
use Rattle.std.specs.Prelude.{◌≡◌, Bool, true, false, List, ◌++◌, ℕ, ◌+◌, ◌≤◌, ◌<◌, ◌^◌, ◌-◌, length, Option, None, Some, ⊤}
use Rattle.std.specs.Io.KnownBytes.{Appends}
use Rattle.rules.specs.Layout.{pack, unpack}
use Rattle.rules.specs.Session.{lines, answer_lines, tables_after_lines, session}

-- the words are those that the lines leave, and their answer lines were written, one after the other and nothing else
pub record Answered (ws text : List ℕ) (before : Option (List ℕ)) (vs : List ℕ) (after : Option (List ℕ)) : Type 0 where
  pub left : vs ≡ pack (tables_after_lines (unpack ws) (lines text))
  pub written : Appends before after (answer_lines (unpack ws) (lines text))

-- of the kept bytes p and the input's bytes xs so much is answered that the kept bytes q and the input's bytes ys are left
-- to answer, which are n bytes fewer at least
pub record Onward (n : ℕ) (ws p xs : List ℕ) (before : Option (List ℕ)) (vs q ys : List ℕ) (after : Option (List ℕ)) : Type 0 where
  pub fewer : length ys + n ≤ length xs
  pub newly : List ℕ
  pub written : Appends before after newly
  pub answers : answer_lines (unpack ws) (lines (p ++ xs)) ≡ newly ++ answer_lines (unpack vs) (lines (q ++ ys))
  pub tables : tables_after_lines (unpack ws) (lines (p ++ xs)) ≡ tables_after_lines (unpack vs) (lines (q ++ ys))

-- the same, where the input's bytes are known
abbrev pub OnwardIfKnown : ℕ → List ℕ → List ℕ → Option (List ℕ) → Option (List ℕ) → List ℕ → List ℕ → Option (List ℕ) → Option (List ℕ) → Type 0
OnwardIfKnown n ws p None before vs q input after = ⊤
OnwardIfKnown n ws p (Some xs) before vs q None after = ⊥
OnwardIfKnown n ws p (Some xs) before vs q (Some ys) after = Onward n ws p xs before vs q ys after

-- the kept bytes and then all of the input's bytes were answered, where these are known and as many as a run can take
abbrev pub AllAnswered : List ℕ → List ℕ → Option (List ℕ) → Option (List ℕ) → List ℕ → Option (List ℕ) → Type 0
AllAnswered ws p None before vs after = ⊤
AllAnswered ws p (Some xs) before vs after = length xs < 2 ^ 64 - 1 → Answered ws (p ++ xs) before vs after

-- the session of the input's bytes was written, and nothing else, where these are known and as many as a run can take
abbrev pub WritesSession : Option (List ℕ) → Option (List ℕ) → Option (List ℕ) → Type 0
WritesSession None before after = ⊤
WritesSession (Some xs) before after = length xs < 2 ^ 64 - 1 → Appends before after (session xs)

-- a turn, by whether the input may go on
abbrev pub Turned : Bool → List ℕ → List ℕ → Option (List ℕ) → Option (List ℕ) → List ℕ → List ℕ → Option (List ℕ) → Option (List ℕ) → Type 0
Turned true ws p known before vs q input after = OnwardIfKnown 1 ws p known before vs q input after
Turned false ws p known before vs q input after = AllAnswered ws p known before vs after
