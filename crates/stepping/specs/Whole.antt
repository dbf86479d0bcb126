-- A program that starts with fresh tables and nothing kept writes the session of its input.
-- Rests on the rules' Tables, Layout, Runs and Session, on words_laws' Words, and on Answered. Assumes nothing.
use Rattle.std.specs.Prelude.{◌≡◌, refl, List, [], ℕ, ◌-◌, ◌^◌, ◌<◌, length, Option, None, Some}
use Rattle.rules.specs.Tables.{fresh}
use Rattle.rules.specs.Layout.{pack}
use Rattle.rules.specs.Runs.{fresh_sound}
use Rattle.rules.specs.Session.{session}
use Rattle.words_laws.specs.Words.{tables_again}
use Rattle.stepping.specs.Answered.{AllAnswered, WritesSession}

-- behind what the output holds
pub writes_session : (ws vs : List ℕ) (input before after : Option (List ℕ)) → ws ≡ pack fresh
    → AllAnswered ws [] input before vs after → WritesSession input before after
unfolding session
writes_session ws vs None before after e so = tt
writes_session ws vs (Some text) before after e so = λ h. rw (e, tables_again fresh fresh_sound) at (so h).written

-- and alone, where it holds nothing
pub whole_session : (text vs out : List ℕ) → length text < 2 ^ 64 - 1 → AllAnswered (pack fresh) [] (Some text) (Some []) vs (Some out)
    → out ≡ session text
whole_session text vs out h so = writes_session (pack fresh) vs (Some text) (Some []) (Some out) refl so h
