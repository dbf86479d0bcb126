-- What it means that a call on sound words was answered and left as the rules say.
-- Rests on the rules' Answers and Layout, on calls' Meaning and lookups' Places.
use Rattle.std.specs.Prelude.{◌≡◌, Bool, not, ◌&&◌, List, ℕ, Option}
use Rattle.std.proofs.Math.Option.{some}
use Rattle.rules.specs.Sets.{has}
use Rattle.rules.specs.Tables.{Live, Tables}
use Rattle.rules.specs.Answers as rules
use Rattle.rules.specs.Layout.{pack, unpack}
use Rattle.calls.specs.declared.Answer.{Answer}
use Rattle.calls.specs.declared.Refusal.{Refusal}
use Rattle.calls.specs.declared.existing.Place.{Place}
use Rattle.calls.specs.Meaning.{answer_of, refusal_of}
use Rattle.lookups.specs.Places.{seat_number, live_place}

-- the answer is the rules', and the words left are what the rules' tables pack to
pub record Acted (ws : List ℕ) (c : rules.Call) (a : Answer) (vs : List ℕ) : Type 0 where
  pub answered : answer_of a ≡ (rules.call (unpack ws) c).answer
  pub left : vs ≡ pack (rules.call (unpack ws) c).tables

-- a call that nothing refuses gives and leaves what its kind gives and leaves
pub record Did (ws : List ℕ) (c : rules.Call) (r : ℕ) (vs : List ℕ) : Type 0 where
  pub given : r ≡ rules.done_value c.kind (unpack ws) c
  pub left : vs ≡ pack (rules.done_leaves c.kind (unpack ws) c)

-- the transaction that the call names has that place, or is not live
abbrev pub Placed : Tables → rules.Call → Option Place → Type 0
Placed t c seat = seat_number seat ≡ live_place t.live c.who

-- the call is refused, and for that reason
abbrev pub RefusedFor : Tables → rules.Call → Refusal → Type 0
RefusedFor t c why = some (refusal_of why) ≡ rules.refusal t c

-- object i is accessed and not prepared
abbrev pub is_open : Live → ℕ → Bool
is_open l i = has l.accessed i && not (has l.prepared i)
