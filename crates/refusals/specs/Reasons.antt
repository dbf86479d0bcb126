-- What the code's results stand for among the rules' refusals, and what it means that one is a call's.
-- Rests on the rules' Answers and Layout, on calls' Meaning, and on the parts of the orders.
use Rattle.std.specs.Prelude.{◌≡◌, false, List, ℕ, T, Result, Ok, Err, IfOk}
use Rattle.std.proofs.Math.Option.{Option, none, some}
use Rattle.rules.specs.Tables.{Tables, Txn, Obj, txn, obj, nobody}
use Rattle.rules.specs.Answers.{Kind, is_read, is_write, is_save, is_settle, is_crash, is_look, same_kind, Call, fact, first, refusal}
use Rattle.rules.specs.Answers as rules
use Rattle.rules.specs.Layout.{unpack, sound_words}
use Rattle.calls.specs.declared.Refusal.{Refusal}
use Rattle.calls.specs.declared.existing.Object.{Object}
use Rattle.calls.specs.declared.existing.Live.{Live}
use Rattle.calls.specs.Meaning.{txn_of, object_of, refusal_of, IsLive}
use Rattle.decisions.specs.Orders.{living, naming}

-- the reason, if there is one
abbrev pub reason_of : {A : Type 0} → Result A Refusal → Option rules.Refusal
reason_of (Ok a) = none
reason_of (Err w) = some (refusal_of w)

-- a call, by its kind and fields
abbrev pub calling : Kind → Txn → Obj → ℕ → Call
calling k x o v = record { kind = k; who = x; what = o; value = v }

-- a call, by its kind and the numbers in its fields
abbrev pub asking : Kind → ℕ → ℕ → ℕ → Call
asking k x o v = calling k (txn x) (obj o) v

-- the reason is the rules'
abbrev pub Refuses : Tables → Call → Result Unit Refusal → Type 0
Refuses t c w = reason_of w ≡ refusal t c

-- read and write are refused alike, whatever the value written
abbrev pub RefusesAccess : Tables → Txn → Obj → Result Unit Refusal → Type 0
RefusesAccess t x o w = (v : ℕ) → Refuses t (calling is_read x o 0) w × Refuses t (calling is_write x o v) w

-- save, settle and look are refused alike on sound words
abbrev pub RefusesObject : Obj → Result Unit Refusal → Type 0
RefusesObject o w =
    (ws : List ℕ) → T (sound_words ws)
    → Refuses (unpack ws) (calling is_save nobody o 0) w
    × Refuses (unpack ws) (calling is_settle nobody o 0) w
    × Refuses (unpack ws) (calling is_look nobody o 0) w

-- ---- a part of an order

-- the reason is the first of some whose fact holds, and there is none where none of them does
abbrev pub FirstOf : Tables → Call → List rules.Refusal → Option rules.Refusal → Type 0
FirstOf t c l r = r ≡ first l (λ q. fact q t c)

-- the transaction x is found live, or was never given out or is no longer live
pub record Lives (t : Tables) (x : Txn) (w : Result Live Refusal) : Type 0 where
  pub first_of : (k : Kind) (o : Obj) (v : ℕ) → FirstOf t (calling k x o v) living (reason_of w)
  pub found : IfOk w (λ l. IsLive t l × (txn_of l.who ≡ x))

-- and o an object
pub record Names (t : Tables) (x : Txn) (o : Obj) (w : Result (Live × Object) Refusal) : Type 0 where
  pub first_of : (k : Kind) → same_kind k is_crash ≡ false → (v : ℕ) → FirstOf t (calling k x o v) naming (reason_of w)
  pub found : IfOk w (λ f. IsLive t f.0 × (txn_of f.0.who ≡ x) × (object_of f.1 ≡ o))
