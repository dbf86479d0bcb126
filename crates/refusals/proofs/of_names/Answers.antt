-- `refusals::of_names` meets its contract. The object is one or not, and after that the transaction tells.
-- Assumes nothing.
use Rattle.std.proofs.Common.{◌≡◌, refl, false, [], ◌∷◌, ℕ}
use Rattle.std.proofs.Math.Option.{Option}
use Rattle.rules.specs.Answers.{Kind, is_crash, same_kind, Call, Refusal, no_such_object}
use Rattle.rules.specs.Layout.{unpack}
use Rattle.calls.specs.Meaning.{txn_of, obj_of}
use Rattle.decisions.specs.Orders.{living, naming}
use Rattle.decisions.specs.Ends.{object_first, object_none}
use Rattle.refusals.specs.Reasons.{calling, FirstOf}
use Rattle.refusals.proofs.Deciding.{handed_up, because, no_reason, after}
use Rattle.refusals.proofs.of_names.Goals.{Else-no_object, Start}
use Rattle.refusals.proofs.of_names.Goals as goal

pub returns-then-no_object : goal.returns-then-no_object
returns-then-no_object c = let call : Kind → ℕ → Call = λ k v. calling k (txn_of c.args.s.now.who) (obj_of c.args.o) v in
    record {
      first_of = λ k d v.
          because c.args.s.now.tables.words.now (call k v) naming no_such_object (object_first (unpack c.args.s.now.tables.words.now) (call k v) living d c.if-no_object.true);
      found = tt;
    }

-- it is an object, and the transaction tells the reason
module _ (c : Else-no_object) where
  abbrev start : Start
  start = (goal.at.Else-no_object c).Start

  abbrev call : Kind → ℕ → Call
  call k v = calling k (txn_of start.args.s.now.who) (obj_of start.args.o) v

  then : (k : Kind) → same_kind k is_crash ≡ false → (v : ℕ) (r : Option Refusal) → FirstOf (unpack start.args.s.now.tables.words.now) (call k v) living r
      → FirstOf (unpack start.args.s.now.tables.words.now) (call k v) naming r
  then k d v =
      after start.args.s.now.tables.words.now (call k v) (no_such_object ∷ []) living
      (no_reason start.args.s.now.tables.words.now (call k v) (no_such_object ∷ []) (object_none (unpack start.args.s.now.tables.words.now) (call k v) d c.if-no_object.false))

pub returns-in_err-live : goal.returns-in_err-live
returns-in_err-live c = rw (handed_up c.from_residual.ensures) (record {
  first_of = λ k d v. then (goal.at.returns-in_err-live c).Else-no_object k d v _ (c.in_err-live.ensures.first_of k (obj_of c.args.o) v);
  found = tt;
})

pub returns : goal.returns
returns c = record {
  first_of = λ k d v. then (goal.at.returns c).Else-no_object k d v _ (c.in_ok-live.ensures.first_of k (obj_of c.args.o) v);
  found = (c.in_ok-live.ensures.found.0, c.in_ok-live.ensures.found.1, refl);
}
