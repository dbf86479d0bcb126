-- `refusals::of_transaction` meets its contract. Its place tells whether the transaction is live, and its flag is the fact of
-- a number that was never given out.
-- Assumes nothing.
use Rattle.std.proofs.Common.{refl, ap, sym, ◌∙◌, List, ℕ, arith, T}
use Rattle.rules.specs.Tables.{Txn, txn, is_live}
use Rattle.rules.specs.Answers.{never_given_out, no_longer_live, fact}
use Rattle.rules.specs.Layout.{unpack}
use Rattle.words_laws.specs.Words.{unpacked_sound}
use Rattle.decisions.specs.Orders.{living, never_first, gone_first, living_none}
use Rattle.lookups.specs.Places.{seat_number}
use Rattle.lookups.proofs.Living.{below_live, live_below, there_below}
use Rattle.refusals.specs.Reasons.{calling}
use Rattle.refusals.proofs.Readings.{set_passes, unset_fails}
use Rattle.refusals.proofs.Deciding.{because, no_reason}
use Rattle.refusals.proofs.of_transaction.Goals.{In_default, Start}
use Rattle.refusals.proofs.of_transaction.Goals as goal

-- it has no place
gone : (c : In_default)
    → let start : Start = (goal.at.In_default c).Start in
    T (is_live (unpack start.args.s.now.tables.words.now).live (txn start.args.s.now.who.num)) → ⊥
gone c l =
    let start : Start = (goal.at.In_default c).Start in
    let e = ap seat_number (sym c.in_default.is) ∙ start.args.s.now.seated in
    let h = below_live (unpack start.args.s.now.tables.words.now).live (txn start.args.s.now.who.num) 32 e l in
    omega arith

pub returns-in-Some : goal.returns-in-Some
returns-in-Some c = let ws : List ℕ = c.args.s.now.tables.words.now in
    let x : Txn = txn c.args.s.now.who.num in
    let p = c.in-Some.place in
    let e = ap seat_number (sym c.in-Some.is) ∙ c.args.s.now.seated in
    let l = live_below (unpack ws).live x p.num e p.exists in
    record {
      first_of = λ k o v. no_reason ws (calling k x o v) living (living_none (unpack ws) (calling k x o v) (unpacked_sound ws c.args.s.now.tables.sound) l);
      found = ((l, there_below (unpack ws).live x p.num e p.exists), refl);
    }

pub returns-then-never_given : goal.returns-then-never_given
unfolding fact
returns-then-never_given c = let ws : List ℕ = c.args.s.now.tables.words.now in
    let x : Txn = txn c.args.s.now.who.num in
    record {
      first_of = λ k o v.
          because ws (calling k x o v) living never_given_out
          (never_first (unpack ws) (calling k x o v) (set_passes c.never_given.result _ c.never_given.ensures c.if-never_given.true));
      found = tt;
    }

pub returns : goal.returns
unfolding fact
returns c = let ws : List ℕ = c.args.s.now.tables.words.now in
    let x : Txn = txn c.args.s.now.who.num in
    record {
      first_of = λ k o v.
          because ws (calling k x o v) living no_longer_live
          (gone_first (unpack ws) (calling k x o v) (unset_fails c.never_given.result _ c.never_given.ensures c.if-never_given.false) (gone (goal.at.returns c).In_default));
      found = tt;
    }
