use Rattle.std.proofs.Common.{Bool, ℕ, ◌+◌, arith}
use Rattle.rules.specs.Sets.{has}
use Rattle.rules.specs.Tables.{object_count}
use Rattle.rules.specs.Layout.{written_at, word}
use Rattle.basics.specs.Logic.{and_says}
use Rattle.calls.specs.Meaning.{txn_of}
use Rattle.refusals.specs.Lacking.{lacks_in, is_lacking}
use Rattle.refusals.proofs.Readings.{set_passes}
use Rattle.refusals.proofs.Entries.{first_met}
use Rattle.refusals.proofs.first_lacking.Goals.{Start}
use Rattle.refusals.proofs.first_lacking.Goals as goal

-- whether an object is one that the transaction wrote and that lacks its entry
module _ (c : Start) where
  abbrev wrote : ℕ → Bool
  wrote = has (word c.args.t.now.words.now (written_at + c.args.live.place.num))

  abbrev lacking : ℕ → Bool
  lacking = lacks_in c.args.t.now.words.now (txn_of c.args.live.who) c.args.queued

  abbrev both : ℕ → Bool
  both = is_lacking c.args.t.now.words.now (txn_of c.args.live.who) c.args.live.place.num c.args.queued

pub returns-then-lacks : goal.returns-then-lacks
returns-then-lacks c = let at : Start = (goal.at.returns-then-lacks c).Start in
    let i : ℕ = c.loop-i.i in
    first_met object_count (both at) i (omega arith) c.loop-i.invariant.1
    (λ h. (and_says (wrote at i) (lacking at i)).1 (
      set_passes c.has.result (wrote at i) c.has.ensures c.if-has.true,
      set_passes c.lacks.result (lacking at i) c.lacks.ensures c.if-lacks.true,
    ))

pub returns : goal.returns
returns c = first_met object_count (both (goal.at.returns c).Start) object_count
    (omega arith) (λ k h. c.loop-i.invariant.1 k (omega arith)) (λ h. absurd (omega arith))
