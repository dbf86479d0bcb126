use Rattle.std.proofs.Common.{◌≡◌, subst, ℕ, ◌+◌, ◌-◌, arith}
use Rattle.ends_laws.specs.Loops.{turned_none, turned_more, turned_all}
use Rattle.ends_laws.specs.Entries.{put_entry, clear}
use Rattle.ends.proofs.objects.clear.Invariants.{Cleared}
use Rattle.ends.proofs.objects.clear.Goals as goal

pub loop-j-init : goal.loop-j-init
loop-j-init c = let a = c.args in
    (omega arith, subst (Cleared a.words.now a.o.num a.n a.words.now) (omega arith) turned_none)

pub loop-j-preserved : goal.loop-j-preserved
loop-j-preserved c = let turn = c.loop-j in
    let call = c.set_entry in
    let a = c.args in
    let here : turn.j ≡ a.n + (turn.j - a.n) = omega arith in (
      omega arith,
      subst (Cleared a.words.now a.o.num a.n call.new.words) (omega arith)
          (turned_more turn.invariant.1
          (subst (λ (m : ℕ). call.new.words ≡ put_entry a.o.num m 0 0 turn.words) here call.ensures)),
    )

pub returns : goal.returns
unfolding clear
returns c = turned_all c.loop-j.invariant.1 (omega arith)
