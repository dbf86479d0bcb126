use Rattle.std.proofs.Common.{arith}
use Rattle.stepping.proofs.Answering.{leaves_sound, fits_room, within_text, goes_on, begun, gone_on, finished}
use Rattle.stepping.proofs.Answerer.answer.Goals as goal

pub invariant_of-self : goal.invariant_of-self
invariant_of-self g c = record { sound = leaves_sound c.run-ran.ensures c.loop-at.self.sound }

pub overflow_mul-filled : goal.overflow_mul-filled
overflow_mul-filled g c = omega (arith, fits_room c.run-ran.ensures)

pub shared_ref_as_front-write_all : goal.shared_ref_as_front-write_all
shared_ref_as_front-write_all g c = omega (arith, fits_room c.run-ran.ensures)

pub overflow_add-at : goal.overflow_add-at
overflow_add-at g c = omega (arith, within_text c.run-ran.ensures)

pub loop-at-smaller : goal.loop-at-smaller
loop-at-smaller g c = omega (arith, within_text c.run-ran.ensures, goes_on c.run-ran.ensures (omega arith) (omega arith))

pub loop-at-init : goal.loop-at-init
loop-at-init g c = begun _ _ _ c.args.self.now.sound

pub loop-at-preserved : goal.loop-at-preserved
loop-at-preserved g c =
    gone_on c.loop-at.self.sound c.loop-at.invariant c.run-ran.ensures c.in_ok-write_all.ensures.bytes c.args.self.now.sound

pub returns : goal.returns
returns g c = finished c.loop-at.invariant (omega arith)
