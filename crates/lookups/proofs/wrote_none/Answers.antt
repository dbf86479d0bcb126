use Rattle.std.proofs.Common.{sym, arith}
use Rattle.std.proofs.lemmas.Bool.Decides.{nat_tests}
use Rattle.basics.specs.Logic.{is_true, is_false}
use Rattle.lookups.proofs.Writers.{wrote_none_says}
use Rattle.lookups.proofs.wrote_none.Goals as goal

pub returns-then-eq : goal.returns-then-eq
returns-then-eq c = let a = c.args in
    sym (is_false _ (λ t. (wrote_none_says a.words.now a.o.num a.n a.x.num).0 t c.loop-j.j (omega arith) (grind (arith, nat_tests))))

pub returns : goal.returns
returns c = let a = c.args in
    sym (is_true _ ((wrote_none_says a.words.now a.o.num a.n a.x.num).1 (λ j h. c.loop-j.invariant.1 j (omega arith))))
