use Rattle.std.proofs.Common.{rules, arith}
use Rattle.ends_laws.specs.Loops.{turned_none, turned_more, turned_all}
use Rattle.ends_laws.specs.Entries.{slide}
use Rattle.ends.proofs.objects.slide.Goals as goal

pub loop-j-init : goal.loop-j-init
loop-j-init c = turned_none

pub loop-j-preserved : goal.loop-j-preserved
loop-j-preserved c = turned_more c.loop-j.invariant (search rules)

pub returns : goal.returns
unfolding slide
returns c = turned_all c.loop-j.invariant (omega arith)
