-- What the code's calls stand for among the rules' calls.
-- Rests on the rules' Answers and on Meaning, which a call's own fact cites.
use Rattle.rules.specs.Answers as rules
use Rattle.calls.specs.Meaning.{call_with}
use Rattle.calls.specs.declared.call.Call.{Call}

abbrev pub call_of : Call → rules.Call
call_of c = call_with c.kind c.who c.what c.value
