-- What the code's parsed lines stand for.
-- Rests on the rules' Answers and on calls' Calls.
use Rattle.std.specs.Prelude.{Option, Some, None}
use Rattle.std.proofs.Math.Option as math
use Rattle.rules.specs.Answers as rules
use Rattle.calls.specs.declared.call.Call.{Call}
use Rattle.calls.specs.Calls.{call_of}

abbrev pub parsed_as : Option Call → math.Option rules.Call
parsed_as (Some c) = math.some (call_of c)
parsed_as None = math.none
