-- What the fields of the code's table stand for.
-- Rests on the rules' Frames.
use Rattle.rules.specs.Frames.{Fields, uses}
use Rattle.frames.specs.declared.Uses.{Uses}

abbrev pub uses_as : Uses → Fields
uses_as f = uses f.transaction f.object f.value
