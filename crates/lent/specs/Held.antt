-- The rules' tables that lent words hold.
-- Rests on the rules' Tables and Layout.
use Rattle.rules.specs.Tables as rules
use Rattle.rules.specs.Layout.{unpack}
use Rattle.lent.specs.declared.Tables.{Tables}

abbrev pub held : Tables → rules.Tables
held t = unpack t.words.now
