-- The numbers of what can have become of a transaction.
use Rattle.std.specs.Prelude.{ℕ}
use Rattle.acts.specs.declared.Fate.{Fate}
use Rattle.acts.specs.declared.Fate.TheVariants.{Live, Committed, Aborted}

abbrev pub fate_number : Fate → ℕ
fate_number Live = 1
fate_number Committed = 2
fate_number Aborted = 3
