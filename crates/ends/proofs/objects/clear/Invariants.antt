-- `ends::objects::clear` meets its contract. The loop's invariant: the words are those after so many turns.
-- Assumes nothing.
use Rattle.std.proofs.Common.{List, ℕ, ◌+◌, ◌-◌, ◌≤◌}
use Rattle.rules.specs.Tables.{chain_room}
use Rattle.ends_laws.specs.Loops.{Turned}
use Rattle.ends_laws.specs.Entries.{put_entry}
use Rattle.ends.proofs.objects.clear.Given as goal

-- so many entries from n on are cleared
abbrev pub Cleared : List ℕ → ℕ → ℕ → List ℕ → ℕ → Type 0
Cleared ws i n vs m = Turned (λ m. put_entry i (n + m) 0 0) ws vs m

abbrev pub invariant-loop-j : goal.invariant-loop-j
invariant-loop-j l = (l.j - l.n ≤ chain_room - l.n) × Cleared l.initial.words l.o.num l.n l.words (l.j - l.n)
