-- The kinds by their numbers.
-- Rests on the rules' Answers and Frames, and on Meaning.
use Rattle.std.specs.Prelude.{Bool, cond, ◌&&◌, ℕ, ◌-◌, leb, length, get_or, Result, Ok, Err}
use Rattle.std.proofs.Math.Option.{Option, none, some}
use Rattle.rules.specs.Answers.{is_start}
use Rattle.rules.specs.Answers as rules
use Rattle.rules.specs.Frames.{kinds}
use Rattle.calls.specs.Meaning.{kind_of}
use Rattle.calls.specs.declared.Kind.{Kind}
use Rattle.calls.specs.declared.UnknownKind.{UnknownKind}

-- a kind's number is from 01 to 0c
abbrev pub is_kind : ℕ → Bool
is_kind n = leb 1 n && leb n (length kinds)

-- the kind of a number from 01 to 0c
abbrev pub kind_numbered : ℕ → rules.Kind
kind_numbered n = get_or kinds (n - 1) is_start

-- the kind that a number names
abbrev pub kind_named : ℕ → Option rules.Kind
kind_named n = cond (is_kind n) (some (kind_numbered n)) none

-- what a number was read as
abbrev pub named_as : Result Kind UnknownKind → Option rules.Kind
named_as (Ok k) = some (kind_of k)
named_as (Err e) = none
