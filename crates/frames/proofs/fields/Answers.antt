-- The table is the list of what each of the rules' kinds uses: the entry at the place of a kind is that of the kind.
-- Assumes nothing.
use Rattle.std.proofs.Common.{◌≡◌, refl, ◌+◌, ◌-◌, get_or}
use denote.Enum.Declared.{tag_of}
use Rattle.rules.specs.Frames.{fields_of}
use Rattle.calls.specs.declared.Kind.{Kind}
use Rattle.calls.specs.declared.Kind.TheVariants.{Start, Read, Write, Prepare, Save, Commit, Abort, Settle, Crash, Restart, Status, Look}
use Rattle.calls.specs.contracts.Kind.{the_type}
use Rattle.calls.specs.Meaning.{kind_of}
use Rattle.frames.specs.declared.TheConstants.{USES, NO_FIELD}
use Rattle.frames.specs.Uses.{uses_as}
use Rattle.frames.proofs.fields.Goals as goal

at_kind : (k : Kind) → uses_as (get_or USES (tag_of the_type k + 1 - 1) NO_FIELD) ≡ fields_of (kind_of k)
unfolding fields_of
at_kind Start = refl
at_kind Read = refl
at_kind Write = refl
at_kind Prepare = refl
at_kind Save = refl
at_kind Commit = refl
at_kind Abort = refl
at_kind Settle = refl
at_kind Crash = refl
at_kind Restart = refl
at_kind Status = refl
at_kind Look = refl

pub returns : goal.returns
returns c = at_kind c.args.kind
