-- That the fields which a kind does not use are zero, kind by kind and in the open, so that a call made with them says it
-- by itself.
-- Rests on the rules' Frames, on calls' Meaning and refusals' Reasons. Assumes nothing.
use Rattle.std.specs.Prelude.{◌≡◌, ℕ, T}
use Rattle.rules.specs.Frames.{fields_of, unused_zero}
use Rattle.calls.specs.declared.Kind.{Kind}
use Rattle.calls.specs.declared.Kind.TheVariants.{Start, Read, Write, Prepare, Save, Commit, Abort, Settle, Crash, Restart, Status, Look}
use Rattle.calls.specs.Meaning.{kind_of}
use Rattle.refusals.specs.Reasons.{asking}

abbrev pub UnusedZero : Kind → ℕ → ℕ → ℕ → Type 0
UnusedZero Start x o v = (x ≡ 0) × (o ≡ 0) × (v ≡ 0)
UnusedZero Read x o v = v ≡ 0
UnusedZero Write x o v = Unit {0}
UnusedZero Prepare x o v = v ≡ 0
UnusedZero Save x o v = (x ≡ 0) × (v ≡ 0)
UnusedZero Commit x o v = (o ≡ 0) × (v ≡ 0)
UnusedZero Abort x o v = (o ≡ 0) × (v ≡ 0)
UnusedZero Settle x o v = (x ≡ 0) × (v ≡ 0)
UnusedZero Crash x o v = (x ≡ 0) × (o ≡ 0)
UnusedZero Restart x o v = (x ≡ 0) × (o ≡ 0) × (v ≡ 0)
UnusedZero Status x o v = (o ≡ 0) × (v ≡ 0)
UnusedZero Look x o v = (x ≡ 0) × (v ≡ 0)

-- it is what the rules ask
pub as_ruled : (k : Kind) (x o v : ℕ) → UnusedZero k x o v → T (unused_zero (asking (kind_of k) x o v))
unfolding unused_zero fields_of
as_ruled Start x o v (a, b, c) = rw (a, b, c) tt
as_ruled Read x o v a = rw a tt
as_ruled Write x o v a = tt
as_ruled Prepare x o v a = rw a tt
as_ruled Save x o v (a, b) = rw (a, b) tt
as_ruled Commit x o v (a, b) = rw (a, b) tt
as_ruled Abort x o v (a, b) = rw (a, b) tt
as_ruled Settle x o v (a, b) = rw (a, b) tt
as_ruled Crash x o v (a, b) = rw (a, b) tt
as_ruled Restart x o v (a, b, c) = rw (a, b, c) tt
as_ruled Status x o v (a, b) = rw (a, b) tt
as_ruled Look x o v (a, b) = rw (a, b) tt
