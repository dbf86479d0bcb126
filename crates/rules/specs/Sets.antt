-- Sets of small numbers, each written as one number: bit i stands for the member i.
-- Rests on Tests.
use Rattle.std.specs.Prelude.{Bool, not, cond, ◌&&◌, ◌||◌, ℕ, zero, suc, ◌+◌, ◌/◌, ◌%◌, ◌^◌, eqb}
use Rattle.rules.specs.Tests.{every, some_below, ◌⇒◌}

-- how many members a set of objects or of places can have
abbrev pub width : ℕ
width = 32

-- i is a member of s
unfoldable pub has : ℕ → ℕ → Bool
has s i = eqb (s / 2 ^ i % 2) 1

-- the set of the numbers below w that pass
unfoldable pub collect : ℕ → (ℕ → Bool) → ℕ
collect zero p = 0
collect (suc w) p = collect w p + cond (p w) (2 ^ w) 0

-- s and the member i
unfoldable pub with_member : ℕ → ℕ → ℕ
with_member s i = collect width (λ j. has s j || eqb j i)

-- s less the member i
unfoldable pub without_member : ℕ → ℕ → ℕ
without_member s i = collect width (λ j. has s j && not (eqb j i))

-- every member of the first is one of the second
unfoldable pub within : ℕ → ℕ → Bool
within s r = every width (λ i. has s i ⇒ has r i)

-- some member of the first is one of the second
unfoldable pub meets : ℕ → ℕ → Bool
meets s r = some_below width (λ i. has s i && has r i)
