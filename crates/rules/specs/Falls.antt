-- Who falls with an abort: the transaction and all that depend on it, directly or through others.
-- Rests on Tests, Sets and Tables. That the rounds reach just those is shown in falls_laws.
use Rattle.std.specs.Prelude.{Bool, ◌&&◌, ◌||◌, List, ℕ, zero, suc, eqb}
use Rattle.rules.specs.Tests.{count}
use Rattle.rules.specs.Sets.{has, collect, meets}
use Rattle.rules.specs.Tables.{Txn, Live, place_count, place, place_of, is_live}

-- the places of s, and those of whoever depends on one of s
unfoldable pub and_dependents : List Live → ℕ → ℕ
and_dependents ls s = collect place_count (λ p. has s p || meets (place ls p).depends s)

-- the same, so many times over
unfoldable pub rounds : ℕ → List Live → ℕ → ℕ
rounds zero ls s = s
rounds (suc n) ls s = and_dependents ls (rounds n ls s)

-- the places of those that fall with the transaction at place p: as many rounds as there are places
unfoldable pub fallen : List Live → ℕ → ℕ
fallen ls p = rounds place_count ls (collect place_count (λ q. eqb q p))

-- how many a set of places has
unfoldable pub how_many : ℕ → ℕ
how_many s = count place_count (has s)

-- x is one of the transactions at the places f
unfoldable pub falls : List Live → ℕ → Txn → Bool
falls ls f x = is_live ls x && has f (place_of ls x)
