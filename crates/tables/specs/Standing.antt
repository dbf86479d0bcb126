-- Where a transaction stands, as the code carries it: its log number and its place.
-- Rests on the rules' Layout, on calls, Tells, Test and Seats. Assumes nothing.
use Rattle.std.specs.Prelude.{◌≡◌, Bool, List, ℕ, ◌+◌, ◌≤◌, ◌<◌, length}
use Rattle.std.proofs.Common.{ap, ◌∙◌, subst, add-one, arith}
use Rattle.rules.specs.Tables.{place_count, chain_room}
use Rattle.rules.specs.Layout.{stable_number_at, saved_count_at, word_count, word}
use Rattle.tables.specs.declared.stands.Stand.{Stand}
use Rattle.tables.specs.declared.stands.Stand.TheVariants.{Logged, Live, Nowhere}
use Rattle.tables.specs.Test.{number_in, seat_in, writer_in, number_before, seat_before, Unlogged, OtherWriter, LoggedTest, LiveTest, EntryTest, EntriesTest, HolderTest, ChainTest}
use Rattle.tables.specs.Tells.{Tells, tells_as}
use Rattle.tables.specs.Seats.{seat_le, not_both}

-- the log number of one who stands so, or 0
abbrev pub number_of : Stand → ℕ
number_of (Logged r) = r.number.num
number_of (Live p) = 0
number_of Nowhere = 0

-- the place of one who stands so, or 32
abbrev pub seat_of : Stand → ℕ
seat_of (Logged r) = place_count
seat_of (Live p) = p.num
seat_of Nowhere = place_count

-- one with that log number and that place stands so
pub record Stands (number seat : ℕ) (s : Stand) : Type 0 where
  pub number_is : number_of s ≡ number
  pub seat_is : seat_of s ≡ seat

-- x stands so
abbrev pub Standing : List ℕ → ℕ → Stand → Type 0
Standing ws x = Stands (number_in ws x) (seat_in ws x)

-- what stands before entry j of object o stands so
abbrev pub StandingBefore : List ℕ → ℕ → ℕ → Stand → Type 0
StandingBefore ws o j = Stands (number_before ws o j) (seat_before ws o j)

-- an entry stands before the next
pub stands_next : (ws : List ℕ) (o j : ℕ) (s : Stand) → Standing ws (writer_in ws o j) s → StandingBefore ws o (j + 1) s
stands_next ws o j s h = rw (add-one j) h

-- an entry of an object's chain, with where its writer and what stands before it stand
pub record AtEntry (ws : List ℕ) (o j : ℕ) (last here : Stand) : Type 0 where
  pub right_length : length ws ≡ word_count
  pub in_room : j < chain_room
  pub before : StandingBefore ws o j last
  pub writer : Standing ws (writer_in ws o j) here

-- the stable version stands before the first entry
pub stands_first : (ws : List ℕ) (o : ℕ) (s : Stand) → number_of s ≡ word ws (stable_number_at + o) → seat_of s ≡ place_count
    → StandingBefore ws o 0 s
stands_first ws o s e f = record { number_is = e; seat_is = f }

-- who is logged has no place
pub logged_no_seat : (ws : List ℕ) (x : ℕ) → Unlogged ws → 0 < number_in ws x → seat_in ws x ≡ place_count
logged_no_seat ws x u h =
    let f : seat_in ws x < place_count → ⊥ = not_both ws u x h in
    omega (arith, seat_le ws x)

-- an entry's test, by where its writer and what stands before it stand
module _
    (ws : List ℕ)
    (o j : ℕ)
    (last here : Stand)
    (b : StandingBefore ws o j last)
    (h : Standing ws (writer_in ws o j) here)
    (other : OtherWriter ws o j)
    (answer : Bool)
  where
    pub entry_logged : 0 < number_of here
        → Tells answer (LoggedTest j (word ws (saved_count_at + o)) (number_of last) (number_of here))
        → Tells answer (EntryTest ws o j)
    entry_logged up t =
        tells_as answer
        (subst (λ (n : ℕ). Tells answer (LoggedTest j (word ws (saved_count_at + o)) n (number_in ws (writer_in ws o j)))) b.number_is
        (subst (λ (n : ℕ). Tells answer (LoggedTest j (word ws (saved_count_at + o)) (number_of last) n)) h.number_is t))
        (λ l. record { other = other; logged = λ k. l; live = λ z. absurd (omega (arith, h.number_is)) })
        (λ e. e.logged (omega (arith, h.number_is)))

    pub entry_live : number_of here ≤ 0 → Tells answer (LiveTest ws o (seat_of last) (seat_of here)) → Tells answer (EntryTest ws o j)
    entry_live down t =
        tells_as answer
        (subst (λ (n : ℕ). Tells answer (LiveTest ws o n (seat_in ws (writer_in ws o j)))) b.seat_is
        (subst (λ (n : ℕ). Tells answer (LiveTest ws o (seat_of last) n)) h.seat_is t))
        (λ l. record { other = other; logged = λ k. absurd (omega (arith, h.number_is)); live = λ z. l })
        (λ e. e.live (omega (arith, h.number_is)))

-- the chain's test, once its entries have passed: the holder's is left
pub chain_holder : (ws : List ℕ) (o j n : ℕ) (last : Stand) (answer : Bool) → j ≡ n → EntriesTest ws o j → StandingBefore ws o j last
    → Tells answer (HolderTest ws o (seat_of last)) → Tells answer (ChainTest ws o n)
chain_holder ws o j n last answer e f b t =
    tells_as answer (subst (λ (s : ℕ). Tells answer (HolderTest ws o s)) (b.seat_is ∙ ap (seat_before ws o) e) t)
    (λ h. record { entries = subst (EntriesTest ws o) e f; holder = h })
    (λ c. c.holder)
