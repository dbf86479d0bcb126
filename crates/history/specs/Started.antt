-- Start keeps the values true: the newcomer has written nothing, and its number was never given out before.
-- Rests on the rules' Steps, on basics, sound_laws and Invariant. Assumes nothing.
use Rattle.std.specs.Prelude.{◌≡◌, List, ℕ, suc, ◌≤◌, ◌<◌, T, set}
use Rattle.std.proofs.Common.{ap, sym, ◌∙◌, ⊎_elim, arith}
use Rattle.rules.specs.Tests.{lowest}
use Rattle.rules.specs.Sets.{has}
use Rattle.rules.specs.Tables.{Txn, Live, Tables, obj, txn, place_count, last_number, object, place, is_free, is_live}
use Rattle.rules.specs.Steps.{free_places, start}
use Rattle.basics.specs.Logic.{is_false}
use Rattle.basics.specs.Ranges.{below_suc}
use Rattle.basics.specs.Sets.{has_zero}
use Rattle.sound_laws.specs.Means.{Sound}
use Rattle.sound_laws.specs.Live.{At, live_at, place_at, once}
use Rattle.sound_laws.specs.Known.{live_given}
use Rattle.sound_laws.specs.Start.{lowest_free, here, stays_sets, was_live, start_sound}
use Rattle.history.specs.Accepted.{Heard}
use Rattle.history.specs.Invariant.{is_some, wrote, heard_of, Truthful, seen}

module _ (a : Heard) (t : Tables) (s : Sound t) (h : Truthful a t) (p : ℕ) (k : p < place_count)
    (free : (place t.live p).number.num ≡ 0) where
  abbrev after : List Live
  after = set t.live p (record { number = t.next; accessed = 0; written = 0; prepared = 0; depends = 0 })

  abbrev started : Tables
  started = record { next = txn (suc t.next.num); log = t.log; live = after; objects = t.objects }

  -- whoever was live has written what it had
  same_written : (x : Txn) → T (is_live t.live x) → (i : ℕ) → wrote after x i ≡ wrote t.live x i
  same_written x u i = ap (λ (l : Live). has l.written i) (stays_sets t s p k free x u)

  -- the newcomer has written no object, and the history says of none that it did
  newcomer_written : Sound started → (x : Txn) → T (is_live after x) → x.num ≡ t.next.num
      → (i : ℕ) → wrote after x i ≡ is_some (a x (obj i))
  newcomer_written sound x u e i =
      let new = here t s p k free in
      let there : (place after p).number.num ≡ x.num = ap (λ (l : Live). l.number.num) new ∙ sym e in
      let at : At after x p = record { somebody = (live_at after x u).somebody; below = k; there = there } in
      ap (λ (l : Live). has l.written i) (ap (place after) (place_at after (once started sound) x p at) ∙ new)
      ∙ is_false (has 0 i) (has_zero i)
      ∙ ap is_some (sym (h.unheard x (λ g. let m = g.1 in omega arith) (obj i)))

  started_true : Sound started → Truthful a started
  started_true sound =
      record {
        unheard = λ x g. h.unheard x (λ m. g (m.0, omega (arith, m.1)));
        written = λ x u i j.
            ⊎_elim
            (λ m. let v = was_live t s p k free x m u in same_written x v i ∙ h.written x v i j)
            (λ e. newcomer_written sound x u e i)
            (below_suc x.num t.next.num (live_given started sound x u).1);
        objects = λ i j.
            let b = object t (obj i) in
            seen (heard_of a i) t.live after t.log i b (h.objects i j)
            (λ m. same_written b.holder ((s.object_ok i j).holder_live m) i);
      }

-- start keeps the values true where a place is free and a number is left
pub start_true : (a : Heard) (t : Tables) → Sound t → Truthful a t → (q : ℕ) → q < place_count
    → T (is_free (place t.live q)) → t.next.num ≤ last_number → Truthful a (start t)
unfolding start
start_true a t s h q k u room =
    let l = lowest_free t q k u in
    started_true a t s h (lowest place_count (has (free_places t))) l.0 l.1 (start_sound t s q k u room)
