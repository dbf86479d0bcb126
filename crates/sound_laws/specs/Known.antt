-- The transactions that sound tables name: each was given out, and a logged one or the writer of a stable version is
-- not live.
-- Rests on the rules' Tables, on basics, Means, Live and Logged. Assumes nothing.
use Rattle.std.specs.Prelude.{◌≡◌, ◌⊎◌, ℕ, ◌-◌, ◌<◌}
use Rattle.std.proofs.Common.{sym, ◌∙◌, subst, inl, inr, arith}
use Rattle.std.proofs.Math.Logic.{⊎_elim}
use Rattle.std.proofs.Math.Dec.{T}
use Rattle.rules.specs.Sets.{has}
use Rattle.rules.specs.Tables.{Txn, Entry, Tables, obj, object_count, object, place, place_of, is_live, sets_of, record_at, is_logged, chain, stable_entry, latest}
use Rattle.basics.specs.Lists.{All, All-map, All-last}
use Rattle.sound_laws.specs.Means.{Held, Given, Accounted, Sound}
use Rattle.sound_laws.specs.Live.{same_txn, live_at, nobody_not_live}
use Rattle.sound_laws.specs.Logged.{of_logged, names_logged}

module _ (t : Tables) (s : Sound t) where
  pub live_given : (x : Txn) → T (is_live t.live x) → Given t.next x
  live_given x u =
      let a = live_at t.live x u in
      let g = (s.place_ok (place_of t.live x) a.below).given (λ e. a.somebody (sym a.there ∙ e)) in
      subst (Given t.next) (same_txn (place t.live (place_of t.live x)).number x a.there) g

  pub logged_given : (x : Txn) → T (is_logged t.log x) → Given t.next x
  logged_given x u = of_logged (Given t.next) t.log x s.log_ok.given u

  pub logged_not_live : (x : Txn) → T (is_logged t.log x) → T (is_live t.live x) → ⊥
  logged_not_live x u = of_logged (λ y. T (is_live t.live y) → ⊥) t.log x s.log_ok.not_live u

  module _ (i : ℕ) (h : i < object_count) where
    -- the stable version's writer is nobody, or logged
    pub stable_writer : ((object t (obj i)).stable.writer.num ≡ 0) ⊎ T (is_logged t.log (object t (obj i)).stable.writer)
    stable_writer =
        let v = (object t (obj i)).stable in
        ⊎_elim
        (λ z. inl z.1)
        (λ n. inr (names_logged t.log v.writer (v.at.num - 1)
        (record { below = omega (arith, n.0, n.1); there = same_txn (record_at t.log v.at) v.writer n.2 })))
        (s.object_ok i h).named

    pub stable_not_live : T (is_live t.live (object t (obj i)).stable.writer) → ⊥
    stable_not_live u =
        ⊎_elim
        (λ z. nobody_not_live t.live (object t (obj i)).stable.writer z u)
        (λ g. logged_not_live (object t (obj i)).stable.writer g u)
        stable_writer

    -- the number of each writer is below the next
    pub entry_known : (e : Entry) → Accounted t.live t.log i e → e.writer.num < t.next.num
    entry_known e = ⊎_elim (λ g. (logged_given e.writer g).1) (λ w. (live_given e.writer w.0).1)

    pub writers_known : All (λ e. e.writer.num < t.next.num) (chain (object t (obj i)))
    writers_known = All-map entry_known (chain (object t (obj i))) (s.object_ok i h).accounted

    pub latest_known : (latest (object t (obj i))).writer.num < t.next.num
    unfolding latest
    latest_known =
        All-last (λ (e : Entry). e.writer.num < t.next.num) (stable_entry (object t (obj i))) (chain (object t (obj i)))
        (⊎_elim (λ z. omega (arith, s.next_low)) (λ g. (logged_given (object t (obj i)).stable.writer g).1) stable_writer)
        writers_known

    pub holder_known : Held (object t (obj i)) → (object t (obj i)).holder.num < t.next.num
    holder_known k = (live_given (object t (obj i)).holder ((s.object_ok i h).holder_live k)).1

    -- a live transaction that has not accessed the object did not write the latest version
    pub latest_other : (x : Txn) → (T (has (sets_of t.live x).accessed i) → ⊥) → T (is_live t.live x) → (latest (object t (obj i))).writer ≡ x → ⊥
    unfolding latest
    latest_other x f u =
        All-last (λ (e : Entry). e.writer ≡ x → ⊥) (stable_entry (object t (obj i))) (chain (object t (obj i)))
        (λ e. stable_not_live (subst (λ (y : Txn). T (is_live t.live y)) (sym e) u))
        (All-map
        (λ e. ⊎_elim
        (λ g r. logged_not_live e.writer g (subst (λ (y : Txn). T (is_live t.live y)) (sym r) u))
        (λ w r. f ((s.place_ok (place_of t.live x) (live_at t.live x u).below).written_accessed i h (subst (λ (y : Txn). T (has (sets_of t.live y).written i)) r w.1))))
        (chain (object t (obj i))) (s.object_ok i h).accounted)
