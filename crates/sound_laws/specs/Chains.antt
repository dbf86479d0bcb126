-- Objects whose chain, holder or working value changes while the log and the places stay: a chain cut short, saved,
-- or one entry longer, and a lock freed.
-- Rests on the rules' Tables, Sound and Steps, on basics, Means and Logged. Assumes nothing.
use Rattle.std.specs.Prelude.{◌≡◌, refl, ℕ, ◌^◌, ◌≤◌, ◌<◌}
use Rattle.std.proofs.Common.{ap, sym, le_trans, arith, lit<, length-append}
use Rattle.std.proofs.Math.Path.{subst}
use mathlib.Core.List.{List, [], ◌∷◌, ◌++◌, map}
use Rattle.std.proofs.Math.Dec.{T}
use Rattle.std.proofs.Math.ListN.{length}
use Rattle.rules.specs.Tests.{last_or}
use Rattle.rules.specs.Tables.{Txn, Lsn, Entry, Object, Live, chain_room, is_live, log_number, is_logged, chain, stable_entry, latest}
use Rattle.rules.specs.Sound.{depends_on}
use Rattle.basics.specs.Lists.{All, All-zip, All-append, Neighbours, Neighbours-front}
use Rattle.sound_laws.specs.Means.{Other, Distinct, Held, Accounted, Linked, LoggedFirst, Rises, ObjectOk}

abbrev pub writers : List Entry → List Txn
writers es = map (λ e. e.writer) es

pub writers_append : (es fs : List Entry) → writers (es ++ fs) ≡ writers es ++ writers fs
writers_append [] fs = refl
writers_append (e ∷ es) fs = ap (λ (l : List Txn). e.writer ∷ l) (writers_append es fs)

pub All-writers : (P : Txn → Type 0) (es : List Entry) → All (λ e. P e.writer) es → All P (writers es)
All-writers P [] h = tt
All-writers P (e ∷ es) h = (h.0, All-writers P es h.1)

-- ---- distinct

pub Distinct-front : (xs ys : List Txn) → Distinct (xs ++ ys) → Distinct xs
Distinct-front [] ys d = tt
Distinct-front (x ∷ xs) ys d = (((All-append (Other x) xs ys).0 d.0).0, Distinct-front xs ys d.1)

pub Distinct-back : (xs ys : List Txn) → Distinct (xs ++ ys) → Distinct ys
Distinct-back [] ys d = d
Distinct-back (x ∷ xs) ys d = Distinct-back xs ys d.1

-- what stands before is other than what stands after
pub Distinct-apart : (xs ys : List Txn) → Distinct (xs ++ ys) → All (λ y. All (λ x. Other x y) xs) ys
Distinct-apart [] ys d = nothing ys
  where
    nothing : (zs : List Txn) → All (λ y. Unit {0}) zs
    nothing [] = tt
    nothing (z ∷ zs) = (tt, nothing zs)
Distinct-apart (x ∷ xs) ys d =
    All-zip {P = Other x} {Q = λ y. All (λ z. Other z y) xs} (λ y h k. (h, k)) ys ((All-append (Other x) xs ys).0 d.0).1 (Distinct-apart xs ys d.1)

pub Distinct-more : (xs : List Txn) (y : Txn) → Distinct xs → All (λ x. Other x y) xs → Distinct (xs ++ y ∷ [])
Distinct-more [] y d h = (tt, tt)
Distinct-more (x ∷ xs) y d h = ((All-append (Other x) xs (y ∷ [])).1 (d.0, (h.0, tt)), Distinct-more xs y d.1 h.1)

-- ---- rising log numbers

module _ (rs : List Txn) where
  abbrev pub Unlogged : Entry → Type 0
  Unlogged e = T (is_logged rs e.writer) → ⊥

  pub Rises-front : (n : Lsn) (es fs : List Entry) → Rises rs n (es ++ fs) → Rises rs n es
  Rises-front n [] fs r = tt
  Rises-front n (e ∷ es) fs r = (r.0, Rises-front (log_number rs e.writer) es fs r.1)

  pub Rises-unlogged : (n : Lsn) (es : List Entry) → All Unlogged es → Rises rs n es
  Rises-unlogged n [] h = tt
  Rises-unlogged n (e ∷ es) h = (λ t. absurd (h.0 t), Rises-unlogged (log_number rs e.writer) es h.1)

  pub Rises-more : (n : Lsn) (es : List Entry) (e : Entry) → Rises rs n es → Unlogged e → Rises rs n (es ++ e ∷ [])
  Rises-more n [] e r h = (λ t. absurd (h t), tt)
  Rises-more n (f ∷ es) e r h = (r.0, Rises-more (log_number rs f.writer) es e r.1 h)

  pub First-unlogged : (es : List Entry) → All Unlogged es → Neighbours (LoggedFirst rs) es
  First-unlogged [] h = tt
  First-unlogged (e ∷ []) h = tt
  First-unlogged (e ∷ f ∷ es) h = (λ t. absurd (h.1.0 t), First-unlogged (f ∷ es) h.1)

-- ---- objects

module _ (ls : List Live) (rs : List Txn) (i : ℕ) (b : Object) (ok : ObjectOk ls rs i b) where
  -- the same chain, parted another way
  pub parted : (s q : List Entry) → chain b ≡ s ++ q → All (Unlogged rs) q
      → ObjectOk ls rs i (record { stable = b.stable; holder = b.holder; working = b.working; saved = s; queued = q })
  unfolding latest
  parted s q e u =
      record {
        fits = subst (λ (l : List Entry). length l ≤ chain_room) e ok.fits;
        stable_fits = ok.stable_fits;
        working_fits = ok.working_fits;
        entries_fit = subst (All (λ f. f.value < 2 ^ 64)) e ok.entries_fit;
        holder_live = ok.holder_live;
        holder_accessed = ok.holder_accessed;
        holder_unprepared = ok.holder_unprepared;
        holder_depends =
            subst
            (λ (l : List Entry). Held b → T (is_live ls (last_or (stable_entry b) l).writer) → T (depends_on ls b.holder (last_or (stable_entry b) l).writer))
            e
            ok.holder_depends;
        once = subst (λ (l : List Entry). Distinct (writers l)) e ok.once;
        accounted = subst (All (Accounted ls rs i)) e ok.accounted;
        logged_first = subst (Neighbours (LoggedFirst rs)) e ok.logged_first;
        logged_saved = u;
        logged_rise = subst (Rises rs b.stable.at) e ok.logged_rise;
        links = subst (Neighbours (Linked ls)) e ok.links;
        named = ok.named;
        zero_free = ok.zero_free;
      }

  -- a beginning of the chain, with the lock free
  pub cut : (x : Txn) (v : ℕ) (s q rest : List Entry) → x.num ≡ 0 → v ≡ 0 → chain b ≡ (s ++ q) ++ rest → All (Unlogged rs) q
      → ObjectOk ls rs i (record { stable = b.stable; holder = x; working = v; saved = s; queued = q })
  cut x v s q rest ex ev e u =
      let more : (P : Entry → Type 0) → All P (chain b) → All P (s ++ q) = λ P h. ((All-append P (s ++ q) rest).0 (subst (All P) e h)).0 in
      record {
        fits = le_trans (omega (arith, length-append (s ++ q) rest, ap length e)) ok.fits;
        stable_fits = ok.stable_fits;
        working_fits = subst (λ (n : ℕ). n < 2 ^ 64) (sym ev) (lit< tt);
        entries_fit = more (λ f. f.value < 2 ^ 64) ok.entries_fit;
        holder_live = λ h. absurd (h ex);
        holder_accessed = λ h. absurd (h ex);
        holder_unprepared = λ h. absurd (h ex);
        holder_depends = λ h. absurd (h ex);
        once =
            Distinct-front (writers (s ++ q)) (writers rest)
            (subst Distinct (writers_append (s ++ q) rest) (subst (λ (l : List Entry). Distinct (writers l)) e ok.once));
        accounted = more (Accounted ls rs i) ok.accounted;
        logged_first = Neighbours-front (LoggedFirst rs) (s ++ q) rest (subst (Neighbours (LoggedFirst rs)) e ok.logged_first);
        logged_saved = u;
        logged_rise = Rises-front rs b.stable.at (s ++ q) rest (subst (Rises rs b.stable.at) e ok.logged_rise);
        links = Neighbours-front (Linked ls) (s ++ q) rest (subst (Neighbours (Linked ls)) e ok.links);
        named = ok.named;
        zero_free = λ z. ev;
      }
