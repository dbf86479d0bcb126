-- Hollow builds do not meet the promise: one that refuses all calls, one that always gives the same reply, one that
-- touches no table, one that books everything at the first commit and feigns the later ones, and one that makes up the
-- fallen or the saved counts.
-- Rests on the rules' Session and Runs, on words_laws' Words, Promise and Runs. Assumes nothing.
use Rattle.std.specs.Prelude.{◌≡◌, refl, List, ℕ, ◌<◌, T, length}
use Rattle.std.proofs.Common.{ap, ◌∙◌, arith}
use Rattle.rules.specs.Tests.{all}
use Rattle.rules.specs.Tables.{Tables, fresh}
use Rattle.rules.specs.Sound.{sound}
use Rattle.rules.specs.Answers.{is_save, is_commit, is_abort, Call, Answer, call}
use Rattle.rules.specs.Frames.{in_width}
use Rattle.rules.specs.Layout.{pack, unpack}
use Rattle.rules.specs.Session.{Left}
use Rattle.words_laws.specs.Words.{tables_again, packed_sound}
use Rattle.promise.specs.Promise.{Promise}
use Rattle.rules.specs.Runs.{starts, saves, commits, aborts, looks, after, fresh_sound}
use Rattle.promise.specs.Runs.{after_sound, done, first_start, first_look, first_save, next_before, next_after, one_queued, queued_save, one_alone, alone_falls, one_and_reader, reader_falls, one_committed, log_before, log_after}

-- a build: what it answers and leaves for each run of words and each call
abbrev pub Build : Type 0
Build = List ℕ → Call → Left

-- a build that keeps the promise at every input
abbrev pub Keeps : Build → Type 0
Keeps b = (ws : List ℕ) (c : Call) → T (in_width c) → Promise ws c (b ws c).answer (b ws c).words

module _ (b : Build) (k : Keeps b) (t : Tables) (s : T (sound t)) (c : Call) (w : T (in_width c)) where
  -- on words that sound tables pack to, such a build answers and leaves what the rules say
  on_tables : ((b (pack t) c).answer ≡ (call t c).answer) × (unpack (b (pack t) c).words ≡ (call t c).tables)
  on_tables =
      let told = rw (tables_again t s) at ((k (pack t) c w).on_sound (packed_sound t s)) in
      (told.0, told.2)

  -- a build that makes up the value of a done call: the call is given this value
  made_up : (f : Call → ℕ) → ((ws : List ℕ) → (b ws c).answer.number ≡ 0 → (b ws c).answer.value ≡ f c)
      → (v : ℕ) → (call t c).answer ≡ done v → f c ≡ v
  made_up f g v e =
      let answered : (b (pack t) c).answer ≡ done v = on_tables.0 ∙ e in
      let given = g (pack t) (ap (λ (a : Answer). a.number) answered) in
      cc

run_sound : (cs : List Call) → T (all in_width cs) → T (sound (after fresh cs))
run_sound cs w = after_sound fresh cs w fresh_sound

-- no build that refuses every call keeps the promise
pub refuses_all : (b : Build) → ((ws : List ℕ) (c : Call) → (b ws c).answer.number ≡ 0 → ⊥) → Keeps b → ⊥
unfolding in_width
refuses_all b f k =
    let started = (on_tables b k fresh fresh_sound starts tt).0 ∙ first_start in
    f (pack fresh) starts (ap (λ (a : Answer). a.number) started)

-- none that always gives the same reply
pub same_reply : (b : Build) (a : Answer) → ((ws : List ℕ) (c : Call) → (b ws c).answer ≡ a) → Keeps b → ⊥
unfolding in_width
same_reply b a f k =
    let started = (on_tables b k fresh fresh_sound starts tt).0 ∙ first_start in
    let looked = (on_tables b k fresh fresh_sound (looks 0) tt).0 ∙ first_look in
    let same : done 1 ≡ done 0 = cc (f (pack fresh) starts, f (pack fresh) (looks 0)) in
    omega (arith, ap (λ (x : Answer). x.value) same)

-- none that touches no table
pub touches_nothing : (b : Build) → ((ws : List ℕ) (c : Call) → (b ws c).words ≡ ws) → Keeps b → ⊥
unfolding in_width
touches_nothing b f k =
    let started = (on_tables b k fresh fresh_sound starts tt).1 in
    let same = rw (f (pack fresh) starts, tables_again fresh fresh_sound) at started in
    omega (arith, ap (λ (t : Tables). t.next.num) same, next_before, next_after)

-- none with which, once a record is there, a commit leaves the log as it was, whatever it answers
pub feigns_commits : (b : Build)
    → ((ws : List ℕ) (c : Call) → c.kind ≡ is_commit → 0 < length (unpack ws).log
    → (unpack (b ws c).words).log ≡ (unpack ws).log)
    → Keeps b → ⊥
unfolding in_width all
feigns_commits b f k =
    let t = after fresh one_committed in
    let s = run_sound one_committed tt in
    let committed = ap (λ (u : Tables). length u.log) (on_tables b k t s (commits 2) tt).1 in
    let feigned = (rw (tables_again t s) at (f (pack t) (commits 2) refl)) (omega (arith, log_before)) in
    omega (arith, ap length feigned, log_before, log_after)

-- none with which the value of a done save does not go by the tables
pub makes_up_saved : (b : Build) (f : Call → ℕ)
    → ((ws : List ℕ) (c : Call) → c.kind ≡ is_save → (b ws c).answer.number ≡ 0 → (b ws c).answer.value ≡ f c)
    → Keeps b → ⊥
unfolding in_width all
makes_up_saved b f g k =
    let t = after fresh one_queued in
    let made : (ws : List ℕ) → _ = λ ws. g ws (saves 0) refl in
    let none_saved = made_up b k fresh fresh_sound (saves 0) tt f made 0 first_save in
    let one_saved = made_up b k t (run_sound one_queued tt) (saves 0) tt f made 1 queued_save in
    omega arith

-- none with which that of a done abort does not
pub makes_up_fallen : (b : Build) (f : Call → ℕ)
    → ((ws : List ℕ) (c : Call) → c.kind ≡ is_abort → (b ws c).answer.number ≡ 0 → (b ws c).answer.value ≡ f c)
    → Keeps b → ⊥
unfolding in_width all
makes_up_fallen b f g k =
    let made : (ws : List ℕ) → _ = λ ws. g ws (aborts 1) refl in
    let one_fell = made_up b k (after fresh one_alone) (run_sound one_alone tt) (aborts 1) tt f made 1 alone_falls in
    let t = after fresh one_and_reader in
    let two_fell = made_up b k t (run_sound one_and_reader tt) (aborts 1) tt f made 2 reader_falls in
    omega arith
