-- The promise on lent words: what a call answers and leaves, in terms of the tables that the words hold. No second
-- answer and no second run of words meets it; unsound or wrong-sized words are left as they are.
-- Rests on the rules' Session, on basics' Logic, answers_laws' Exactly, words_laws' Words and sound_laws' Kept.
-- Assumes nothing.
use Rattle.std.specs.Prelude.{◌≡◌, refl, List, ◌↔◌, ◌⊎◌, ℕ, T, eqb, length}
use Rattle.std.proofs.Common.{ap, ◌∙◌, inl, inr, arith}
use Rattle.std.proofs.Math.Option.{Option, none, some}
use Rattle.rules.specs.Tables.{Tables, fresh}
use Rattle.rules.specs.Sound.{sound}
use Rattle.rules.specs.Steps.{abort}
use Rattle.rules.specs.Answers.{Call, Answer, Refusal, unsound, lost, died, bad_frame, number_of, fact, refusal_leaves, call}
use Rattle.rules.specs.Frames.{in_width, read_frame}
use Rattle.rules.specs.Layout.{word_count, pack, unpack, sound_words}
use Rattle.rules.specs.Session.{plainly, call_words, fresh_words, asked_words, line_words}
use Rattle.basics.specs.Logic.{passes_or_fails, cond_true, cond_false, not_says, equal_says}
use Rattle.words_laws.specs.Words.{words_again, tables_again, packed_sound, unpacked_sound}
use Rattle.sound_laws.specs.Kept.{kept}
use Rattle.answers_laws.specs.Exactly.{Refused, Allowed, refused_holds, refused_exactly, done_exactly, refused_or_done, refused_leaves, refusal_leaves_same, lost_leaves, died_leaves}

-- what the words ws, a call c, its answer a and the words left vs have to do with each other
pub record Promise (ws : List ℕ) (c : Call) (a : Answer) (vs : List ℕ) : Type 0 where
  -- on sound words the answer is the rules', and the words left are sound and hold what the rules leave
  pub on_sound : T (sound_words ws)
      → (a ≡ (call (unpack ws) c).answer) × T (sound_words vs) × (unpack vs ≡ (call (unpack ws) c).tables)
  -- on any others the answer is 01 with 0, and the words are left as they are
  pub on_unsound : (T (sound_words ws) → ⊥) → (a ≡ plainly unsound) × (vs ≡ ws)

-- sound words are left as the tables that the rules leave are packed
sound_goes : (ws : List ℕ) (c : Call) → T (sound_words ws)
    → call_words ws c ≡ record { answer = (call (unpack ws) c).answer; words = pack (call (unpack ws) c).tables }
unfolding call_words
sound_goes ws c s = cond_true (sound_words ws) _ _ s

-- unsound or wrong-sized words give 01 and stay as they are
pub unsound_stays : (ws : List ℕ) (c : Call) → (T (sound_words ws) → ⊥)
    → call_words ws c ≡ record { answer = plainly unsound; words = ws }
unfolding call_words
unsound_stays ws c f = cond_false (sound_words ws) _ _ f

-- the definition of a call on words meets the promise
pub meets : (ws : List ℕ) (c : Call) → T (in_width c)
    → Promise ws c (call_words ws c).answer (call_words ws c).words
meets ws c w =
    record {
      on_sound = λ s.
          let t = (call (unpack ws) c).tables in
          let after = kept (unpack ws) c w (unpacked_sound ws s) in
          rw (sound_goes ws c s) (refl, packed_sound t after, tables_again t after);
      on_unsound = λ f. rw (unsound_stays ws c f) (refl, refl);
    }

-- no second answer and no second run of words does
pub only_one : (ws : List ℕ) (c : Call) (a b : Answer) (vs us : List ℕ)
    → Promise ws c a vs → Promise ws c b us → (a ≡ b) × (vs ≡ us)
only_one ws c a b vs us p q = go (passes_or_fails (sound_words ws))
  where
    go : T (sound_words ws) ⊎ (T (sound_words ws) → ⊥) → (a ≡ b) × (vs ≡ us)
    go (inl s) =
        let (answered, vs_sound, vs_hold) = p.on_sound s in
        let (replied, us_sound, us_hold) = q.on_sound s in
        (cc, cc (words_again vs vs_sound, words_again us us_sound))
    go (inr f) =
        let (answered, vs_stay) = p.on_unsound f in
        let (replied, us_stay) = q.on_unsound f in
        (cc, cc)

-- on words that sound tables pack to, a call does what the rules say of the tables
pub on_packed : (t : Tables) (c : Call) → T (sound t)
    → ((call_words (pack t) c).answer ≡ (call t c).answer) × ((call_words (pack t) c).words ≡ pack (call t c).tables)
on_packed t c s = rw (sound_goes (pack t) c (packed_sound t s), tables_again t s) (refl, refl)

-- the numbers that a call on words gives: on sound words those of the rules, on others 01
sound_number : (ws : List ℕ) (c : Call) (r : Refusal) → T (sound_words ws)
    → ((call_words ws c).answer.number ≡ number_of r) ↔ Refused (unpack ws) c r
sound_number ws c r s = rw (sound_goes ws c s) (refused_exactly (unpack ws) c r)

unsound_number : (ws : List ℕ) (c : Call) (n : ℕ) → (T (sound_words ws) → ⊥)
    → (call_words ws c).answer.number ≡ n → number_of unsound ≡ n
unsound_number ws c n f e = rw (unsound_stays ws c f) at e

-- a refusal leaves every word as it was, save 06 and 08
pub refusal_keeps_words : (ws : List ℕ) (c : Call) → ((call_words ws c).answer.number ≡ 0 → ⊥)
    → ((call_words ws c).answer.number ≡ 0x06 → ⊥) → ((call_words ws c).answer.number ≡ 0x08 → ⊥)
    → (call_words ws c).words ≡ ws
unfolding number_of
refusal_keeps_words ws c d l k = go (passes_or_fails (sound_words ws)) (refused_or_done (unpack ws) c)
  where
    go : T (sound_words ws) ⊎ (T (sound_words ws) → ⊥)
        → ((r : Refusal) × Refused (unpack ws) c r) ⊎ Allowed (unpack ws) c → (call_words ws c).words ≡ ws
    go (inl s) (inl (r, h)) =
        let not_lost : r ≡ lost → ⊥ = λ e. l ((sound_number ws c lost s).1 (rw e at h)) in
        let not_died : r ≡ died → ⊥ = λ e. k ((sound_number ws c died s).1 (rw e at h)) in
        rw (sound_goes ws c s, refused_leaves (unpack ws) c r h)
        (rw (refusal_leaves_same r (unpack ws) c not_lost not_died) (words_again ws s))
    go (inl s) (inr h) = absurd (d (rw (sound_goes ws c s) ((done_exactly (unpack ws) c).1 h)))
    go (inr f) w = rw (unsound_stays ws c f)

-- the number of a reason other than unsound: the words left are what that reason leaves, packed
refusal_words : (ws : List ℕ) (c : Call) (r : Refusal) → (number_of unsound ≡ number_of r → ⊥)
    → (call_words ws c).answer.number ≡ number_of r → (call_words ws c).words ≡ pack (refusal_leaves r (unpack ws) c)
refusal_words ws c r n e = go (passes_or_fails (sound_words ws))
  where
    go : T (sound_words ws) ⊎ (T (sound_words ws) → ⊥) → (call_words ws c).words ≡ pack (refusal_leaves r (unpack ws) c)
    go (inl s) = rw (sound_goes ws c s, refused_leaves (unpack ws) c r ((sound_number ws c r s).0 e))
    go (inr f) = absurd (n (unsound_number ws c (number_of r) f e))

-- 06 and 08 leave what abort of that transaction leaves
pub lost_leaves_words : (ws : List ℕ) (c : Call)
    → ((call_words ws c).answer.number ≡ 0x06) ⊎ ((call_words ws c).answer.number ≡ 0x08)
    → (call_words ws c).words ≡ pack (abort (unpack ws) c.who)
unfolding number_of
lost_leaves_words ws c (inl e) = refusal_words ws c lost (omega arith) e ∙ ap pack (lost_leaves (unpack ws) c)
lost_leaves_words ws c (inr e) = refusal_words ws c died (omega arith) e ∙ ap pack (died_leaves (unpack ws) c)

-- 01 is given for unsound or wrong-sized words and for nothing else
pub unsound_exactly : (ws : List ℕ) (c : Call)
    → ((call_words ws c).answer.number ≡ number_of unsound) ↔ (T (sound_words ws) → ⊥)
unfolding fact
unsound_exactly ws c = (
  λ e s.
      let held = refused_holds (unpack ws) c unsound ((sound_number ws c unsound s).0 e) in
      (not_says (sound (unpack ws))).0 held (unpacked_sound ws s),
  λ f. rw (unsound_stays ws c f),
)

-- a bad frame gives 12 before all else and leaves the words
pub bad_line : (ws l : List ℕ) → read_frame l ≡ none
    → line_words ws l ≡ record { answer = plainly bad_frame; words = ws }
unfolding line_words asked_words
bad_line ws l e = rw e

-- a frame does what its call does
pub good_line : (ws l : List ℕ) (c : Call) → read_frame l ≡ some c → line_words ws l ≡ call_words ws c
unfolding line_words asked_words
good_line ws l c e = rw e

-- 12 is given for nothing but a bad frame
pub bad_line_exactly : (ws l : List ℕ) → ((line_words ws l).answer.number ≡ number_of bad_frame) ↔ (read_frame l ≡ none)
unfolding fact number_of
bad_line_exactly ws l = (go (read_frame l) refl, λ e. rw (bad_line ws l e))
  where
    never : (c : Call) → (call_words ws c).answer.number ≡ number_of bad_frame
        → T (sound_words ws) ⊎ (T (sound_words ws) → ⊥) → ⊥
    never c n (inl s) = refused_holds (unpack ws) c bad_frame ((sound_number ws c bad_frame s).0 n)
    never c n (inr f) = omega (arith, unsound_number ws c (number_of bad_frame) f n)

    go : (m : Option Call) → read_frame l ≡ m → (line_words ws l).answer.number ≡ number_of bad_frame
        → read_frame l ≡ none
    go none e n = e
    go (some c) e n = absurd (never c (rw (good_line ws l c e) at n) (passes_or_fails (sound_words ws)))

-- the fresh call gives fresh tables, whatever the words held
pub fresh_right : (ws : List ℕ) → length ws ≡ word_count
    → fresh_words ws ≡ record { answer = record { number = 0; value = 0 }; words = pack fresh }
unfolding fresh_words
fresh_right ws e = cond_true (eqb (length ws) word_count) _ _ ((equal_says (length ws) word_count).1 e)

-- or 01 for a wrong count
pub fresh_wrong : (ws : List ℕ) → (length ws ≡ word_count → ⊥)
    → fresh_words ws ≡ record { answer = plainly unsound; words = ws }
unfolding fresh_words
fresh_wrong ws e = cond_false (eqb (length ws) word_count) _ _ (λ t. e ((equal_says (length ws) word_count).0 t))
