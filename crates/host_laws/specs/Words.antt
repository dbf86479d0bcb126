-- The words that a host has are what the grown tables pack to: after a fresh call, and after each exported call, line or
-- run of lines.
-- Rests on the rules' Truth, on frames_laws, words_laws, promise and growth. Assumes nothing.
use Rattle.std.specs.Prelude.{◌≡◌, refl, true, List, [], ◌∷◌, ◌++◌, map, ℕ, T, length}
use Rattle.std.proofs.Common.{ap, sym, ◌∙◌}
use Rattle.std.proofs.Math.Option.{Option, none, some}
use Rattle.rules.specs.Tests.{all}
use Rattle.rules.specs.Tables.{Tables, fresh}
use Rattle.rules.specs.Sound.{sound}
use Rattle.rules.specs.Steps.{restart}
use Rattle.rules.specs.Answers.{Call, order, fact, done_leaves, call}
use Rattle.rules.specs.Layout.{word_count, pack, unpack, sound_words}
use Rattle.rules.specs.Frames.{in_width, read_frame}
use Rattle.rules.specs.Session.{Left, Ran, asked, asked_words, line, call_words, fresh_words, line_words, answered, tables_after_lines, run_words}
use Rattle.rules.specs.Runs.{restarts, fresh_sound}
use Rattle.rules.specs.History.{may_ask, tables_after}
use Rattle.rules.specs.Truth.{Asks, grown, Exported, by_call, by_line, by_run, may_export, exported, words_after, asks_of, all_asks, WordsAreGrown}
use Rattle.basics.specs.Logic.{and_says, cond_true}
use Rattle.answers_laws.specs.Exactly.{done_leaves_so}
use Rattle.sound_laws.specs.Kept.{kept}
use Rattle.decisions.specs.Facts.{not_unsound}
use Rattle.frames_laws.specs.Frames.{read_in_width}
use Rattle.words_laws.specs.Words.{packed_sound, tables_again}
use Rattle.promise.specs.Promise.{on_packed, fresh_right}
use Rattle.growth.specs.Growth.{asked_sound, grown_sound, after_both}

-- whatever a line asks may be asked
line_may_ask : (l : List ℕ) → T (may_ask (read_frame l))
line_may_ask l = go (read_frame l) refl
  where
    go : (a : Option Call) → read_frame l ≡ a → T (may_ask a)
    go none e = tt
    go (some c) e = read_in_width l c e

lines_may_ask : (ls : List (List ℕ)) → Asks (map read_frame ls)
unfolding all
lines_may_ask [] = tt
lines_may_ask (l ∷ ls) = (and_says (may_ask (read_frame l)) (all may_ask (map read_frame ls))).1 (line_may_ask l, lines_may_ask ls)

exports_ask : (e : Exported) → T (may_export e) → Asks (asks_of e)
unfolding asks_of all
exports_ask (by_call c) m = (and_says (in_width c) true).1 (m, tt)
exports_ask (by_line l) m = (and_says (may_ask (read_frame l)) true).1 (line_may_ask l, tt)
exports_ask (by_run text room) m = lines_may_ask (answered text (length room))

-- lines leave what the calls that they ask leave
lines_leave : (t : Tables) (ls : List (List ℕ)) → tables_after_lines t ls ≡ tables_after t (map read_frame ls)
unfolding tables_after_lines tables_after line
lines_leave t [] = refl
lines_leave t (l ∷ ls) = lines_leave (asked t (read_frame l)).tables ls

-- what is asked of packed tables leaves packed tables
asked_packed : (t : Tables) (a : Option Call) → T (sound t) → (asked_words (pack t) a).words ≡ pack (asked t a).tables
unfolding asked_words asked
asked_packed t none s = refl
asked_packed t (some c) s = (on_packed t c s).1

run_packed : (t : Tables) (text room : List ℕ) → T (sound t) → (run_words (pack t) text room).words ≡ pack (tables_after_lines t (answered text (length room)))
unfolding run_words
run_packed t text room s =
    ap (λ (r : Ran). r.words) (cond_true (sound_words (pack t)) _ _ (packed_sound t s))
    ∙ ap (λ (u : Tables). pack (tables_after_lines u (answered text (length room)))) (tables_again t s)

exported_packed : (t : Tables) (e : Exported) → T (sound t) → exported (pack t) e ≡ pack (tables_after t (asks_of e))
unfolding exported asks_of tables_after line_words asked
exported_packed t (by_call c) s = (on_packed t c s).1
exported_packed t (by_line l) s = asked_packed t (read_frame l) s
exported_packed t (by_run text room) s = run_packed t text room s ∙ ap pack (lines_leave t (answered text (length room)))

-- anything that may be asked keeps tables sound
after_sound : (t : Tables) (cs : List (Option Call)) → Asks cs → T (sound t) → T (sound (tables_after t cs))
unfolding tables_after all
after_sound t [] m s = s
after_sound t (a ∷ cs) m s =
    let b = (and_says (may_ask a) (all may_ask cs)).0 m in
    after_sound (asked t a).tables cs b.1 (asked_sound t a b.0 s)

both_ask : (cs ds : List (Option Call)) → Asks cs → Asks ds → Asks (cs ++ ds)
unfolding all
both_ask [] ds m n = n
both_ask (a ∷ cs) ds m n =
    let b = (and_says (may_ask a) (all may_ask cs)).0 m in
    (and_says (may_ask a) (all may_ask (cs ++ ds))).1 (b.0, both_ask cs ds b.1 n)

from_packed : (t : Tables) (es : List Exported) → T (all may_export es) → T (sound t)
    → Asks (all_asks es) × (words_after (pack t) es ≡ pack (tables_after t (all_asks es)))
unfolding words_after all_asks tables_after all
from_packed t [] m s = (tt, refl)
from_packed t (e ∷ es) m s =
    let b = (and_says (may_export e) (all may_export es)).0 m in
    let a = exports_ask e b.0 in
    let u = tables_after t (asks_of e) in
    let r = from_packed u es b.1 (after_sound t (asks_of e) a s) in (
      both_ask (asks_of e) (all_asks es) a r.0,
      ap (λ (ws : List ℕ). words_after ws es) (exported_packed t e s) ∙ r.1 ∙ ap pack (sym (after_both t (asks_of e) (all_asks es))),
    )

-- after any exported calls from a fresh call on, the words are what the grown tables pack to
pub words_are_grown : WordsAreGrown
words_are_grown ws n es m =
    let r = from_packed fresh es m fresh_sound in
    (r.0, ap (λ (l : Left). words_after l.words es) (fresh_right ws n) ∙ r.1)

-- sound tables are never refused a restart
restart_leaves : (t : Tables) → T (sound t) → (call t restarts).tables ≡ restart t
unfolding order fact done_leaves
restart_leaves t s = done_leaves_so t restarts (not_unsound t restarts s, tt)

-- so a restart through the words leaves words that unpack to the restarted tables, of which 1 to 3 hold
pub restarted_words : (ws : List ℕ) → length ws ≡ word_count → (es : List Exported) → T (all may_export es)
    → unpack (call_words (words_after (fresh_words ws).words es) restarts).words ≡ restart (grown (all_asks es))
unfolding in_width
restarted_words ws n es m =
    let r = words_are_grown ws n es m in
    let t = grown (all_asks es) in
    let s = grown_sound (all_asks es) r.0 in
    ap (λ (vs : List ℕ). unpack (call_words vs restarts).words) r.1
    ∙ ap unpack (on_packed t restarts s).1
    ∙ tables_again (call t restarts).tables (kept t restarts tt s)
    ∙ restart_leaves t s
