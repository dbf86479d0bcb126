-- What a run of lines leaves to the next one: sound words, an answer line for each line in the room, and less of the text;
-- and how the runs together answer the whole text.
-- Rests on the rules' Frames, Layout and Session, on frames_laws' Lines, words_laws' Words, on runs' Ran and Kept, and on
-- Answered. Assumes nothing.
use mathlib.Core.Path.{◌≡◌, refl, sym, ap, ◌∙◌}
use mathlib.Core.Bool.{Bool, true, false, cond, ◌&&◌}
use mathlib.Core.List.{List, [], ◌∷◌, ◌++◌, append_assoc, append-nil}
use Prim.Native.Nat.{ℕ, zero, suc, ◌+◌, ◌-◌, ◌*◌, ◌/◌, ◌≤◌, ◌<◌}
use native.Mathlib.Omega.{arith}
use lib.Dec.{T, eqb}
use lib.ListN.{length, take, drop, length-append, length-take, length-drop, drop_of_length-le, take-append-drop}
use lib.Seq.{take_all, take_at, drop_at, drop-drop}
use Rattle.std.specs.Prelude.{Option}
use Rattle.std.specs.Io.KnownBytes.{Appends}
use Rattle.std.proofs.KnownBytes.{Appends-nil, Appends-trans}
use Rattle.rules.specs.Frames.{line_feed, write_answer}
use Rattle.rules.specs.Tables.{Tables}
use Rattle.rules.specs.Sound.{sound}
use Rattle.rules.specs.Layout.{pack, unpack, sound_words}
use Rattle.rules.specs.Session.{onto_first, line, lines, answered, answer_lines, answer_length, tables_after_lines}
use Rattle.frames_laws.specs.Lines as laws
use Rattle.frames_laws.specs.Lines.{flat, well_cut, lines_lose_nothing, each_line, only_lines}
use Rattle.words_laws.specs.Words.{packed_sound, unpacked_sound, words_again, tables_again}
use Rattle.runs.specs.declared.Ran.{Ran}
use Rattle.runs.specs.Ran.{RanLines}
use Rattle.runs.specs.Kept.{lines_sound}
use Rattle.stepping.specs.Answered.{Answered}

-- the first lines of a text are no longer than all of them
first_shorter : (k : ℕ) (ls : List (List ℕ)) → length (flat (take k ls)) ≤ length (flat ls)
unfolding flat
first_shorter zero ls = omega arith
first_shorter (suc k) [] = omega arith
first_shorter (suc k) (l ∷ ls) = simp length-append (omega (arith, first_shorter k ls))

-- the first line of a text that is not empty has a byte
first_some : (k : ℕ) (bs : List ℕ) → 0 < k → 0 < length bs → 0 < length (flat (take k (lines bs)))
unfolding lines flat onto_first
first_some zero bs h i = absurd (omega arith)
first_some (suc k) [] h i = absurd (omega arith)
first_some (suc k) (b ∷ bs) h i = go (eqb b line_feed) (lines bs)
  where
    go : (t : Bool) (ls : List (List ℕ)) → 0 < length (flat (take (suc k) (cond t ((b ∷ []) ∷ ls) (onto_first b ls))))
    go true ls = omega arith
    go false [] = omega arith
    go false (l ∷ ls) = omega arith

module _ {ws text room vs filled : List ℕ} {r : Ran} (ran : RanLines ws text room r vs filled) where
  pub leaves_sound : T (sound_words ws) → T (sound_words vs)
  leaves_sound s =
      rw ran.left (packed_sound _ (lines_sound (unpack ws) (answered text (length room)) (unpacked_sound ws s)))

  pub fits_room : 19 * r.lines ≤ length room
  unfolding answered
  fits_room = omega (arith, ran.lines, length-take (length room / 19) (lines text))

  pub within_text : r.used ≤ length text
  unfolding answered
  within_text =
      omega (arith, ran.used, rw lines_lose_nothing at (first_shorter (length room / 19) (lines text)))

  pub goes_on : 0 < length text → 19 ≤ length room → 0 < r.used
  unfolding answered
  goes_on h i = omega (arith, ran.used, first_some (length room / 19) text (omega arith) h)

-- ---- lines after lines

flat_both : (ls ms : List (List ℕ)) → flat (ls ++ ms) ≡ flat ls ++ flat ms
unfolding flat
flat_both [] ms = refl
flat_both (l ∷ ls) ms = rw (flat_both ls ms) (sym (append_assoc l (flat ls) (flat ms)))

pub tables_both : (t : Tables) (ls ms : List (List ℕ))
    → tables_after_lines t (ls ++ ms) ≡ tables_after_lines (tables_after_lines t ls) ms
unfolding tables_after_lines
tables_both t [] ms = refl
tables_both t (l ∷ ls) ms = tables_both (line t l).tables ls ms

pub answers_both : (t : Tables) (ls ms : List (List ℕ))
    → answer_lines t (ls ++ ms) ≡ answer_lines t ls ++ answer_lines (tables_after_lines t ls) ms
unfolding answer_lines tables_after_lines
answers_both t [] ms = refl
answers_both t (l ∷ ls) ms = rw (answers_both (line t l).tables ls ms) (sym (append_assoc (write_answer (line t l).answer) _ _))

answers_length : (t : Tables) (ls : List (List ℕ)) → length (answer_lines t ls) ≡ answer_length * length ls
unfolding answer_lines
answers_length t [] = refl
answers_length t (l ∷ ls) =
    simp length-append (omega (arith, laws.answer_length (line t l).answer, answers_length (line t l).tables ls))

second : (a b : Bool) → T (a && b) → T b
second true b t = t
second false b t = absurd t

later_cut : (k : ℕ) (ls : List (List ℕ)) → T (well_cut ls) → T (well_cut (drop k ls))
unfolding well_cut
later_cut zero ls w = w
later_cut (suc k) [] w = w
later_cut (suc zero) (l ∷ []) w = tt
later_cut (suc (suc k)) (l ∷ []) w = tt
later_cut (suc k) (l ∷ m ∷ ms) w = later_cut k (m ∷ ms) (second _ _ w)

-- behind the first lines of a text its other lines begin
lines_behind : (k : ℕ) (bs : List ℕ) → lines (drop (length (flat (take k (lines bs)))) bs) ≡ drop k (lines bs)
lines_behind k bs =
    let first = take k (lines bs) in
    let rest = drop k (lines bs) in
    let whole : flat first ++ flat rest ≡ bs =
    sym (flat_both first rest) ∙ ap flat (take-append-drop k (lines bs)) ∙ lines_lose_nothing bs in
    let behind : drop (length (flat first)) bs ≡ flat rest =
    ap (drop (length (flat first))) (sym whole) ∙ drop_at (flat first) (flat rest) (length (flat first)) refl in
    ap lines behind ∙ only_lines rest (later_cut k (lines bs) (each_line bs))

-- ---- the lines answered so far

-- the lines of the first bytes of a text were answered
pub record AnsweredTo (ws text : List ℕ) (before : Option (List ℕ)) (at : ℕ) (vs : List ℕ) (after : Option (List ℕ)) : Type 0 where
  pub done : List (List ℕ)
  pub parted : lines text ≡ done ++ lines (drop at text)
  pub left : vs ≡ pack (tables_after_lines (unpack ws) done)
  pub written : Appends before after (answer_lines (unpack ws) done)
  pub within : at ≤ length text

pub begun : (ws text : List ℕ) (known : Option (List ℕ)) → T (sound_words ws) → AnsweredTo ws text known 0 ws known
unfolding tables_after_lines answer_lines
begun ws text known s =
    record {
      done = [];
      parted = refl;
      left = sym (words_again ws s);
      written = Appends-nil known;
      within = omega arith;
    }

-- a run of lines behind those bytes, whose answer lines were written then
pub gone_on : {ws text vs us room filled : List ℕ} {before now after : Option (List ℕ)} {at : ℕ} {r : Ran}
    → T (sound_words vs) → AnsweredTo ws text before at vs now → RanLines vs (take (length text - at) (drop at text)) room r us filled
    → Appends now after (take (19 * r.lines) filled) → T (sound_words ws) → AnsweredTo ws text before (at + r.used) us after
unfolding answered
gone_on {ws} {text} {vs} {us} {room} {filled} {before} {now} {after} {at} {r} sv so ran add s =
    let rest = drop at text in
    let rested : take (length text - at) rest ≡ rest = take_all (length text - at) rest (omega (arith, length-drop at text)) in
    let k = length room / 19 in
    let first = take k (lines rest) in
    let t = tables_after_lines (unpack ws) so.done in
    let st : T (sound t) = lines_sound (unpack ws) so.done (unpacked_sound ws s) in
    let unpacked : unpack vs ≡ t = ap unpack so.left ∙ tables_again t st in
    let used : r.used ≡ length (flat first) = rw rested at ran.used in
    let count : r.lines ≡ length first = rw rested at ran.lines in
    let filled_with : filled ≡ answer_lines t first ++ drop (19 * r.lines) room = rw (rested, unpacked) at ran.answers in
    let behind : lines (drop (at + r.used) text) ≡ drop k (lines rest) =
    ap lines (sym (drop-drop r.used at text)) ∙ rw used (lines_behind k rest) in
    let newly : take (19 * r.lines) filled ≡ answer_lines t first =
    ap (take (19 * r.lines)) filled_with
    ∙ take_at (answer_lines t first) (drop (19 * r.lines) room) (19 * r.lines) (answers_length t first ∙ rw count) in
    record {
      done = so.done ++ first;
      parted =
          so.parted ∙ ap (λ (x : List (List ℕ)). so.done ++ x) (sym (take-append-drop k (lines rest)) ∙ rw behind)
          ∙ sym (append_assoc so.done first _);
      left = rw (rested, unpacked) at ran.left ∙ rw (tables_both (unpack ws) so.done first);
      written =
          rw (answers_both (unpack ws) so.done first)
          (Appends-trans before now after _ _ so.written (rw newly at add));
      within = omega (arith, so.within, rw rested at (within_text ran), length-drop at text);
    }

pub finished : {ws text vs : List ℕ} {before after : Option (List ℕ)} {at : ℕ} → AnsweredTo ws text before at vs after → length text ≤ at
    → Answered ws text before vs after
unfolding lines
finished {ws} {text} {vs} {before} {after} so h =
    let all : lines text ≡ so.done = so.parted ∙ rw (drop_of_length-le text h) (append-nil so.done) in
    record { left = rw all so.left; written = rw all so.written }
