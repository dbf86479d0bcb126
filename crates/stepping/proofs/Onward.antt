-- Turns: the whole lines of what was read are answered, and what is kept of the rest answers as the rest does, whatever is
-- read behind it.
-- Rests on the rules' Answers, Tables, Frames, Layout and Session, on runs' Kept, words_laws' Words, and on Kept and
-- Answered. Assumes nothing.
use mathlib.Core.Path.{◌≡◌, refl, sym, ap, ◌∙◌}
use mathlib.Core.Bool.{Bool, true, false, cond}
use mathlib.Core.List.{List, [], ◌∷◌, ◌++◌, append_assoc}
use Prim.Native.Nat.{ℕ, zero, suc, ◌+◌, ◌-◌, ◌≤◌, ◌<◌}
use native.Mathlib.Omega.{arith}
use lib.Dec.{T, eqb}
use lib.ListN.{length, take, drop, get_or, length-append, length-drop, take-append-drop}
use lib.Seq.{take_all, length-take-le, take-take, take-append-add, take-append-le, get_or-take, get_or-drop}
use Rattle.std.specs.Prelude.{Option, None, Some}
use Rattle.std.specs.Io.KnownBytes.{Consumes}
use Rattle.std.proofs.Common.{ne_eqb, eq-eqb, inl, inr, ⊎_elim, ◌⊎◌}
use Rattle.std.proofs.KnownBytes.{Appends-trans}
use Rattle.std.proofs.Math.Option.{none}
use Rattle.rules.specs.Answers.{Outcome}
use Rattle.rules.specs.Tables.{Tables}
use Rattle.rules.specs.Frames.{line_feed, frame_length, read_frame, is_frame}
use Rattle.rules.specs.Layout.{unpack, sound_words}
use Rattle.rules.specs.Session.{onto_first, line, lines, answer_lines, tables_after_lines}
use Rattle.words_laws.specs.Words.{unpacked_sound, tables_again}
use Rattle.runs.specs.Kept.{lines_sound}
use Rattle.stepping.specs.Kept.{most_kept, Whole, Moved}
use Rattle.stepping.specs.Answered.{Answered, Onward, OnwardIfKnown}
use Rattle.stepping.proofs.Answering.{tables_both, answers_both}

-- no byte of a text is a line feed
abbrev pub Unended : List ℕ → Type 0
Unended u = (k : ℕ) → k < length u → get_or u k 0 ≡ line_feed → ⊥

-- its last byte is a line feed, if it has one
abbrev pub Ended : List ℕ → Type 0
Ended w = (m : ℕ) → m + 1 ≡ length w → get_or w m 0 ≡ line_feed

-- ---- behind whole lines

some_line : (b : ℕ) (bs : List ℕ) → 0 < length (lines (b ∷ bs))
unfolding lines onto_first
some_line b bs = go (eqb b line_feed) (lines bs)
  where
    go : (t : Bool) (ls : List (List ℕ)) → 0 < length (cond t ((b ∷ []) ∷ ls) (onto_first b ls))
    go true ls = omega arith
    go false [] = omega arith
    go false (l ∷ ls) = omega arith

onto_both : (b : ℕ) (ls ms : List (List ℕ)) → 0 < length ls → onto_first b (ls ++ ms) ≡ onto_first b ls ++ ms
unfolding onto_first
onto_both b [] ms h = absurd (omega arith)
onto_both b (l ∷ ls) ms h = refl

one_on : (t : Bool) (b : ℕ) (ls ms : List (List ℕ)) → 0 < length ls
    → cond t ((b ∷ []) ∷ (ls ++ ms)) (onto_first b (ls ++ ms)) ≡ cond t ((b ∷ []) ∷ ls) (onto_first b ls) ++ ms
one_on true b ls ms h = refl
one_on false b ls ms h = onto_both b ls ms h

pub ended_both : (w z : List ℕ) → Ended w → lines (w ++ z) ≡ lines w ++ lines z
unfolding lines
ended_both [] z e = refl
ended_both (b ∷ []) z e = rw (eq-eqb b line_feed (e 0 refl))
ended_both (b ∷ c ∷ w) z e =
    rw (ended_both (c ∷ w) z (λ m h. e (suc m) (omega arith)))
    (one_on (eqb b line_feed) b (lines (c ∷ w)) (lines z) (some_line c w))

-- ---- behind an unfinished line

-- the bytes in front of the first of the lines
onto_all : List ℕ → List (List ℕ) → List (List ℕ)
onto_all a [] = a ∷ []
onto_all a (l ∷ ls) = (a ++ l) ∷ ls

onto_one : (b : ℕ) (ls : List (List ℕ)) → onto_first b ls ≡ onto_all (b ∷ []) ls
unfolding onto_first onto_all
onto_one b [] = refl
onto_one b (l ∷ ls) = refl

onto_more : (b : ℕ) (a : List ℕ) (ls : List (List ℕ)) → onto_first b (onto_all a ls) ≡ onto_all (b ∷ a) ls
unfolding onto_first onto_all
onto_more b a [] = refl
onto_more b a (l ∷ ls) = refl

unended_front : (a z : List ℕ) → 0 < length a → Unended a → lines (a ++ z) ≡ onto_all a (lines z)
unfolding lines
unended_front [] z h u = absurd (omega arith)
unended_front (b ∷ []) z h u = rw (ne_eqb b line_feed (u 0 (omega arith))) (onto_one b (lines z))
unended_front (b ∷ c ∷ a) z h u =
    rw (ne_eqb b line_feed (u 0 (omega arith)), unended_front (c ∷ a) z (omega arith) (λ k l. u (suc k) (omega arith)))
    (onto_more b (c ∷ a) (lines z))

-- two texts have the same answers and leave the same tables
pub record Alike (a b : List ℕ) : Type 0 where
  pub answers : (t : Tables) → answer_lines t (lines a) ≡ answer_lines t (lines b)
  pub tables : (t : Tables) → tables_after_lines t (lines a) ≡ tables_after_lines t (lines b)

-- a line longer than a frame is none
long_bad : (l : List ℕ) → frame_length < length l → read_frame l ≡ none
unfolding read_frame is_frame
long_bad l h = rw (ne_eqb (length l) frame_length (λ e. absurd (omega arith)))

long_alike : (t : Tables) (l m : List ℕ) → frame_length < length l → frame_length < length m → line t l ≡ line t m
unfolding line
long_alike t l m h i = rw (long_bad l h, long_bad m i)

long_front : (a b : List ℕ) (ls : List (List ℕ)) (t : Tables) → frame_length < length a → frame_length < length b
    → (answer_lines t (onto_all a ls) ≡ answer_lines t (onto_all b ls)) × (tables_after_lines t (onto_all a ls) ≡ tables_after_lines t (onto_all b ls))
unfolding onto_all answer_lines tables_after_lines
long_front a b [] t h i =
    let same = long_alike t a b h i in
    (rw same, ap (λ (o : Outcome). o.tables) same)
long_front a b (l ∷ ls) t h i =
    let same = long_alike t (a ++ l) (b ++ l) (simp length-append (omega arith)) (simp length-append (omega arith)) in
    (rw same, ap (λ (o : Outcome). tables_after_lines o.tables ls) same)

-- the first thirty bytes of an unfinished line stand for all of it
pub kept_alike : (u z : List ℕ) (n : ℕ) → Unended u → n ≤ length u → (n ≡ length u) ⊎ (n ≡ most_kept) → Alike (u ++ z) (take n u ++ z)
kept_alike u z n un h (inl e) = rw (take_all n u (omega arith)) (record { answers = λ t. refl; tables = λ t. refl })
kept_alike u z n un h (inr e) =
    let long : length (take n u) ≡ n = length-take-le n u h in
    let front : lines (take n u ++ z) ≡ onto_all (take n u) (lines z) =
    unended_front (take n u) z (omega arith) (λ k l f. un k (omega arith) (sym (get_or-take n u k 0 (omega arith)) ∙ f)) in
    let whole : lines (u ++ z) ≡ onto_all u (lines z) = unended_front u z (omega arith) un in
    record {
      answers = λ t. rw (whole, front) (long_front u (take n u) (lines z) t (omega arith) (omega arith)).0;
      tables = λ t. rw (whole, front) (long_front u (take n u) (lines z) t (omega arith) (omega arith)).1;
    }

-- ---- a turn

-- what is taken behind a place of the first bytes of a list is taken behind that place of the list
take_behind : (n w e : ℕ) (l : List ℕ) → w + n ≤ e → take n (drop w (take e l)) ≡ take n (drop w l)
take_behind n zero e l h = take-take n e l (omega arith)
take_behind n (suc w) zero l h = absurd (omega arith)
take_behind n (suc w) (suc e) [] h = refl
take_behind n (suc w) (suc e) (x ∷ l) h = take_behind n w e l (omega arith)

-- what was read stands behind what was kept
pub read_behind : (k m : ℕ) (bs read post : List ℕ) → k ≤ length bs → m ≤ length read
    → take (k + m) (take k bs ++ (read ++ post)) ≡ take k bs ++ take m read
read_behind k m bs read post h i =
    let size : length (take k bs) ≡ k = length-take-le k bs h in
    ap (λ (x : ℕ). take (x + m) (take k bs ++ (read ++ post))) (sym size) ∙ take-append-add (take k bs) (read ++ post) m
    ∙ ap (λ (x : List ℕ). take k bs ++ x) (take-append-le m read post i)

pub read_within : (k m : ℕ) (bs read post : List ℕ) → k ≤ length bs → m ≤ length read → k + m ≤ length (take k bs ++ (read ++ post))
read_within k m bs read post h i = simp length-append (omega (arith, length-take-le k bs h))

went_on : (p b : List ℕ) {ws t q xs ys vs : List ℕ} {before after : Option (List ℕ)} {w n : ℕ} → T (sound_words ws) → t ≡ p ++ b → 0 < length b
    → Whole t w → Answered ws (take w t) before vs after → q ≡ take n (drop w t) → n ≤ length (drop w t)
    → (n ≡ length (drop w t)) ⊎ (n ≡ most_kept) → xs ≡ b ++ ys → Onward 1 ws p xs before vs q ys after
went_on p b {ws} {t} {q} {xs} {ys} {vs} {before} {after} {w} {n} s e some whole so kept short long given =
    let first = take w t in
    let rest = drop w t in
    let left = tables_after_lines (unpack ws) (lines first) in
    let text : p ++ xs ≡ first ++ (rest ++ ys) =
    ap (λ (x : List ℕ). p ++ x) given ∙ sym (append_assoc p b ys)
    ∙ ap (λ (x : List ℕ). x ++ ys) (sym e ∙ sym (take-append-drop w t)) ∙ append_assoc first rest ys in
    let size : length first ≡ w = length-take-le w t whole.within in
    let ended : Ended first =
    λ m h. get_or-take w t m 0 (omega arith) ∙ whole.ended m (omega arith) in
    let unended : Unended rest =
    λ k h f. whole.unended (w + k) (omega arith) (omega (arith, length-drop w t)) (sym (get_or-drop w t k 0) ∙ f) in
    let parted : lines (p ++ xs) ≡ lines first ++ lines (rest ++ ys) = ap lines text ∙ ended_both first (rest ++ ys) ended in
    let alike : Alike (rest ++ ys) (q ++ ys) = rw kept (kept_alike rest ys n unended short long) in
    let unpacked : unpack vs ≡ left =
    ap unpack so.left ∙ tables_again left (lines_sound (unpack ws) (lines first) (unpacked_sound ws s)) in
    record {
      fewer = omega (arith, ap length given, length-append b ys);
      newly = answer_lines (unpack ws) (lines first);
      written = so.written;
      answers =
          ap (answer_lines (unpack ws)) parted ∙ answers_both (unpack ws) (lines first) (lines (rest ++ ys))
          ∙ ap (λ (x : List ℕ). answer_lines (unpack ws) (lines first) ++ x) (rw unpacked (alike.answers left));
      tables =
          ap (tables_after_lines (unpack ws)) parted ∙ tables_both (unpack ws) (lines first) (lines (rest ++ ys))
          ∙ rw unpacked (alike.tables left);
    }

pub turned_on : (p b : List ℕ) (given input : Option (List ℕ)) {ws buffer moved vs : List ℕ} {before after : Option (List ℕ)} {w n end : ℕ} → T (sound_words ws)
    → take end buffer ≡ p ++ b → 0 < length b → end ≤ length buffer → Whole (take end buffer) w
    → Answered ws (take w buffer) before vs after → Moved buffer w end n moved → Consumes given input b
    → OnwardIfKnown 1 ws p given before vs (take n moved) input after
turned_on p b None input s e some h whole so move gave = tt
turned_on p b (Some xs) None s e some h whole so move gave = absurd gave
turned_on p b (Some xs) (Some ys) {buffer = buffer} {w = w} {n = n} {end = end} s e some h whole so move gave =
    let size : length (take end buffer) ≡ end = length-take-le end buffer h in
    let below : w ≤ end = omega (arith, whole.within) in
    let behind : length (drop w (take end buffer)) ≡ end - w = length-drop w (take end buffer) ∙ rw size in
    went_on p b s e some whole (rw (take-take w end buffer below) so)
    (move.moved ∙ sym (take_behind n w end buffer move.within)) (omega (arith, move.within))
    (⊎_elim (λ a. inl (omega arith)) (λ a. inr a) move.all) gave

-- ---- turn after turn

pub one_turn : (n : ℕ) (ws p vs q us r : List ℕ) (given input rest before now after : Option (List ℕ))
    → OnwardIfKnown n ws p given before vs q input now → OnwardIfKnown 1 vs q input now us r rest after
    → OnwardIfKnown (n + 1) ws p given before us r rest after
one_turn n ws p vs q us r None input rest before now after f g = tt
one_turn n ws p vs q us r (Some xs) None rest before now after f g = absurd f
one_turn n ws p vs q us r (Some xs) (Some ys) None before now after f g = absurd g
one_turn n ws p vs q us r (Some xs) (Some ys) (Some zs) before now after f g =
    record {
      fewer = omega (arith, f.fewer, g.fewer);
      newly = f.newly ++ g.newly;
      written = Appends-trans before now after _ _ f.written g.written;
      answers = f.answers ∙ ap (λ (x : List ℕ). f.newly ++ x) g.answers ∙ sym (append_assoc f.newly g.newly _);
      tables = f.tables ∙ g.tables;
    }
