-- An answer line has 19 bytes and determines its answer. The lines of a text lose nothing of it, each but the last ends
-- in a line feed and has no other, and no other list of such lines makes up the text.
-- Rests on the rules' Frames and Session, on basics' Logic, and on Digits. Assumes nothing.
use Rattle.std.specs.Prelude.{◌≡◌, refl, Bool, true, false, not, cond, ◌&&◌, ◌||◌, List, [], ◌∷◌, ◌++◌, ℕ, ◌^◌, T, eqb, ltb, length, take, drop}
use Rattle.std.proofs.Common.{sym, ap, ◌∙◌, append-nil, ⊎_elim, ltb→lt}
use Rattle.rules.specs.Answers.{Answer}
use Rattle.rules.specs.Frames.{line_feed, number_in, digits, write_answer}
use Rattle.rules.specs.Session.{onto_first, lines}
use Rattle.basics.specs.Logic.{is_true, is_false, and_says, or_says, not_says}
use Rattle.frames_laws.specs.Digits.{number_of_digits}

-- ---- answer lines

-- an answer line has 19 bytes
pub answer_length : (a : Answer) → length (write_answer a) ≡ 19
unfolding write_answer digits
answer_length a = refl

-- the answer that a line stands for
abbrev answer_in : List ℕ → Answer
answer_in l = record { number = number_in (take 2 l); value = number_in (take 16 (drop 2 l)) }

answer_back : (a : Answer) → T (ltb a.number (2 ^ 8)) → T (ltb a.value (2 ^ 64)) → answer_in (write_answer a) ≡ a
unfolding write_answer digits
answer_back a n v =
    rw (number_of_digits 2 a.number (ltb→lt a.number (2 ^ 8) n))
    (rw (number_of_digits 16 a.value (ltb→lt a.value (2 ^ 64) v)))

-- two answers with the same line are the same answer
pub one_answer : (a b : Answer) → T (ltb a.number (2 ^ 8)) → T (ltb a.value (2 ^ 64))
    → T (ltb b.number (2 ^ 8)) → T (ltb b.value (2 ^ 64)) → write_answer a ≡ write_answer b → a ≡ b
one_answer a b an av bn bv e = sym (answer_back a an av) ∙ ap answer_in e ∙ answer_back b bn bv

-- ---- texts of lines

-- the text that lines make up
unfoldable pub flat : List (List ℕ) → List ℕ
flat [] = []
flat (l ∷ ls) = l ++ flat ls

flat_one_more : (b : ℕ) (ls : List (List ℕ)) (t : Bool) → flat (cond t ((b ∷ []) ∷ ls) (onto_first b ls)) ≡ b ∷ flat ls
unfolding flat onto_first
flat_one_more b ls true = refl
flat_one_more b [] false = refl
flat_one_more b (l ∷ ls) false = refl

-- the lines of a text make up that text
pub lines_lose_nothing : (bs : List ℕ) → flat (lines bs) ≡ bs
unfolding flat lines
lines_lose_nothing [] = refl
lines_lose_nothing (b ∷ bs) = flat_one_more b (lines bs) (eqb b line_feed) ∙ rw (lines_lose_nothing bs)

-- its last byte is a line feed, and no other
unfoldable pub is_whole : List ℕ → Bool
is_whole [] = false
is_whole (b ∷ []) = eqb b line_feed
is_whole (b ∷ c ∷ bs) = not (eqb b line_feed) && is_whole (c ∷ bs)

-- it is not empty, and no byte is a line feed
unfoldable pub is_unended : List ℕ → Bool
is_unended [] = false
is_unended (b ∷ []) = not (eqb b line_feed)
is_unended (b ∷ c ∷ bs) = not (eqb b line_feed) && is_unended (c ∷ bs)

-- every line is whole, but the last may be unended
unfoldable pub well_cut : List (List ℕ) → Bool
well_cut [] = true
well_cut (l ∷ []) = is_whole l || is_unended l
well_cut (l ∷ m ∷ ms) = is_whole l && well_cut (m ∷ ms)

one_more : (b : ℕ) (ls : List (List ℕ)) (t : Bool) → eqb b line_feed ≡ t → T (well_cut ls)
    → T (well_cut (cond t ((b ∷ []) ∷ ls) (onto_first b ls)))
unfolding well_cut is_whole is_unended onto_first
one_more b [] true e w = rw e tt
one_more b (l ∷ ls) true e w = rw e w
one_more b [] false e w = rw e tt
one_more b ([] ∷ []) false e w = absurd w
one_more b ((c ∷ l) ∷ []) false e w = rw e w
one_more b ([] ∷ m ∷ ms) false e w = absurd w
one_more b ((c ∷ l) ∷ m ∷ ms) false e w = rw e w

-- every line of a text is whole, but the last may be unended
pub each_line : (bs : List ℕ) → T (well_cut (lines bs))
unfolding lines well_cut
each_line [] = tt
each_line (b ∷ bs) = one_more b (lines bs) (eqb b line_feed) refl (each_line bs)

after_feed : (b : ℕ) (bs : List ℕ) → T (eqb b line_feed) → lines (b ∷ bs) ≡ (b ∷ []) ∷ lines bs
unfolding lines
after_feed b bs t = rw (is_true (eqb b line_feed) t)

after_other : (b : ℕ) (bs : List ℕ) → T (not (eqb b line_feed)) → lines (b ∷ bs) ≡ onto_first b (lines bs)
unfolding lines
after_other b bs t = rw (is_false (eqb b line_feed) ((not_says (eqb b line_feed)).0 t))

whole_first : (l bs : List ℕ) → T (is_whole l) → lines (l ++ bs) ≡ l ∷ lines bs
unfolding is_whole onto_first
whole_first [] bs w = absurd w
whole_first (b ∷ []) bs w = after_feed b bs w
whole_first (b ∷ c ∷ l) bs w =
    let (other, rest) = simp and_says at w in
    after_other b (c ∷ l ++ bs) other ∙ rw (whole_first (c ∷ l) bs rest)

unended_alone : (l : List ℕ) → T (is_unended l) → lines l ≡ l ∷ []
unfolding is_unended onto_first lines
unended_alone [] w = absurd w
unended_alone (b ∷ []) w = after_other b [] w
unended_alone (b ∷ c ∷ bs) w =
    let (other, rest) = simp and_says at w in
    after_other b (c ∷ bs) other ∙ rw (unended_alone (c ∷ bs) rest)

-- lines so cut are the lines of the text that they make up
pub only_lines : (ls : List (List ℕ)) → T (well_cut ls) → lines (flat ls) ≡ ls
unfolding well_cut flat lines
only_lines [] w = refl
only_lines (l ∷ []) w =
    rw append-nil
    (⊎_elim (λ t. rw append-nil at (whole_first l [] t)) (unended_alone l) ((or_says (is_whole l) (is_unended l)).0 w))
only_lines (l ∷ m ∷ ms) w =
    let (whole, rest) = simp and_says at w in
    rw (whole_first l (flat (m ∷ ms)) whole, only_lines (m ∷ ms) rest)
