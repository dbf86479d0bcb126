-- The marked cases, the cases of the slips and the paper's session, each computed. Each case also leaves sound tables.
-- Rests on the definitions' Cases. Assumes nothing.
use Rattle.std.specs.Prelude.{◌≡◌, refl, true}
use Rattle.rules.specs.Tests.{all}
use Rattle.rules.specs.Tables.{fresh}
use Rattle.rules.specs.Frames.{fields_of, unused_zero, number_after, digits, kinds, call_in, is_frame, read_frame, write_answer}
use Rattle.rules.specs.Session.{onto_first, lines, asked, line, answer_lines, session}
use Rattle.rules.specs.Cases.{marked, as_marked, slips, ten_lines, ten_answers}

-- every marked case is answered as marked
pub marked_cases : all (as_marked fresh) marked ≡ true
unfolding as_marked marked fresh
marked_cases = refl

-- every case of a slip is answered as the rules say
pub slip_cases : all (as_marked fresh) slips ≡ true
unfolding as_marked slips fresh
slip_cases = refl

-- the session gives the answers
pub paper_session : session ten_lines ≡ ten_answers
unfolding as_marked ten_lines ten_answers fresh fields_of unused_zero number_after digits kinds call_in is_frame read_frame write_answer onto_first lines asked line answer_lines session
paper_session = refl
