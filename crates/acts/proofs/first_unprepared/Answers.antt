-- `acts::first_unprepared` meets its contract: what is prepared is accessed, so the words' difference is the set of what is
-- accessed and not prepared.
-- Assumes nothing.
use Rattle.std.proofs.Common.{◌≡◌, ◌∙◌, subst, ℕ, ◌+◌, ◌-◌, ◌^◌, ◌≤◌, ◌<◌}
use Rattle.rules.specs.Tests.{lowest}
use Rattle.rules.specs.Sets.{width, has}
use Rattle.rules.specs.Tables.{Live, object_count, place}
use Rattle.rules.specs.Layout.{accessed_at, prepared_at, word, unpack}
use Rattle.words_laws.specs.Unpacked.{place_read}
use Rattle.acts.specs.Acted.{is_open}
use Rattle.acts.proofs.Accessed.{sound_in}
use Rattle.acts.proofs.Open.{part_fits, difference_fits, lowest_open}
use Rattle.acts.proofs.first_unprepared.Goals.{Start}
use Rattle.acts.proofs.first_unprepared.Goals as goal

-- what is left of a place's accessed objects without its prepared ones
record Rests (a r : ℕ) (l : Live) : Type 0 where
  fits_in : r ≤ a
  small : a - r < 2 ^ width
  lowest_is : lowest width (has (a - r)) ≡ lowest object_count (is_open l)

rests : (c : Start) → Rests (word c.args.t.now.words.now (accessed_at + c.args.p.num)) (word c.args.t.now.words.now (prepared_at + c.args.p.num))
    (place (unpack c.args.t.now.words.now).live c.args.p.num)
rests c =
    let ws = c.args.t.now.words.now in
    let p : ℕ = c.args.p.num in
    let l : Live = place (unpack ws).live p in
    let ok = (sound_in ws c.args.t.now.sound).place_ok p c.args.p.exists in
    let here : Rests l.accessed l.prepared l =
    record {
      fits_in = part_fits width l.accessed l.prepared ok.accessed_fits ok.prepared_fits ok.prepared_accessed;
      small = difference_fits width l.accessed l.prepared ok.accessed_fits ok.prepared_fits ok.prepared_accessed;
      lowest_is = lowest_open width l.accessed l.prepared ok.accessed_fits ok.prepared_fits ok.prepared_accessed;
    } in
    subst (λ (k : Live). Rests k.accessed k.prepared l) (place_read ws p c.args.p.exists) here

pub overflow_sub-open : goal.overflow_sub-open
overflow_sub-open c = (rests (goal.at.overflow_sub-open c).Start).fits_in

pub overflow_cast-open : goal.overflow_cast-open
overflow_cast-open c = record { fits = (rests (goal.at.overflow_cast-open c).Start).small }

pub returns : goal.returns
returns c = c.lowest.ensures ∙ (rests (goal.at.returns c).Start).lowest_is
