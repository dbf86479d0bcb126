-- What sound words say in numbers, for code that reads and writes them: how many words there are, that a place and an
-- object are among the 32, that sets have 32 bits, that a chain has at most 8 entries.
-- Rests on the rules' Layout, on words_laws, sound_laws, Left, Fields and Started. Assumes nothing.
use Rattle.std.specs.Prelude.{◌≡◌, List, ℕ, ◌+◌, ◌^◌, ◌≤◌, ◌<◌, T, length}
use Rattle.std.proofs.Common.{sym, subst}
use Rattle.rules.specs.Tests.{lowest}
use Rattle.rules.specs.Sets.{width, has}
use Rattle.rules.specs.Tables.{object_count, place_count, chain_room, last_number}
use Rattle.rules.specs.Steps.{free_places}
use Rattle.rules.specs.Layout.{next_at, accessed_at, written_at, prepared_at, depends_at, word_count, word, unpack, sound_words}
use Rattle.words_laws.specs.Says.{Column, accessed, written, prepared, depends, start, cell}
use Rattle.words_laws.specs.Fits.{sound_words_says}
use Rattle.locks_laws.specs.Left.{chain_end}
use Rattle.locks_laws.specs.Fields.{Called, shown, facts, place_below}
use Rattle.locks_laws.specs.Started.{place_free}

pub record StartBounds (ws : List ℕ) (p : ℕ) : Type 0 where
  pub size : length ws ≡ word_count
  pub next : word ws next_at ≤ last_number
  pub place : p < place_count

pub record ObjectBounds (ws : List ℕ) (o : ℕ) : Type 0 where
  pub size : length ws ≡ word_count
  pub object : o < object_count
  pub chain : chain_end ws o ≤ chain_room

pub record PlaceBounds (ws : List ℕ) (p o : ℕ) : Type 0 where
  pub object : ObjectBounds ws o
  pub place : p < place_count
  pub accessed : word ws (accessed_at + p) < 2 ^ width
  pub written : word ws (written_at + p) < 2 ^ width
  pub prepared : word ws (prepared_at + p) < 2 ^ width
  pub depends : word ws (depends_at + p) < 2 ^ width

module _ (ws : List ℕ) (s : T (sound_words ws)) where
  pub start_bounds : (unpack ws).next.num ≤ last_number → 0 < free_places (unpack ws)
      → StartBounds ws (lowest place_count (has (free_places (unpack ws))))
  start_bounds n room =
      record {
        size = (shown ws s).size;
        next = subst (λ (k : ℕ). k ≤ last_number) (sym (shown ws s).next) n;
        place = (place_free ws s room).0;
      }

  pub object_bounds : (o : ℕ) → o < object_count → ObjectBounds ws o
  object_bounds o k =
      record { size = (shown ws s).size; object = k; chain = ((sound_words_says ws).0 s).0.chain_count_fits o k }

pub place_bounds : (ws : List ℕ) (x p o : ℕ) → Called ws x p o → PlaceBounds ws p o
place_bounds ws x p o c =
    let h : p < place_count = place_below ws x p o c in
    let fits = (facts ws c.0).place_ok p h in
    let word_fits : (d : Column) → cell (unpack ws) d p < 2 ^ width → word ws (start d + p) < 2 ^ width =
    λ d f. subst (λ (n : ℕ). n < 2 ^ width) (sym ((shown ws c.0).column d p h)) f in
    record {
      object = object_bounds ws c.0 o c.1;
      place = h;
      accessed = word_fits accessed fits.accessed_fits;
      written = word_fits written fits.written_fits;
      prepared = word_fits prepared fits.prepared_fits;
      depends = word_fits depends fits.depends_fits;
    }
