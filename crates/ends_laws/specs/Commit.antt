-- The words that commit writes are what the rules' commit packs to.
-- Rests on the rules' Layout and Steps, on basics, words_laws, sound_laws, and on Loops to Places. Assumes nothing.
use Rattle.std.specs.Prelude.{◌≡◌, refl, ℕ, zero, suc, ◌+◌, ◌<◌, ◌≤◌, T, eqb, length, get_or}
use Rattle.std.proofs.Math.Path.{ap}
use Rattle.std.proofs.Common.{sym, ◌∙◌, subst, ⊎_elim, arith, length-set, get_or-set_same, get_or-set_other}
use Rattle.std.proofs.Math.Bool.{cond}
use mathlib.Core.List.{List, [], ◌∷◌, ◌++◌}
use Rattle.std.proofs.Math.ListN.{set}
use Rattle.rules.specs.Tests.{row}
use Rattle.rules.specs.Sets.{without_member}
use Rattle.rules.specs.Tables.{Live, Tables, txn, place_count, log_room, free_place, place, place_of, is_live}
use Rattle.rules.specs.Steps.{struck, commit}
use Rattle.rules.specs.Layout.{depends_at, pack, word}
use Rattle.basics.specs.Ranges.{same_or_other, length_row, getD_row}
use Rattle.words_laws.specs.Parts.{row_is}
use Rattle.words_laws.specs.Says.{depends, pack_says}
use Rattle.sound_laws.specs.Means.{Sound}
use Rattle.sound_laws.specs.Live.{live_at}
use Rattle.ends_laws.specs.Loops.{loop, loop_row}
use Rattle.ends_laws.specs.Objects.{itself, another}
use Rattle.ends_laws.specs.Places.{with_places, with_log, free_words, free_packs, depends_packs, add_record, record_packs}

-- place p struck from the dependencies of place q
abbrev pub strike : ℕ → ℕ → List ℕ → List ℕ
strike p q ws = set ws (depends_at + q) (without_member (word ws (depends_at + q)) p)

unfoldable pub commit_words : ℕ → ℕ → List ℕ → List ℕ
commit_words x p ws = free_words p (loop place_count (strike p) (add_record x ws))

-- the tables with a record more
abbrev pub logged : Tables → ℕ → Tables
logged t x = with_log t (t.log ++ txn x ∷ [])

-- a place whose turn has not come has its dependencies still
pub strike_later : (p : ℕ) (ws : List ℕ) (q r : ℕ) → q ≤ r
    → word (loop q (strike p) ws) (depends_at + r) ≡ word ws (depends_at + r)
unfolding loop
strike_later p ws zero r h = refl
strike_later p ws (suc q) r h =
    let vs = loop q (strike p) ws in
    get_or-set_other vs (depends_at + q) (depends_at + r) (without_member (word vs (depends_at + q)) p) 0 (omega arith)
    ∙ strike_later p ws q r (omega arith)

module _ (t : Tables) (s : Sound t) (x : ℕ) (room : length t.log < log_room) (p : ℕ) where
  place_struck : (q : ℕ) (ls : List Live) → q < length t.live → length ls ≡ length t.live
      → place ls q ≡ place t.live q
      → strike p q (pack (with_places (logged t x) ls))
      ≡ pack (with_places (logged t x) (set ls q (struck p (place t.live q))))
  place_struck q ls m n e =
      let h : q < place_count = omega (arith, s.places_count) in
      let u = with_places (logged t x) ls in
      ap (λ (d : ℕ). set (pack u) (depends_at + q) (without_member d p)) ((pack_says u).column depends q h)
      ∙ depends_packs u (n ∙ s.places_count) q h (without_member (place ls q).depends p)
      ∙ ap (λ (l : Live). pack (with_places (logged t x) (set ls q (struck p l)))) e

  module _ (live : T (is_live t.live (txn x))) (there : p ≡ place_of t.live (txn x)) where
    below : p < place_count
    below = omega (arith, (live_at t.live (txn x) live).below)

    rows_same : set (row place_count (λ q. struck p (place t.live q))) p free_place
        ≡ row place_count (λ q. cond (eqb q p) free_place (struck p (place t.live q)))
    rows_same =
        let old = row place_count (λ q. struck p (place t.live q)) in
        sym
        (row_is place_count (λ q. cond (eqb q p) free_place (struck p (place t.live q))) free_place
        (set old p free_place)
        (length-set old p free_place ∙ length_row place_count (λ q. struck p (place t.live q)))
        (λ q h. ⊎_elim (here q) (else q h) (same_or_other q p)))
      where
        struck_at : ℕ → Live
        struck_at q = struck p (place t.live q)

        here : (q : ℕ) → q ≡ p
            → cond (eqb q p) free_place (struck_at q) ≡ get_or (set (row place_count struck_at) p free_place) q free_place
        here q e =
            subst (λ (r : ℕ). cond (eqb r p) free_place (struck_at r)
            ≡ get_or (set (row place_count struck_at) p free_place) r free_place) (sym e)
            (rw (itself p)
            (sym (get_or-set_same (row place_count struck_at) p free_place free_place
            (omega (arith, below, length_row place_count struck_at)))))

        else : (q : ℕ) → q < place_count → (q ≡ p → ⊥)
            → cond (eqb q p) free_place (struck_at q) ≡ get_or (set (row place_count struck_at) p free_place) q free_place
        else q h d =
            rw (another q p d)
            (sym (get_or-set_other (row place_count struck_at) p q free_place free_place d
            ∙ getD_row place_count struck_at q free_place h))

    pub commit_packs : commit_words x p (pack t) ≡ pack (commit t (txn x))
    unfolding commit_words commit
    commit_packs =
        let struck_all = row place_count (λ q. struck p (place t.live q)) in
        ap (λ (ws : List ℕ). free_words p (loop place_count (strike p) ws)) (record_packs t x room)
        ∙ ap (free_words p)
        (loop_row free_place (λ q. struck p) t.live (with_places (logged t x)) (strike p) place_struck place_count
        s.places_count)
        ∙ free_packs (with_places (logged t x) struck_all)
        (length_row place_count (λ q. struck p (place t.live q))) p below
        ∙ ap (λ (ls : List Live). pack (with_places (logged t x) ls)) rows_same
        ∙ ap (λ (r : ℕ). pack
        (with_places (logged t x) (row place_count (λ q. cond (eqb q r) free_place (struck r (place t.live q))))))
        there
