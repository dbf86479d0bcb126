-- An object's chain cut to its first entries in packed tables, alone or with its lock freed.
-- Rests on the rules' Layout and Steps, on words_laws, Objects and Entries. Assumes nothing.
use Rattle.std.specs.Prelude.{◌≡◌, length}
use Rattle.std.proofs.Math.Path.{ap, ap₂}
use Rattle.std.proofs.Common.{sym, ◌∙◌, length-set, set-set}
use mathlib.Core.List.{List, [], ◌++◌, append-nil}
use Prim.Native.Nat.{ℕ, ◌+◌, ◌-◌, ◌<◌, min}
use Rattle.std.proofs.lemmas.List.{set-get_or}
use Rattle.rules.specs.Tables.{Entry, Object, Tables, obj, object_count, fresh_object, object, with_object, chain}
use Rattle.rules.specs.Steps.{unlocked, chained}
use Rattle.rules.specs.Layout.{saved_count_at, queued_count_at, pack, word}
use Rattle.words_laws.specs.Says.{saved_count, queued_count, pack_says}
use Rattle.ends_laws.specs.Objects.{object_there, unlock, unlock_packs}
use Rattle.ends_laws.specs.Entries.{trim, trim_packs}

-- object i with its lock free and its first n entries alone, as saved ones
abbrev pub keep_saved : ℕ → ℕ → List ℕ → List ℕ
keep_saved i n ws = trim i n 0 (unlock i ws)

-- object i with the first n entries of its chain alone, each saved or queued as it was
abbrev pub cut_chain : ℕ → ℕ → List ℕ → List ℕ
cut_chain i n ws =
    let s = min (word ws (saved_count_at + i)) n in
    trim i s (min (word ws (queued_count_at + i)) (n - s)) ws

-- the same by the counts of the entries left, the saved ones first
pub cut_leaves : (i n : ℕ) (ws : List ℕ) {s q : ℕ} {vs : List ℕ} → s ≡ min (word ws (saved_count_at + i)) n
    → q ≡ min (word ws (queued_count_at + i)) (n - s)
    → vs ≡ trim i s q ws
    → vs ≡ cut_chain i n ws
cut_leaves i n ws {s} {q} {vs} saved queued e =
    e
    ∙ ap₂ (λ (a b : ℕ). trim i a b ws) saved
    (queued ∙ ap (λ (a : ℕ). min (word ws (queued_count_at + i)) (n - a)) saved)

-- the tables with other objects
abbrev pub with_objects : Tables → List Object → Tables
with_objects t bs = record { next = t.next; log = t.log; live = t.live; objects = bs }

-- an object written as it is changes nothing
pub object_again : (u : Tables) (i : ℕ) → pack u ≡ pack (with_object u (obj i) (object u (obj i)))
object_again u i = ap (λ (bs : List Object). pack (with_objects u bs)) (sym (set-get_or u.objects i fresh_object))

module _ (u : Tables) (size : length u.objects ≡ object_count) (i : ℕ) (h : i < object_count) where
  pub keep_saved_packs : (b : Object) → object u (obj i) ≡ b → (s rest : List Entry) → chain b ≡ s ++ rest
      → keep_saved i (length s) (pack u) ≡ pack (with_object u (obj i) (chained (unlocked b) s []))
  keep_saved_packs b there s rest parts =
      let w = with_object u (obj i) (unlocked (object u (obj i))) in
      let now = object_there u size i h (unlocked (object u (obj i))) ∙ ap unlocked there in
      ap (trim i (length s) 0) (unlock_packs u size i h)
      ∙ trim_packs w (length-set u.objects i (unlocked (object u (obj i))) ∙ size) i h s [] rest
      (ap chain now ∙ parts ∙ ap (λ (l : List Entry). l ++ rest) (sym (append-nil s)))
      ∙ ap (λ (o : Object). pack (with_object w (obj i) (chained o s []))) now
      ∙ ap (λ (bs : List Object). pack (with_objects u bs))
      (set-set u.objects i (unlocked (object u (obj i))) (chained (unlocked b) s []))

  pub cut_packs : (n : ℕ) (s q rest : List Entry) → chain (object u (obj i)) ≡ (s ++ q) ++ rest
      → length s ≡ min (length (object u (obj i)).saved) n
      → length q ≡ min (length (object u (obj i)).queued) (n - min (length (object u (obj i)).saved) n)
      → cut_chain i n (pack u) ≡ pack (with_object u (obj i) (chained (object u (obj i)) s q))
  cut_packs n s q rest parts saved queued =
      ap₂ (λ (c d : ℕ). trim i (min c n) (min d (n - min c n)) (pack u)) ((pack_says u).column saved_count i h)
      ((pack_says u).column queued_count i h)
      ∙ ap₂ (λ (c d : ℕ). trim i c d (pack u)) (sym saved) (sym queued)
      ∙ trim_packs u size i h s q rest parts
