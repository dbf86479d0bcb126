-- The words after an access: those that its tables pack to, sound, with the transaction at its place.
-- Rests on the rules' Steps and Layout, on words_laws and sound_laws. Assumes nothing.
use mathlib.Core.Path.{◌≡◌, refl, sym, subst}
use mathlib.Core.Bool.{Bool, true, false, cond}
use mathlib.Core.List.{List}
use Prim.Native.Nat.{ℕ, ◌<◌}
use lib.Dec.{T}
use lib.ListN.{length}
use Rattle.rules.specs.Sets.{has, with_member}
use Rattle.rules.specs.Tables.{Txn, Live, Tables, obj, object, place, place_of, is_live, sets_of, latest}
use Rattle.rules.specs.Steps.{and_depends_on, take_lock, access}
use Rattle.rules.specs.Layout.{unpack, pack, sound_words}
use Rattle.words_laws.specs.Words.{packed_sound, tables_again, unpacked_sound}
use Rattle.sound_laws.specs.Means.{Sound, means, tests}
use Rattle.sound_laws.specs.Live.{live_at}
use Rattle.sound_laws.specs.Places.{set_place_of}
use Rattle.sound_laws.specs.Access.{MayAccess, accessing}

-- sound words hold sound tables
pub sound_in : (ws : List ℕ) → T (sound_words ws) → Sound (unpack ws)
sound_in ws s = means (unpack ws) (unpacked_sound ws s)

module _ (ws : List ℕ) (s : T (sound_words ws)) (x : Txn) (o : ℕ) (may : MayAccess (unpack ws) x o) where
  abbrev t : Tables
  t = unpack ws

  abbrev after : Tables
  after = access t x (obj o)

  sound_after : Sound after
  sound_after = (accessing t (sound_in ws s) x o may).sound

  place_after : place_of after.live x ≡ place_of t.live x
  unfolding access take_lock
  place_after = go (has (sets_of t.live x).accessed o)
    where
      room : place_of t.live x < length t.live
      room = subst (λ (n : ℕ). place_of t.live x < n) (sym (sound_in ws s).places_count) (live_at t.live x may.live).below

      l : Live
      l =
          let old = place t.live (place_of t.live x) in
          record {
            number = old.number;
            accessed = with_member old.accessed o;
            written = old.written;
            prepared = old.prepared;
            depends = and_depends_on t.live old (latest (object t (obj o))).writer;
          }

      go : (b : Bool) → place_of (cond b t (take_lock t x (obj o))).live x ≡ place_of t.live x
      go true = refl
      go false = set_place_of t.live (place_of t.live x) l room refl x

  -- its tables come back
  pub tables_after : unpack (pack after) ≡ after
  tables_after = tables_again after (tests after sound_after)

  pub words_after : T (sound_words (pack after))
  words_after = packed_sound after (tests after sound_after)

  pub live_after : T (is_live (unpack (pack after)).live x)
  live_after =
      subst (λ (u : Tables). T (is_live u.live x)) (sym tables_after)
      (accessing t (sound_in ws s) x o may).live

  pub there_after : (p : ℕ) → p ≡ place_of t.live x → p ≡ place_of (unpack (pack after)).live x
  there_after p e = subst (λ (u : Tables). p ≡ place_of u.live x) (sym tables_after) (subst (λ (q : ℕ). p ≡ q) (sym place_after) e)
