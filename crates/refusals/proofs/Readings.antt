-- What the words that the decisions read say of the tables.
-- Rests on the rules' Tables and Layout, on basics, words_laws and lookups, and on Lacking. Assumes nothing.
use mathlib.Core.Path.{◌≡◌, ap, sym, subst, ◌∙◌}
use mathlib.Core.Bool.{Bool, true, false}
use mathlib.Core.List.{List}
use Prim.Native.Nat.{ℕ, ◌≤◌, ◌<◌}
use native.Mathlib.Omega.{arith}
use lib.Dec.{T}
use lib.ListN.{length, length-append}
use Rattle.rules.specs.Tables.{Live, Object, obj, object_count, chain_room, object, place, sets_of, chain}
use Rattle.rules.specs.Layout.{unpack, live_in, sound_words}
use Rattle.basics.specs.Logic.{from_true}
use Rattle.words_laws.specs.Says.{saved_count, queued_count, Says, place_said}
use Rattle.words_laws.specs.Fits.{chain_count_in}
use Rattle.words_laws.specs.Words.{sound_words_say}
use Rattle.calls.specs.Meaning.{txn_of, IsLive}
use Rattle.calls.specs.declared.existing.Live as calls
use Rattle.lookups.proofs.Fitting.{fitting}
use Rattle.refusals.specs.Lacking.{counted_in}

-- a flag that is a test: what it says that it is set, and that it is not
pub set_passes : (f b : Bool) → f ≡ b → f ≡ true → T b
set_passes f b e h = from_true b (sym e ∙ h)

pub unset_fails : (f b : Bool) → f ≡ b → f ≡ false → T b → ⊥
unset_fails f b e h t = subst T (sym e ∙ h) t

-- the sets of a transaction
abbrev pub asker : List ℕ → calls.Live → Live
asker ws l = sets_of (unpack ws).live (txn_of l.who)

module _ (ws : List ℕ) (s : T (sound_words ws)) where
  pub saying : Says ws (unpack ws)
  saying = sound_words_say ws s

  -- no more entries count than a chain has room for
  pub counted_fits : (i : ℕ) (queued : Bool) → i < object_count → counted_in ws queued i ≤ chain_room
  counted_fits i true h = (fitting ws s).chain_count_fits i h
  counted_fits i false h = omega (arith, (fitting ws s).chain_count_fits i h)

  -- the chain's entries are the saved ones and the queued ones
  pub chain_length : (i : ℕ) → i < object_count → chain_count_in ws i ≡ length (chain (object (unpack ws) (obj i)))
  chain_length i h =
      let b : Object = object (unpack ws) (obj i) in
      omega (arith, saying.column saved_count i h, saying.column queued_count i h, length-append b.saved b.queued)

  -- the words of a transaction's place are its sets
  pub asker_read : (l : calls.Live) → IsLive (unpack ws) l → live_in ws l.place.num ≡ asker ws l
  asker_read l i = place_said ws (unpack ws) saying l.place.num l.place.exists ∙ ap (place (unpack ws).live) i.1
