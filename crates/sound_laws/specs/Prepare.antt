-- Prepare keeps tables sound: the lock is freed, and a written object's working value is queued.
-- Rests on the rules' Steps, on basics, Means, Live, Known, Chains, Places and Access. Assumes nothing.
use Rattle.std.specs.Prelude.{◌≡◌, Bool, cond, List, [], ◌∷◌, ◌++◌, ℕ, suc, ◌^◌, ◌≤◌, ◌<◌, length, set}
use Rattle.std.proofs.Math.Path.{refl, subst}
use Rattle.std.proofs.Common.{ap, sym, ◌∙◌, inl, inr, append_assoc, append-nil, arith, length-append}
use Rattle.std.proofs.Math.Bool.{true, false}
use Rattle.std.proofs.Math.Logic.{⊎_elim}
use Rattle.std.proofs.Math.Dec.{T}
use Rattle.rules.specs.Sets.{has, with_member}
use Rattle.rules.specs.Tables.{Txn, Entry, Object, Live, Tables, obj, nobody, object_count, place_count, chain_room, object, place, place_of, is_live, sets_of, chain, stable_entry, latest}
use Rattle.rules.specs.Sound.{depends_on}
use Rattle.rules.specs.Steps.{unlocked, chained, prepare}
use Rattle.basics.specs.Lists.{All, All-map, All-append, Neighbours, Neighbours-more}
use Rattle.basics.specs.Sets.{with_member_says, with_member_lt}
use Rattle.sound_laws.specs.Means.{Other, Distinct, Held, Accounted, Linked, LoggedFirst, Rises, PlaceOk, ObjectOk, Sound}
use Rattle.sound_laws.specs.Live.{same_txn, live_at}
use Rattle.sound_laws.specs.Known.{logged_not_live}
use Rattle.sound_laws.specs.Chains.{writers, writers_append, All-writers, Distinct-more, Unlogged, Rises-more, cut}
use Rattle.sound_laws.specs.Places.{set_alike, set_here, set_place_of, set_live, unheld_ok, placed_sound}
use Rattle.sound_laws.specs.Access.{Holding}

-- a free object whose chain gets one entry more
pub longer : (ls : List Live) (rs : List Txn) (i : ℕ) (b : Object) (e : Entry) → ObjectOk ls rs i b → b.holder.num ≡ 0
    → suc (length (chain b)) ≤ chain_room → e.value < 2 ^ 64
    → All (λ f. Other f.writer e.writer) (chain b) → Accounted ls rs i e → Unlogged rs e → Linked ls (latest b) e
    → ObjectOk ls rs i (chained b b.saved (b.queued ++ e ∷ []))
unfolding latest
longer ls rs i b e ok unheld room fits other accounted unlogged link =
    let same : b.saved ++ (b.queued ++ e ∷ []) ≡ chain b ++ e ∷ [] = sym (append_assoc b.saved b.queued (e ∷ [])) in
    let more : (P : Entry → Type 0) → All P (chain b) → P e → All P (b.saved ++ (b.queued ++ e ∷ [])) =
    λ P h k. subst (All P) (sym same) ((All-append P (chain b) (e ∷ [])).1 (h, (k, tt))) in
    record {
      fits = omega (arith, ap length same, length-append (chain b) (e ∷ []), room);
      stable_fits = ok.stable_fits;
      working_fits = ok.working_fits;
      entries_fit = more (λ f. f.value < 2 ^ 64) ok.entries_fit fits;
      holder_live = λ h. absurd (h unheld);
      holder_accessed = λ h. absurd (h unheld);
      holder_unprepared = λ h. absurd (h unheld);
      holder_depends = λ h. absurd (h unheld);
      once =
          subst (λ (l : List Entry). Distinct (writers l)) (sym same)
          (subst Distinct (sym (writers_append (chain b) (e ∷ [])))
          (Distinct-more (writers (chain b)) e.writer ok.once (All-writers (λ x. Other x e.writer) (chain b) other)));
      accounted = more (Accounted ls rs i) ok.accounted accounted;
      logged_first =
          subst (Neighbours (LoggedFirst rs)) (sym same)
          (Neighbours-more (LoggedFirst rs) (stable_entry b) (chain b) e ok.logged_first (λ h t. absurd (unlogged t)));
      logged_saved = (All-append (Unlogged rs) b.queued (e ∷ [])).1 (ok.logged_saved, (unlogged, tt));
      logged_rise = subst (Rises rs b.stable.at) (sym same) (Rises-more rs b.stable.at (chain b) e ok.logged_rise unlogged);
      links = subst (Neighbours (Linked ls)) (sym same) (Neighbours-more (Linked ls) (stable_entry b) (chain b) e ok.links (λ h. link));
      named = ok.named;
      zero_free = ok.zero_free;
    }

module _ (t : Tables) (x : Txn) (o : ℕ) (ho : o < object_count) (h : Holding t x o)
    (room : T (has (sets_of t.live x).written o) → suc (length (chain (object t (obj o)))) ≤ chain_room) where
  abbrev p : ℕ
  p = place_of t.live x

  abbrev old : Live
  old = place t.live p

  abbrev l : Live
  l =
      record {
        number = old.number;
        accessed = old.accessed;
        written = old.written;
        prepared = with_member old.prepared o;
        depends = old.depends;
      }

  abbrev b : Object
  b = object t (obj o)

  abbrev e : Entry
  e = record { value = b.working; writer = x }

  abbrev ms : List Live
  ms = set t.live p l

  below : p < place_count
  below = (live_at t.live x h.live).below

  fits : p < length t.live
  fits = subst (λ (n : ℕ). p < n) (sym h.sound.places_count) below

  ok : ObjectOk t.live t.log o b
  ok = h.sound.object_ok o ho

  held : Held b
  held z = (live_at t.live x h.live).somebody (ap (λ (y : Txn). y.num) (sym h.holds) ∙ z)

  accessed : T (has old.accessed o)
  accessed = subst (λ (y : Txn). T (has (sets_of t.live y).accessed o)) h.holds (ok.holder_accessed held)

  unprepared : T (has old.prepared o) → ⊥
  unprepared m = ok.holder_unprepared held (subst (λ (y : Txn). T (has (sets_of t.live y).prepared o)) (sym h.holds) m)

  prepared_more : (i : ℕ) → i < object_count → T (has old.prepared i) → T (has l.prepared i)
  prepared_more i k m = (with_member_says old.prepared o i k).1 (inl m)

  place_fine : PlaceOk t.next t.live p l
  place_fine =
      let fine = h.sound.place_ok p below in
      record {
        accessed_fits = fine.accessed_fits;
        written_fits = fine.written_fits;
        prepared_fits = with_member_lt old.prepared o;
        depends_fits = fine.depends_fits;
        once = fine.once;
        given = fine.given;
        written_accessed = fine.written_accessed;
        prepared_accessed = λ i k m.
            ⊎_elim (fine.prepared_accessed i k) (λ r. subst (λ (j : ℕ). T (has old.accessed j)) (sym r) accessed)
            ((with_member_says old.prepared o i k).0 m);
        depends_live = fine.depends_live;
        not_on_self = fine.not_on_self;
        zero_free = λ z. absurd ((live_at t.live x h.live).somebody (sym (live_at t.live x h.live).there ∙ z));
      }

  sets_now : sets_of ms x ≡ l
  sets_now = ap (place ms) (set_place_of t.live p l fits refl x) ∙ set_here t.live p l fits

  live_now : T (is_live ms x)
  live_now = subst T (sym (set_live t.live p l fits refl x)) h.live

  -- the object with its lock freed
  free_fine : ObjectOk ms t.log o (unlocked b)
  free_fine =
      unheld_ok t h.sound o p b l ho below refl (λ r k m. m) o (unlocked b) (λ m. m) (λ m. m) (prepared_more o ho) refl
      (cut t.live t.log o b ok nobody 0 b.saved b.queued [] refl refl (sym (append-nil (chain b))) ok.logged_saved)

  -- no entry of the chain is the transaction's
  new_writer : All (λ f. Other f.writer x) (chain b)
  new_writer =
      All-map
      (λ f. ⊎_elim
      (λ g r. logged_not_live t h.sound f.writer g (subst (λ (y : Txn). T (is_live t.live y)) (sym (same_txn f.writer x r)) h.live))
      (λ w r. unprepared (subst (λ (y : Txn). T (has (sets_of t.live y).prepared o)) (same_txn f.writer x r) w.2)))
      (chain b) ok.accounted

  -- the transaction depends on the writer of the latest version if that is live
  link : Linked ms (latest b) e
  link u v =
      let a = set_alike t.live p l fits refl o (λ m. m) (λ m. m) (prepared_more o ho) (λ r k m. m) in
      let w = a.back (latest b).writer tt u in
      a.depends x (latest b).writer tt tt h.live w
      (subst (λ (y : Txn). T (depends_on t.live y (latest b).writer)) h.holds (ok.holder_depends held w))

  object_fine : (w : Bool) → (T w → T (has old.written o)) → ObjectOk ms t.log o (chained (unlocked b) b.saved (cond w (b.queued ++ e ∷ []) b.queued))
  unfolding latest
  object_fine true f =
      longer ms t.log o (unlocked b) e free_fine refl (room (f tt)) ok.working_fits new_writer
      (inr (
        live_now,
        subst (λ (m : Live). T (has m.written o)) (sym sets_now) (f tt),
        subst (λ (m : Live). T (has m.prepared o)) (sym sets_now) ((with_member_says old.prepared o o ho).1 (inr refl)),
      ))
      (λ g. logged_not_live t h.sound x g h.live)
      link
  object_fine false f = free_fine

  pub prepare_sound : Sound (prepare t x (obj o))
  unfolding prepare
  prepare_sound =
      placed_sound t h.sound o p (chained (unlocked b) b.saved (cond (has old.written o) (b.queued ++ e ∷ []) b.queued)) l ho below refl
      (λ r k m. m)
      place_fine
      (λ i k d. record {
        accessed = λ m. m;
        written = λ m. m;
        prepared = prepared_more i k;
        unprepared = λ m. ⊎_elim (λ n. n) (λ r. absurd (d r)) ((with_member_says old.prepared o i k).0 m);
      })
      (object_fine (has old.written o) (λ m. m))
