-- What a step needs, from the facts that do not refuse its call.
-- Rests on the rules' Answers, on answers_laws, sound_laws and decisions. Assumes nothing.
use mathlib.Core.Path.{◌≡◌, refl, subst}
use mathlib.Core.Logic.{◌⊎◌, inl, inr}
use mathlib.Core.Option.{none}
use Prim.Native.Nat.{ℕ, ◌^◌, ◌≤◌, ◌<◌}
use native.Mathlib.Omega.{arith}
use lib.Dec.{T}
use lib.ListN.{length}
use Rattle.rules.specs.Sets.{width, has}
use Rattle.rules.specs.Tables.{Tables, object_count, chain_room, log_room, last_number, object, is_live, sets_of, chain}
use Rattle.rules.specs.Steps.{free_places}
use Rattle.rules.specs.Answers.{Kind, is_start, is_read, is_write, is_prepare, is_save, is_commit, is_abort, is_settle, is_crash, is_look, kind_number, Call, Refusal, order, is_lost, is_out_of_range, fact, refusal}
use Rattle.answers_laws.specs.Exactly.{Refused, Allowed, refused_or_done, refused_why}
use Rattle.sound_laws.specs.Means.{Sound}
use Rattle.sound_laws.specs.Access.{MayAccess}
use Rattle.sound_laws.specs.Kept.{passed, may_access, below}
use Rattle.decisions.specs.Facts.{set_says, chain_full_says, log_full_says, spent_says, full_says}
use Rattle.acts.proofs.Asked.{of_kind}

module _ (t : Tables) (c : Call) where
  allowed : refusal t c ≡ none → Allowed t c
  allowed e = go (refused_or_done t c)
    where
      go : ((r : Refusal) × Refused t c r) ⊎ Allowed t c → Allowed t c
      go (inl w) =
          let why = refused_why t c w.0 w.1 in
          let z : ◌≡◌ {A = ℕ} 0 1 = cc in
          absurd (omega arith)
      go (inr h) = h

  -- the same, said of the kind
  of : (k : Kind) → c.kind ≡ k → refusal t c ≡ none → Allowed t (of_kind k c)
  of k e n = subst (λ (j : Kind). Allowed t (of_kind j c)) e (allowed n)

  pub start_may : c.kind ≡ is_start → refusal t c ≡ none → (t.next.num ≤ last_number) × (0 < free_places t)
  unfolding order
  start_may e n =
      let f = of is_start e n in
      let d = of_kind is_start c in
      let spent : last_number < t.next.num → ⊥ = λ h. f.1.0 ((spent_says t d).1 h) in
      let full : free_places t ≡ 0 → ⊥ = λ h. f.1.1.0 ((full_says t d).1 h) in
      (omega arith, omega arith)

  pub prepare_room : c.kind ≡ is_prepare → refusal t c ≡ none → T (has (sets_of t.live c.who).written c.what.num)
      → length (chain (object t c.what)) < chain_room
  unfolding order
  prepare_room e n w =
      let f = of is_prepare e n in
      let full : chain_room ≤ length (chain (object t c.what)) → ⊥ =
      λ h. f.1.1.1.1.1.1.1.0 ((chain_full_says t (of_kind is_prepare c)).1 (h, w)) in
      omega arith

  pub commit_room : c.kind ≡ is_commit → refusal t c ≡ none → length t.log < log_room
  unfolding order
  commit_room e n =
      let f = of is_commit e n in
      let full : log_room ≤ length t.log → ⊥ = λ h. f.1.1.1.1.1.1.1.0 ((log_full_says t (of_kind is_commit c)).1 h) in
      omega arith

  pub commit_live : c.kind ≡ is_commit → refusal t c ≡ none → T (is_live t.live c.who)
  unfolding order fact
  commit_live e n = passed (is_live t.live c.who) (of is_commit e n).1.1.0

  pub abort_live : c.kind ≡ is_abort → refusal t c ≡ none → T (is_live t.live c.who)
  unfolding order fact
  abort_live e n = passed (is_live t.live c.who) (of is_abort e n).1.1.0

  pub prepare_live : c.kind ≡ is_prepare → refusal t c ≡ none → T (is_live t.live c.who)
  unfolding order fact
  prepare_live e n = passed (is_live t.live c.who) (of is_prepare e n).1.1.1.0

  pub crash_set : c.kind ≡ is_crash → refusal t c ≡ none → c.value < 2 ^ width
  unfolding order kind_number
  crash_set e n =
      let large : 2 ^ width ≤ c.value → ⊥ = λ h. (of is_crash e n).1.0 ((set_says t (of_kind is_crash c) refl).1 h) in
      omega arith

  module _ (s : Sound t) where
    pub read_may : c.kind ≡ is_read → refusal t c ≡ none → MayAccess t c.who c.what.num
    unfolding order fact is_lost is_out_of_range kind_number
    read_may e n =
        let f = of is_read e n in
        may_access t s c.who c.what.num f.1.0 f.1.1.1.0 f.1.1.1.1.0 f.1.1.1.1.1.0 f.1.1.1.1.1.1.0 f.1.1.1.1.1.1.1.0

    pub write_may : c.kind ≡ is_write → refusal t c ≡ none → MayAccess t c.who c.what.num
    unfolding order fact is_lost is_out_of_range kind_number
    write_may e n =
        let f = of is_write e n in
        may_access t s c.who c.what.num f.1.0 f.1.1.1.0 f.1.1.1.1.0 f.1.1.1.1.1.0 f.1.1.1.1.1.1.0 f.1.1.1.1.1.1.1.0

    pub prepare_object : c.kind ≡ is_prepare → refusal t c ≡ none → c.what.num < object_count
    unfolding order fact is_out_of_range kind_number
    prepare_object e n = below t s c.what.num (of is_prepare e n).1.0

    pub save_object : c.kind ≡ is_save → refusal t c ≡ none → c.what.num < object_count
    unfolding order fact is_out_of_range kind_number
    save_object e n = below t s c.what.num (of is_save e n).1.0

    pub settle_object : c.kind ≡ is_settle → refusal t c ≡ none → c.what.num < object_count
    unfolding order fact is_out_of_range kind_number
    settle_object e n = below t s c.what.num (of is_settle e n).1.0

    pub look_object : c.kind ≡ is_look → refusal t c ≡ none → c.what.num < object_count
    unfolding order fact is_out_of_range kind_number
    look_object e n = below t s c.what.num (of is_look e n).1.0
