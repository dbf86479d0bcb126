-- A call is what its used fields say, since its unused fields are zero; so what refuses the call of those fields refuses it.
-- Rests on the rules' Frames, on basics and the refusals' Reasons. Assumes nothing.
use mathlib.Core.Path.{◌≡◌, refl, ap, sym, subst}
use mathlib.Core.Bool.{Bool, true, false, cond, ◌&&◌, ◌||◌}
use Rattle.std.specs.Prelude.{Result}
use Prim.Native.Nat.{ℕ}
use lib.Dec.{T, eqb}
use Rattle.rules.specs.Tables.{Tables, Txn, Obj, txn, obj}
use Rattle.rules.specs.Answers.{Kind, Call}
use Rattle.rules.specs.Frames.{Fields, fields_of, unused_zero}
use Rattle.basics.specs.Logic.{and_says, equal_says}
use Rattle.refusals.specs.Reasons.{Refuses}
use Rattle.calls.specs.declared.Refusal.{Refusal}

-- the call with another kind
abbrev pub of_kind : Kind → Call → Call
of_kind k c = record { kind = k; who = c.who; what = c.what; value = c.value }

-- the call with zeros for the fields that are not used
abbrev pub bare : Fields → Call → Call
bare f c =
    record {
      kind = c.kind;
      who = cond f.transaction c.who (txn 0);
      what = cond f.object c.what (obj 0);
      value = cond f.value c.value 0;
    }

who_same : (b : Bool) (x : Txn) → T (b || eqb x.num 0) → cond b x (txn 0) ≡ x
who_same true x u = refl
who_same false x u = ap txn (sym ((equal_says x.num 0).0 u))

what_same : (b : Bool) (o : Obj) → T (b || eqb o.num 0) → cond b o (obj 0) ≡ o
what_same true o u = refl
what_same false o u = ap obj (sym ((equal_says o.num 0).0 u))

value_same : (b : Bool) (v : ℕ) → T (b || eqb v 0) → cond b v 0 ≡ v
value_same true v u = refl
value_same false v u = sym ((equal_says v 0).0 u)

bare_same : (c : Call) → T (unused_zero c) → bare (fields_of c.kind) c ≡ c
unfolding unused_zero
bare_same c u =
    let f = fields_of c.kind in
    let x = f.transaction || eqb c.who.num 0 in
    let o = f.object || eqb c.what.num 0 in
    let all = (and_says (x && o) (f.value || eqb c.value 0)).0 u in
    let two = (and_says x o).0 all.0 in
    λ n.
    record {
      kind = c.kind;
      who = who_same f.transaction c.who two.0 n;
      what = what_same f.object c.what two.1 n;
      value = value_same f.value c.value all.1 n;
    }

-- what refuses the call of the used fields refuses the call
pub refused_as : (t : Tables) (c : Call) (k : Kind) (w : Result Unit Refusal) → c.kind ≡ k → T (unused_zero c)
    → Refuses t (bare (fields_of k) (of_kind k c)) w → Refuses t c w
refused_as t c k w e u h =
    subst (λ (b : Call). Refuses t b w) (bare_same c u)
    (subst (λ (j : Kind). Refuses t (bare (fields_of j) (of_kind j c)) w) (sym e) h)
