use Rattle.std.proofs.Common.{◌≡◌, refl, sym, ◌∙◌, ℕ, ◌+◌, ◌*◌, ◌^◌, ◌<◌, arith, get_or}
use Rattle.frames.specs.Parts.{value_of}
use Rattle.frames.proofs.Stretches.{value_at, entry_bound, at_end, at_byte, one_more, one_fits}
use Rattle.frames.proofs.digits.Digits.number.Goals.{In-loop-byte}
use Rattle.frames.proofs.digits.Digits.number.Goals as goal

-- the byte at hand
module _ (c : In-loop-byte) where
  abbrev byte : ℕ
  byte = get_or c.args.field.now c.loop-byte.byte-index 0

  -- what the table has for it
  found : get_or c.args.self.now.values byte 0 ≡ value_of byte
  found = value_at c.args.self.now.each byte (c.type_inv.field c.loop-byte.byte-index).fits

  fits : c.loop-byte.number * 16 + value_of byte < 2 ^ 64
  fits = one_fits c.loop-byte.byte-index c.loop-byte.number (value_of byte) (omega arith) c.loop-byte.invariant.0 (entry_bound byte)

pub loop-byte-init : goal.loop-byte-init
loop-byte-init c = (omega arith, refl)

pub overflow_mul-number : goal.overflow_mul-number
overflow_mul-number c = omega (arith, fits c)

pub overflow_add-number : goal.overflow_add-number
overflow_add-number c = let head : In-loop-byte = (goal.at.overflow_add-number c).In-loop-byte in
    rw (found head) (record { fits = fits head })

pub loop-byte-preserved : goal.loop-byte-preserved
loop-byte-preserved c = let head : In-loop-byte = (goal.at.loop-byte-preserved c).In-loop-byte in
    rw (found head) (
      one_more c.loop-byte.byte-index c.loop-byte.number _ c.loop-byte.invariant.0 (entry_bound (byte head)),
      sym (at_byte c.loop-byte.number c.loop-byte.byte-index c.args.field.now (omega arith)) ∙ c.loop-byte.invariant.1,
    )

pub returns : goal.returns
returns c = sym (at_end c.loop-byte.number c.loop-byte.byte-index c.args.field.now c.loop-byte-test.false) ∙ c.loop-byte.invariant.1
