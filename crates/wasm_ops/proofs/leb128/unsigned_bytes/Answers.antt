use Rattle.std.proofs.Common.{◌+◌, ◌/◌, ◌%◌, [], ◌∷◌, ◌++◌, take, length, refl, sym, ap, ◌∙◌, append_assoc, arith}
use Rattle.std.proofs.lemmas.List.{take_more_set}
use Rattle.std.proofs.Math.ListN.{length-set}
use Rattle.wasm_ops.specs.Leb128.{unsigned}
use Rattle.wasm_ops.proofs.Numbers.{unsigned-small, unsigned-large, unsigned_fits, unsigned-nonempty}
use Rattle.wasm_ops.proofs.leb128.unsigned_bytes.Goals as goal

pub digits-init : goal.digits-init
digits-init c = record { told = refl; long = refl; room = omega (arith, unsigned_fits 9 c.args.n (omega arith)) }

pub bounds-bytes-len : goal.bounds-bytes-len
bounds-bytes-len c = omega (arith, unsigned-nonempty c.digits.rest)

pub digits-preserved : goal.digits-preserved
digits-preserved c =
    let i = c.digits.invariant in
    let large = unsigned-large c.digits.rest c.digits-test.true in
    record {
      told = rw (take_more_set c.digits.bytes c.digits.len (128 + c.digits.rest % 128) (omega (arith, unsigned-nonempty c.digits.rest)))
          (append_assoc (take c.digits.len c.digits.bytes) ((128 + c.digits.rest % 128) ∷ []) (unsigned (c.digits.rest / 128))
          ∙ ap (λ bs. take c.digits.len c.digits.bytes ++ bs) (sym large) ∙ i.told);
      long = rw length-set i.long;
      room = let e = ap length large in omega (arith, e);
    }

pub bounds-bytes-len-2 : goal.bounds-bytes-len-2
bounds-bytes-len-2 c = omega (arith, unsigned-nonempty c.digits.rest)

pub returns-clause-within : goal.returns-clause-within
returns-clause-within c = omega (arith, unsigned-nonempty c.digits.rest)

pub returns-clause-bytes : goal.returns-clause-bytes
returns-clause-bytes c =
    let i = c.digits.invariant in
    rw (take_more_set c.digits.bytes c.digits.len c.digits.rest (omega (arith, unsigned-nonempty c.digits.rest)))
    (ap (λ bs. take c.digits.len c.digits.bytes ++ bs) (sym (unsigned-small c.digits.rest c.digits-test.false)) ∙ i.told)
