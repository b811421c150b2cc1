use Rattle.std.proofs.Common.{◌<◌, ◌+◌, ◌/◌, ◌∙◌, ap, length, vec_len, vec_capacity, arith}
use Rattle.wasm_ops.specs.SinkLaws.{with_number}
use Rattle.wasm_ops.proofs.Numbers.{unsigned-large, unsigned-nonempty}
use Rattle.wasm_ops.proofs.Setting.{digit_set, last_set}
use Rattle.wasm_ops.proofs.leb128.set_unsigned.Goals as goal

pub unreachable-requires : goal.unreachable-requires
unreachable-requires c =
    let e = ap length (unsigned-large c.digits.rest c.digits-test.true) in
    let some = unsigned-nonempty (c.digits.rest / 128) in
    let room : vec_len c.digits.out < vec_capacity c.digits.out = omega (arith, e, some, c.digits.invariant.room) in
    let ok = c.in-Err.ensures.succeeds room in
    absurd cc

pub digits-preserved : goal.digits-preserved
digits-preserved c =
    let i = c.digits.invariant in
    let made = c.in-Ok.ensures in
    let e = ap length (unsigned-large c.digits.rest c.digits-test.true) in
    record {
      told = ap (λ xs. with_number xs (c.digits.place + 1) (c.digits.rest / 128)) made.items
          ∙ digit_set c.digits.out.items c.digits.place c.digits.rest (omega (arith, i.within)) c.digits-test.true ∙ i.told;
      within = omega (arith, made.len, i.within);
      room = omega (arith, e, made.len, made.capacity, i.room);
      capacity = omega (arith, made.capacity, i.capacity);
    }

pub returns-clause-items : goal.returns-clause-items
returns-clause-items c = last_set c.digits.out.items c.digits.place c.digits.rest (omega (arith, c.digits.invariant.within)) c.digits-test.false
    ∙ c.digits.invariant.told
