use Rattle.std.proofs.Common.{◌<◌, ◌≤◌, ◌/◌, length, ap, arith}
use Rattle.wasm_ops.proofs.Numbers.{unsigned-small, unsigned-large, unsigned_fits}
use Rattle.wasm_ops.proofs.leb128.width.Goals as goal

pub returns-then-n-lt128 : goal.returns-then-n-lt128
returns-then-n-lt128 c = let e = ap length (unsigned-small c.args.n c.if-n-lt128.true) in omega (arith, e)

pub returns-then-n-lt16384 : goal.returns-then-n-lt16384
returns-then-n-lt16384 c =
    let rest = c.args.n / 128 in
    let small : rest < 128 = omega arith in
    let first = ap length (unsigned-large c.args.n c.if-n-lt128.false) in
    let last = ap length (unsigned-small rest small) in
    omega (arith, first, last)

pub returns-then-n-lt2097152 : goal.returns-then-n-lt2097152
returns-then-n-lt2097152 c =
    let rest = c.args.n / 128 in
    let large : 128 ≤ rest = omega arith in
    let small : rest / 128 < 128 = omega arith in
    let first = ap length (unsigned-large c.args.n c.if-n-lt128.false) in
    let second = ap length (unsigned-large rest large) in
    let last = ap length (unsigned-small (rest / 128) small) in
    omega (arith, first, second, last)

pub digits-init : goal.digits-init
digits-init c = record { told = omega arith; room = unsigned_fits 9 c.args.n (omega arith) }

pub digits-preserved : goal.digits-preserved
digits-preserved c =
    let i = c.digits.invariant in
    let e = ap length (unsigned-large c.digits.rest c.digits-test.true) in
    record { told = omega (arith, e, i.told); room = i.room }

pub returns : goal.returns
returns c =
    let i = c.digits.invariant in
    let e = ap length (unsigned-small c.digits.rest c.digits-test.false) in
    omega (arith, e, i.told)
