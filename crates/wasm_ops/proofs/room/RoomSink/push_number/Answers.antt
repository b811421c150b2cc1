use Rattle.std.proofs.Common.{◌<◌, ◌≤◌, ◌+◌, ◌/◌, ◌%◌, ◌∷◌, [], ap, sym, ◌∙◌, arith}
use Rattle.wasm_ops.specs.Rooms.{rules}
use Rattle.wasm_ops.proofs.Numbers.{unsigned-small, unsigned-large}
use Rattle.wasm_ops.proofs.Sinking.{written_as}
use Rattle.wasm_ops.proofs.room.RoomSink.push_number.Goals as goal

pub returns-then-n-lt128 : goal.returns-then-n-lt128
returns-then-n-lt128 c = written_as rules (Unit {0}) (Unit {0}) c.args.self.now c.push_bytes.new.self (c.args.n ∷ []) _ c.push_bytes.result (λ u. u)
    (λ u. u) (sym (unsigned-small c.args.n c.if-n-lt128.true)) c.push_bytes.ensures

pub returns-then-n-lt16384 : goal.returns-then-n-lt16384
returns-then-n-lt16384 c =
    let n = c.args.n in
    let rest = n / 128 in
    let small : rest < 128 = omega arith in
    written_as rules (Unit {0}) (Unit {0}) c.args.self.now c.push_bytes-then-n-lt16384.new.self
    ((128 + n % 128) ∷ rest ∷ []) _ c.push_bytes-then-n-lt16384.result (λ u. u) (λ u. u)
    (ap (λ bs. (128 + n % 128) ∷ bs) (sym (unsigned-small rest small)) ∙ sym (unsigned-large n c.if-n-lt128.false)) c.push_bytes-then-n-lt16384.ensures

pub returns-then-n-lt2097152 : goal.returns-then-n-lt2097152
returns-then-n-lt2097152 c =
    let n = c.args.n in
    let rest = n / 128 in
    let last = rest / 128 in
    let large : 128 ≤ rest = omega arith in
    let small : last < 128 = omega arith in
    written_as rules (Unit {0}) (Unit {0}) c.args.self.now c.push_bytes-then-n-lt2097152.new.self
    ((128 + n % 128) ∷ (128 + rest % 128) ∷ last ∷ []) _ c.push_bytes-then-n-lt2097152.result (λ u. u) (λ u. u)
    (ap (λ bs. (128 + n % 128) ∷ (128 + rest % 128) ∷ bs) (sym (unsigned-small last small))
    ∙ ap (λ bs. (128 + n % 128) ∷ bs) (sym (unsigned-large rest large)) ∙ sym (unsigned-large n c.if-n-lt128.false)) c.push_bytes-then-n-lt2097152.ensures
