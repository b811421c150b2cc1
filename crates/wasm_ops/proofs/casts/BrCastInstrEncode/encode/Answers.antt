use Rattle.std.proofs.Common.{◌++◌, subst}
use Rattle.std.specs.Prelude.{ℕ, ◌∷◌}
use Rattle.wasm_ops.specs.CastInstrs.{br_cast_key}
use Rattle.wasm_ops.specs.Leb128.{unsigned}
use Rattle.wasm_ops.specs.Opcodes.{opcode_of, opcode_bytes}
use Rattle.wasm_ops.specs.Sinks.{Writes}
use Rattle.wasm_ops.specs.Spelling.{InRangeU32, heap_type}
use Rattle.wasm_ops.proofs.Instructing.{opcode_written, br_cast_written}
use Rattle.wasm_ops.proofs.casts.BrCastInstrEncode.encode.Goals as goal

pub returns : goal.returns
returns g c =
    let rules = g.S.Sink.rules in
    let i = c.args.self.now in
    let rest = unsigned i.label ++ ((heap_type i.from.heap_type).bytes ++ (heap_type i.to.heap_type).bytes) in
    let InRange = Unit {0} × (InRangeU32 i.label × ((heap_type i.from.heap_type).in_range × (heap_type i.to.heap_type).in_range)) in
    let written = opcode_written rules c.args.out.now c.encode.new.out c.opcode.result (br_cast_key i.op) InRange
    (c.nullables-flags.result ∷ rest) c.encode.result c.opcode.ensures c.encode.ensures in
    br_cast_written rules c.args.out.now c.encode.new.out i.op i.label i.from i.to InRange c.encode.result (λ h. h.1) (λ h. (tt, h))
    (subst (λ (n : ℕ). Writes rules InRange c.args.out.now c.encode.new.out
    (opcode_bytes (opcode_of (br_cast_key i.op)) ++ (n ∷ rest)) c.encode.result) c.nullables-flags.ensures written)
