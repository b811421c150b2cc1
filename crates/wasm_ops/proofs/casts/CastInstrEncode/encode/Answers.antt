use Rattle.wasm_ops.specs.CastInstrs.{cast_key}
use Rattle.wasm_ops.specs.Spelling.{heap_type}
use Rattle.wasm_ops.specs.Table.{Heap}
use Rattle.wasm_ops.proofs.Instructing.{opcode_written, one_written}
use Rattle.wasm_ops.proofs.casts.CastInstrEncode.encode.Goals as goal

pub returns : goal.returns
returns g c =
    let rules = g.S.Sink.rules in
    let i = c.args.self.now in
    let h = i.ty.heap_type in
    one_written rules c.args.out.now c.encode.new.out (cast_key i.op i.ty.nullable) Heap h (heap_type h).in_range c.encode.result (λ p. p) (λ p. p)
    (opcode_written rules c.args.out.now c.encode.new.out c.opcode.result (cast_key i.op i.ty.nullable) (heap_type h).in_range
    (heap_type h).bytes c.encode.result c.opcode.ensures c.encode.ensures)
