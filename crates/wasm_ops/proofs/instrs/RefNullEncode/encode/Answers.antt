use Rattle.wasm_ops.specs.Spelling.{heap_type}
use Rattle.wasm_ops.specs.Table.{Heap}
use Rattle.wasm_ops.proofs.Instructing.{one_written}
use Rattle.wasm_ops.proofs.instrs.RefNullEncode.encode.Goals as goal

pub returns : goal.returns
returns g c =
    let x = c.args.self.now.0 in
    one_written g.S.Sink.rules c.args.out.now c.encode.new.out 0xd0 Heap x (Unit {0} × (heap_type x).in_range) c.encode.result (λ h. h.1)
    (λ h. (tt, h)) c.encode.ensures
