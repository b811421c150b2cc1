use Rattle.std.proofs.Common.{Some, refl}
use Rattle.wasm_ops.specs.Spelling.{vec, InRangeVec, val_type}
use Rattle.wasm_ops.specs.declared.encode.Counted.{Counted}
use Rattle.wasm_ops.specs.declared.encode.AsItself.{AsItself}
use Rattle.wasm_ops.specs.declared.types.ValType.{ValType}
use Rattle.wasm_ops.proofs.Instructing.{select_written}
use Rattle.wasm_ops.proofs.instr_sink.TypedSelectEncode.encode.Goals as goal

pub returns-in-Some : goal.returns-in-Some
returns-in-Some g c =
    rw c.in-Some.is
    (select_written {X = Counted ValType AsItself} g.S.Sink.rules (λ list. vec (λ x. (val_type x).bytes) list.0.now)
    (λ list. InRangeVec (λ x. (val_type x).in_range) list.0.now) (λ list. list.0.now) c.args.out.now c.encode-in-Some.new.out
    (Some _) c.encode-in-Some.result (λ x. refl) (λ x h. h) (λ x h. h) c.encode-in-Some.ensures)
