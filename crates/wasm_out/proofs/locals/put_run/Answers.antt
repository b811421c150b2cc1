use Rattle.std.proofs.Common.{sym, ◌∙◌, length-append, arith}
use Rattle.wasm_ops.specs.Leb128.{unsigned}
use Rattle.wasm_ops.specs.Spelling.{val_type}
use Rattle.wasm_ops.proofs.Sinking.{cut_back}
use Rattle.wasm_out.specs.Bodies.{local_run}
use Rattle.wasm_out.proofs.locals.put_run.Goals as goal

pub returns-then-is_err : goal.returns-then-is_err
returns-then-is_err g c =
    let run = c.args.run in
    let x = unsigned run.0 in
    let y = (val_type run.1).bytes in
    cut_back g.S.Sink.rules (local_run run).in_range
    (val_type run.1).in_range c.args.out.now c.push_number.new.self c.encode-second.new.out c.cut.new.self x y
    (local_run run).bytes c.size-start.result c.encode-second.result
    g.met.S.Sink.laws (omega (arith, length-append x y)) (λ t. t.1) c.in_ok-push_number.ensures.0 c.encode-second.ensures (sym c.is_err.ensures.value
    ∙ c.if-is_err.true) c.size-start.ensures c.cut.ensures
