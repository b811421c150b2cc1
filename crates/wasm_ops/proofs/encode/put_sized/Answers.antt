use Rattle.std.proofs.Common.{sym, ◌∙◌, ◌++◌, length, length-append, arith}
use Rattle.wasm_ops.specs.Leb128.{unsigned}
use Rattle.wasm_ops.proofs.Sinking.{cut_after_no}
use Rattle.wasm_ops.proofs.encode.put_sized.Goals as goal

pub returns-then-is_err : goal.returns-then-is_err
returns-then-is_err g c =
    let rules = g.S.Sink.rules in
    let y = g.T.Encode.spelling c.args.value.now in
    let x = unsigned (length y) in
    let first = c.in_ok-push_number.ensures.0 in
    cut_after_no rules (Unit {0}) (g.T.Encode.in_range c.args.value.now) c.args.out.now c.push_number.new.self c.skip.new.self
    c.encode-second.new.out c.cut.new.self x y (x ++ y) c.size-start.result c.args.size c.skip.result c.encode-second.result
    g.met.S.Sink.laws (omega (arith, length-append x y)) (λ u. c.requires.range)
    (rw (sym c.requires.size) first) c.skip.ensures c.if-skip.false c.encode-second.ensures (sym c.is_err.ensures.value
    ∙ c.if-is_err.true) c.size-start.ensures c.cut.ensures
