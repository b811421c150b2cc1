use Rattle.std.proofs.Common.{sym, ◌∙◌, ◌++◌, length-append, arith}
use Rattle.wasm_ops.proofs.Sinking.{cut_back}
use Rattle.wasm_ops.proofs.encode.Tuple2Encode.encode.Goals as goal

pub returns-then-is_err : goal.returns-then-is_err
returns-then-is_err g c =
    let rules = g.S.Sink.rules in
    let p = c.args.self.now in
    let x = g.A.Encode.spelling p.0 in
    let y = g.B.Encode.spelling p.1 in
    cut_back rules (g.A.Encode.in_range p.0 × g.B.Encode.in_range p.1)
    (g.B.Encode.in_range p.1) c.args.out.now c.encode.new.out c.encode-second.new.out c.cut.new.self x y (x ++ y) c.size-start.result c.encode-second.result
    g.met.S.Sink.laws (omega (arith, length-append x y)) (λ t. t.1) c.in_ok-encode.ensures.0 c.encode-second.ensures (sym c.is_err.ensures.value
    ∙ c.if-is_err.true) c.size-start.ensures c.cut.ensures
