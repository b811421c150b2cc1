use Rattle.std.proofs.Common.{map, Err, refl, ap, arith, length, length-append}
use Rattle.std.specs.Prelude.{All}
use Rattle.std.specs.List.{flat_map}
use Rattle.wasm_ops.specs.Leb128.{unsigned}
use Rattle.wasm_ops.proofs.Sinking.{cut_back}
use Rattle.wasm_out.specs.Bodies.{locals, local_runs, local_run}
use Rattle.wasm_out.proofs.locals.put_counted.Goals as goal

pub returns-in-Err : goal.returns-in-Err
returns-in-Err g c =
    let types = map (g.W.LocalType.ty c.args.way.now) c.args.items.now in
    let runs = local_runs types in
    let y = flat_map (λ x. (local_run x).bytes) runs in
    let n = c.args.count in
    cut_back {A = Unit {0}} g.S.Sink.rules (All (λ x. (local_run x).in_range) runs)
    (All (λ x. (local_run x).in_range) runs) c.args.out.now c.push_number.new.self c.put_runs-runs.new.out c.cut.new.self (unsigned n) y
    (locals types) c.size-start.result (Err c.in-Err.refusal)
    g.met.S.Sink.laws (omega (arith, length-append (unsigned (length runs)) y, ap (λ m. length (unsigned m)) c.requires.count))
    (λ i. i) c.in_ok-push_number.ensures.0 c.in-Err.ensures.runs refl c.size-start.ensures c.cut.ensures
