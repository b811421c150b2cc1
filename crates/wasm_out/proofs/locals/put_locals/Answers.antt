use Rattle.std.proofs.Common.{◌∷◌, [], ◌++◌, map, Err, refl, subst, length}
use Rattle.std.specs.Prelude.{All}
use Rattle.std.specs.List.{flat_map}
use Rattle.std.proofs.lemmas.Result.{err_from_is_err_and}
use Rattle.wasm_ops.specs.Leb128.{unsigned}
use Rattle.wasm_ops.proofs.Sinking.{cut_back}
use Rattle.wasm_ops.proofs.PutLengths.{no_longer, no_byte, number_set, put_anew}
use Rattle.wasm_out.specs.Bodies.{locals, local_runs, local_run}
use Rattle.wasm_out.proofs.locals.put_locals.Goals as goal

pub returns-in_err-push_bytes : goal.returns-in_err-push_bytes
returns-in_err-push_bytes g c =
    let runs = local_runs (map (g.W.LocalType.ty c.args.way.now) c.args.items.now) in
    let p = err_from_is_err_and c.from_residual.result c.from_residual.ensures.1 in
    rw (p.1, p.2) (no_byte (Unit {0}) g.S.Sink.rules (All (λ x. (local_run x).in_range) runs) c.args.out.now c.push_bytes.new.self 0 (length runs)
    (flat_map (λ x. (local_run x).bytes) runs) c.in_err-push_bytes.field-0.0 g.met.S.Sink.laws c.in_err-push_bytes.ensures)

pub returns-in-Err : goal.returns-in-Err
returns-in-Err g c =
    let types = map (g.W.LocalType.ty c.args.way.now) c.args.items.now in
    let runs = local_runs types in
    let y = flat_map (λ x. (local_run x).bytes) runs in
    cut_back {A = Unit {0}} g.S.Sink.rules (All (λ x. (local_run x).in_range) runs)
    (All (λ x. (local_run x).in_range) runs) c.args.out.now c.push_bytes.new.self c.put_runs.new.out c.cut.new.self (0 ∷ []) y
    (locals types) c.size-start.result (Err c.in-Err.refusal)
    g.met.S.Sink.laws (no_longer (length runs) y) (λ i. i) c.in_ok-push_bytes.ensures.0 c.in-Err.ensures.runs refl c.size-start.ensures c.cut.ensures

pub returns-then-set_number : goal.returns-then-set_number
returns-then-set_number g c =
    let of = g.S.Sink.rules in
    let laws = g.met.S.Sink.laws in
    let runs = local_runs (map (g.W.LocalType.ty c.args.way.now) c.args.items.now) in
    let y = flat_map (λ x. (local_run x).bytes) runs in
    let put = laws.joins c.args.out.now c.push_bytes.new.self c.put_runs.new.out (0 ∷ []) y c.in_ok-push_bytes.ensures.0 c.in-Ok.ensures.runs.0 in
    let set = number_set of c.args.out.now c.put_runs.new.out c.set_number.new.self 0 c.in-Ok.count y c.size-start.result c.set_number.result laws
    put c.size-start.ensures c.set_number.ensures c.if-set_number.true in
    (subst (λ n. of.appended c.args.out.now c.set_number.new.self (unsigned n ++ y)) c.in-Ok.ensures.count set, c.in-Ok.ensures.runs.1)

pub returns : goal.returns
returns g c =
    let of = g.S.Sink.rules in
    let laws = g.met.S.Sink.laws in
    let types = map (g.W.LocalType.ty c.args.way.now) c.args.items.now in
    let runs = local_runs types in
    let y = flat_map (λ x. (local_run x).bytes) runs in
    let put = laws.joins c.args.out.now c.push_bytes.new.self c.put_runs.new.out (0 ∷ []) y c.in_ok-push_bytes.ensures.0 c.in-Ok.ensures.runs.0 in
    put_anew of (All (λ x. (local_run x).in_range) runs)
    (All (λ x. (local_run x).in_range) runs) c.args.out.now c.put_runs.new.out c.set_number.new.self c.cut-2.new.self c.put_counted.new.out 0
    c.in-Ok.count y (locals types) c.size-start.result c.set_number.result c.put_counted.result
    laws put c.size-start.ensures c.set_number.ensures c.if-set_number.false c.cut-2.ensures (λ i. i) (λ i. i) c.put_counted.ensures
