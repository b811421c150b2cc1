use Rattle.std.proofs.Common.{◌+◌, ◌∷◌, ◌++◌, [], map, drop, replicate, length, Ok, Err, refl, sym, ap, ◌∙◌, subst, arith}
use Rattle.std.proofs.lemmas.List.Elements.{All-nil}
use Rattle.wasm_out.specs.Bodies.{local_runs, local_run}
use Rattle.wasm_out.proofs.LocalRuns.{some_items, next_local, run_grows, run_ends, run_last, second_passes}
use Rattle.wasm_ops.specs.Spelling.{val_type}
use Rattle.wasm_out.proofs.WrittenLists.{Written, written_more, written_not, written_last}
use Rattle.wasm_out.proofs.locals.put_runs.Goals as goal

pub loop-at-init : goal.loop-at-init
loop-at-init g c =
    let way = c.args.way.now in
    let ty = g.W.LocalType.ty way in
    let xs = c.args.items.now in
    let item = c.index-items-0.result in
    let some = some_items (length xs) (sym c.is_empty.ensures ∙ c.if-is_empty.false) in
    let begun = ap local_runs (next_local ty xs 0 c.local_type.result item some c.index-items-0.is c.local_type.ensures) in
    record {
      told = record { done = 0; behind = begun; appended = g.met.S.Sink.laws.none c.args.out.now; fitting = All-nil (λ x. (local_run x).in_range) };
      counted = omega (arith, ap length begun);
      some = omega arith;
      few = omega arith;
      fewer = omega arith;
      covered = ap (λ x. (val_type x).is_covered) (c.local_type.ensures ∙ ap ty c.index-items-0.is)
          ∙ second_passes (g.W.LocalType.is_ready way) (λ x. (val_type (ty x)).is_covered) xs 0 item some c.requires.ready;
      start = c.size-start.ensures;
    }

pub loop-at-preserved-then-is_same : goal.loop-at-preserved-then-is_same
loop-at-preserved-then-is_same g c =
    let ty = g.W.LocalType.ty c.args.way.now in
    let xs = c.args.items.now in
    let run = c.loop-at.run in
    let i = c.loop-at.invariant in
    let grown = run_grows ty xs c.loop-at.at run.0 run.1 c.local_type-next.result c.index-items-at.result c.loop-at-test.true c.index-items-at.is
    c.local_type-next.ensures (sym c.is_same.ensures ∙ c.if-is_same.true) in
    record {
      told = subst (λ left. Written g.S.Sink.rules (λ x. (local_run x).bytes) (λ x. (local_run x).in_range)
          (local_runs (map ty xs)) left c.args.out.now c.loop-at.out) grown i.told;
      counted = omega (arith, i.counted, ap length grown);
      some = omega (arith, i.some);
      few = omega (arith, i.few);
      fewer = omega (arith, i.fewer);
      covered = i.covered;
      start = i.start;
    }

pub returns-in-Err-clause-runs : goal.returns-in-Err-clause-runs
returns-in-Err-clause-runs g c =
    let ty = g.W.LocalType.ty c.args.way.now in
    let xs = c.args.items.now in
    let run = c.loop-at.run in
    let i = c.loop-at.invariant in
    let ended = run_ends ty xs c.loop-at.at run.0 run.1 c.local_type-next.result c.index-items-at.result i.some c.loop-at-test.true
    c.index-items-at.is c.local_type-next.ensures (sym c.is_same.ensures ∙ c.if-is_same.false) in
    written_not {A = Unit {0}} g.S.Sink.rules (λ x. (local_run x).bytes) (λ x. (local_run x).in_range) (local_runs (map ty xs))
    (local_runs (replicate run.0 run.1 ++ map ty (drop c.loop-at.at xs))) (local_runs (c.local_type-next.result ∷ map ty (drop (c.loop-at.at + 1) xs)))
    c.args.out.now c.loop-at.out c.put_run-result.new.out c.cut.new.self run c.size-start.result (Err c.in-Err.refusal)
    g.met.S.Sink.laws i.told ended c.in-Err.ensures refl i.start c.cut.ensures

pub loop-at-preserved : goal.loop-at-preserved
loop-at-preserved g c =
    let way = c.args.way.now in
    let ty = g.W.LocalType.ty way in
    let xs = c.args.items.now in
    let run = c.loop-at.run in
    let i = c.loop-at.invariant in
    let ended = run_ends ty xs c.loop-at.at run.0 run.1 c.local_type-next.result c.index-items-at.result i.some c.loop-at-test.true
    c.index-items-at.is c.local_type-next.ensures (sym c.is_same.ensures ∙ c.if-is_same.false) in
    record {
      told = written_more {A = Unit {0}} g.S.Sink.rules (λ x. (local_run x).bytes) (λ x. (local_run x).in_range) (local_runs (map ty xs))
          (local_runs (replicate run.0 run.1 ++ map ty (drop c.loop-at.at xs))) (local_runs (c.local_type-next.result ∷ map ty (drop (c.loop-at.at + 1) xs)))
          c.args.out.now c.loop-at.out c.put_run-result.new.out run (Ok c.in_default.field-0)
          g.met.S.Sink.laws i.told ended c.in_default.ensures refl;
      counted = omega (arith, i.counted, ap length ended);
      some = omega arith;
      few = omega arith;
      fewer = omega (arith, i.fewer);
      covered = ap (λ x. (val_type x).is_covered) (c.local_type-next.ensures ∙ ap ty c.index-items-at.is)
          ∙ second_passes (g.W.LocalType.is_ready way)
          (λ x. (val_type (ty x)).is_covered) xs c.loop-at.at c.index-items-at.result c.loop-at-test.true c.requires.ready;
      start = i.start;
    }

pub returns-in-Err-last-clause-runs : goal.returns-in-Err-last-clause-runs
returns-in-Err-last-clause-runs g c =
    let ty = g.W.LocalType.ty c.args.way.now in
    let xs = c.args.items.now in
    let run = c.loop-at.run in
    let i = c.loop-at.invariant in
    written_not {A = Unit {0}} g.S.Sink.rules (λ x. (local_run x).bytes) (λ x. (local_run x).in_range) (local_runs (map ty xs))
    (local_runs (replicate run.0 run.1 ++ map ty (drop c.loop-at.at xs))) []
    c.args.out.now c.loop-at.out c.put_run-last.new.out c.cut-in-Err-last.new.self run c.size-start.result (Err c.in-Err-last.refusal)
    g.met.S.Sink.laws i.told (run_last ty xs c.loop-at.at run.0 run.1 i.some c.loop-at-test.false) c.in-Err-last.ensures refl i.start c.cut-in-Err-last.ensures

pub returns-clause-runs : goal.returns-clause-runs
returns-clause-runs g c =
    let ty = g.W.LocalType.ty c.args.way.now in
    let xs = c.args.items.now in
    let run = c.loop-at.run in
    let i = c.loop-at.invariant in
    written_last {A = Unit {0}} g.S.Sink.rules (λ x. (local_run x).bytes) (λ x. (local_run x).in_range) (local_runs (map ty xs))
    (local_runs (replicate run.0 run.1 ++ map ty (drop c.loop-at.at xs)))
    c.args.out.now c.loop-at.out c.put_run-last.new.out run (Ok c.in_default-last.field-0)
    g.met.S.Sink.laws i.told (run_last ty xs c.loop-at.at run.0 run.1 i.some c.loop-at-test.false) c.in_default-last.ensures refl

pub returns-clause-count : goal.returns-clause-count
returns-clause-count g c =
    let run = c.loop-at.run in
    let i = c.loop-at.invariant in
    omega (arith, i.counted, ap length (run_last (g.W.LocalType.ty c.args.way.now) c.args.items.now c.loop-at.at run.0 run.1 i.some c.loop-at-test.false))
