use Rattle.std.proofs.Common.{◌≡◌, ◌≤◌, ◌<◌, ◌+◌, ◌++◌, length, map, drop, replicate}
use Rattle.std.specs.Prelude.{IsTrue}
use Rattle.wasm_out.specs.Bodies.{local_runs, local_run}
use Rattle.wasm_ops.specs.Spelling.{val_type}
use Rattle.wasm_out.proofs.WrittenLists.{Written}
use Rattle.wasm_out.proofs.locals.put_runs.Given as goal

abbrev pub invariant-loop-at : goal.invariant-loop-at
invariant-loop-at g l =
    let ty = g.W.LocalType.ty l.way in
    let left = local_runs (replicate l.run.0 l.run.1 ++ map ty (drop l.at l.items)) in
    record {
      told : Written g.S.Sink.rules (λ x. (local_run x).bytes) (λ x. (local_run x).in_range) (local_runs (map ty l.items)) left l.fn.out l.out;
      counted : l.count + length left ≡ length (local_runs (map ty l.items)) + 1;
      some : 0 < l.run.0;
      few : l.run.0 ≤ l.at;
      fewer : l.count ≤ l.at;
      covered : IsTrue (val_type l.run.1).is_covered;
      start : l.start ≡ g.S.Sink.rules.size_of l.fn.out;
    }
