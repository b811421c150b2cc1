use Rattle.std.proofs.Common.{true, refl}
use Rattle.wasm_ops.specs.Control.{catch_clause}
use Rattle.wasm_ops.specs.Spelling.{vec, InRangeVec}
use Rattle.wasm_ops.proofs.Instructing.{try_table_written}
use Rattle.wasm_ops.proofs.Sinking.{all_covered}
use Rattle.wasm_ops.proofs.instr_sink.CatchTableEncode.encode.Goals as goal

pub encode-requires : goal.encode-requires
encode-requires g c = rw (c.requires, all_covered (λ _. true) c.args.self.now.1.now (λ x. refl)) refl

pub returns : goal.returns
returns g c =
    let clauses = c.args.self.now.1.now in
    try_table_written g.S.Sink.rules c.args.out.now c.encode.new.out c.args.self.now.0 clauses (vec (λ x. (catch_clause x).bytes) clauses)
    (InRangeVec (λ x. (catch_clause x).in_range) clauses) c.encode.result refl (λ h. h) (λ h. h) c.encode.ensures
