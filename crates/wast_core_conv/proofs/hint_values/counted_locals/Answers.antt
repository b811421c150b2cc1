use Rattle.std.proofs.Common.{◌&&◌, ◌∙◌, inl, inr, refl, arith}
use Rattle.std.proofs.lemmas.Result.{err_from_is_err_and}
use Rattle.wast_tree_nodes.specs.Sites.{in_local}
use Rattle.wast_core_conv.specs.Encodable.{are_encodable}
use Rattle.wast_core_conv.specs.Meaning as meaning
use Rattle.wast_core_conv.proofs.EachPasses.{both_true, each_then}
use Rattle.wasm_ops.specs.Spelling.{val_type}
use Rattle.wast_core_conv.proofs.TypesReady.{local_covered}
use Rattle.wast_core_conv.proofs.hint_values.counted_locals.Goals as goal

pub encode-requires : goal.encode-requires
encode-requires c =
    each_then (λ l. are_encodable (in_local l)) (λ l. are_encodable (in_local l) && (val_type (meaning.as_val_type l.ty)).is_covered)
    (λ l h. both_true _ _ h (local_covered l h)) c.args.locals.now c.requires

pub returns-in_err-encode-clause-err : goal.returns-in_err-encode-clause-err
returns-in_err-encode-clause-err c =
    let p = err_from_is_err_and c.from_residual.result c.from_residual.ensures.1 in
    let zero = c.new-length.ensures in
    elim c.in_err-encode.ensures.1 [
      | inl q ↦ rw p.1 (p.2 ∙ q.0, λ h. let few = h.0 in q.1 (omega arith))
      | inr q ↦ rw p.1 (p.2 ∙ q.0, λ h. q.1 h.1)
    ]

pub returns-in-Ok-clause-ok : goal.returns-in-Ok-clause-ok
returns-in-Ok-clause-ok c =
    let zero = c.new-length.ensures in
    let told = c.in_ok-encode.ensures in
    let is = told.0 in
    let seen = c.count.ensures in
    let kept = c.in-Ok.ensures in
    (omega arith, (omega arith, told.1))

pub returns-in-Err-clause-err : goal.returns-in-Err-clause-err
returns-in-Err-clause-err c =
    let zero = c.new-length.ensures in
    let is = c.in_ok-encode.ensures.0 in
    let seen = c.count.ensures in
    (refl, λ h. let few = h.0 in c.in-Err.ensures (omega arith))
